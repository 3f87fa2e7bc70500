use Rattle.guest_run.proofs.joined.Joined.to_server.Goals as goal

pub send-requires : goal.send-requires
send-requires c = c.take.ensures.fits c.in-Out.frame c.in-Out.is
