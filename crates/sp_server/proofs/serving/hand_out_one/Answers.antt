use Rattle.sp_server.proofs.serving.hand_out_one.Goals as goal

pub encode-requires : goal.encode-requires
encode-requires c = c.take.ensures.fits c.in-Out.frame c.in-Out.is
