use Rattle.cut_talk.proofs.talk.Talk.to_client.Goals as goal

pub pass-requires : goal.pass-requires
pass-requires c = c.take.ensures.fits c.in-Out.frame c.in-Out.is
