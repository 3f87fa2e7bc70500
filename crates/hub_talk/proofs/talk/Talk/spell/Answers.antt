use Rattle.hub_talk.proofs.talk.Talk.spell.Goals as goal

pub encode-requires : goal.encode-requires
encode-requires c = c.play.ensures.fits c.in-Out.frame c.in-Out.is
