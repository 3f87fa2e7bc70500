use Rattle.sp_hub.proofs.AtOnce.{stays_sound}
use Rattle.sp_hub.proofs.hub.Hub.at_once.Goals as goal

pub invariant_of-self : goal.invariant_of-self
invariant_of-self c = stays_sound c.self.inside.core c.at_once.new.self c.args.no c.args.frame.now c.at_once.result c.self.invariant c.at_once.ensures.plays c.at_once.ensures.none
