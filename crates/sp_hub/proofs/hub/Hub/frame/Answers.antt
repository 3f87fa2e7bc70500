use Rattle.hub_model.proofs.Sound.{plays_sound}
use Rattle.hub_model.specs.declared.event.Event.TheVariants as event
use Rattle.sp_hub.proofs.hub.Hub.frame.Goals as goal

pub invariant_of-self : goal.invariant_of-self
invariant_of-self c = plays_sound c.self.inside.core c.frame.new.self (event.Frame c.args.no c.args.frame c.args.salt) c.frame.result c.self.invariant c.frame.ensures.plays
