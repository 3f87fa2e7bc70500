use Rattle.hub_model.proofs.Sound.{plays_sound}
use Rattle.hub_model.specs.declared.event.Event.TheVariants as event
use Rattle.sp_hub.proofs.hub.Hub.work.Goals as goal

pub invariant_of-self : goal.invariant_of-self
invariant_of-self c = plays_sound c.self.inside.core c.work.new.self (event.Work c.args.no c.args.number) c.work.result c.self.invariant c.work.ensures.plays
