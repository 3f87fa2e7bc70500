use Rattle.hub_model.proofs.Sound.{plays_sound}
use Rattle.hub_model.specs.declared.event.Event.TheVariants as event
use Rattle.sp_hub.proofs.hub.Hub.opened.Goals as goal

pub invariant_of-self : goal.invariant_of-self
invariant_of-self c = plays_sound c.self.inside.core c.opened.new.self (event.Opened c.args.no) c.opened.result c.self.invariant c.opened.ensures.plays
