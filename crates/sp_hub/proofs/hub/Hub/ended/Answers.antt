use Rattle.std.proofs.Common.{inl, true}
use Rattle.hub_model.proofs.Sound.{plays_sound}
use Rattle.hub_model.specs.declared.event.Event.TheVariants as event
use Rattle.sp_hub.proofs.hub.Hub.ended.Goals as goal

pub invariant_of-self : goal.invariant_of-self
invariant_of-self c = plays_sound c.self.inside.core c.ended.new.self (event.Ended c.args.no c.args.finish) c.ended.result c.self.invariant (inl (true, c.ended.ensures.plays))
