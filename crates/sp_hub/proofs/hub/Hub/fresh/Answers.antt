use Rattle.hub_model.proofs.Sound.{fresh_sound}
use Rattle.sp_hub.proofs.hub.Hub.fresh.Goals as goal

pub invariant_of-result : goal.invariant_of-result
invariant_of-result c = rw c.in_ok-core.ensures (fresh_sound _)
