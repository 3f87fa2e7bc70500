use Rattle.std.proofs.Common.{refl}
use Rattle.sp_world.proofs.Moving.{nothing_down}
use Rattle.sp_world.proofs.link.Link.send_down.Goals as goal

pub returns-in_default : goal.returns-in_default
returns-in_default c = nothing_down _ _ _ _ _ _ c.take.result c.self.view_is (rw c.reserve.ensures.items refl) c.take.ensures.plays c.in_default.not-Out
