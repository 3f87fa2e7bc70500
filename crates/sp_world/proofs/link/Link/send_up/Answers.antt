use Rattle.std.proofs.Common.{refl}
use Rattle.sp_world.proofs.Moving.{nothing_up}
use Rattle.sp_world.proofs.link.Link.send_up.Goals as goal

pub returns : goal.returns
returns c = nothing_up _ _ _ _ _ c.take.result c.self.view_is (rw c.reserve.ensures.items refl) c.take.ensures.plays c.in_default.not-Out
