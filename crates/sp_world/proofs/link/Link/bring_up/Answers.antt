use Rattle.std.proofs.Common.{inr, refl, rules}
use Rattle.sp_world.proofs.Moving.{brings_up}
use Rattle.sp_world.proofs.Wants.{server_kept}
use Rattle.sp_world.proofs.link.Link.bring_up.Goals as goal

pub returns-in-NoMemory : goal.returns-in-NoMemory
returns-in-NoMemory c = inr (refl, refl, server_kept _ _ _ c.in-NoMemory.ensures.plays)

pub returns-in_default-frame : goal.returns-in_default-frame
returns-in_default-frame c =
    brings_up _ _ _ _ _ _ c.in-Some.frame.now c.in-Ok.copy _ _ c.self.view_is (search rules) c.in-Some.ensures.lookup (rw c.pop_front.ensures.rest refl) c.in-Ok.ensures c.frame.ensures.plays
    c.in_default-frame.not-NoMemory
