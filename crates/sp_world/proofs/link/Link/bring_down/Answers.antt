use Rattle.std.proofs.Common.{inr, refl, rules}
use Rattle.sp_world.proofs.Moving.{brings_down}
use Rattle.sp_world.proofs.Wants.{client_kept}
use Rattle.sp_world.proofs.link.Link.bring_down.Goals as goal

pub returns-in-NoMemory : goal.returns-in-NoMemory
returns-in-NoMemory c = inr (refl, refl, client_kept _ _ _ _ c.in-NoMemory.ensures.plays)

pub returns-in_default-play : goal.returns-in_default-play
returns-in_default-play c =
    brings_down _ _ _ _ _ c.in-Some.frame.now c.in-Ok.copy _ c.self.view_is (search rules) c.in-Some.ensures.lookup (rw c.pop_front.ensures.rest refl) c.in-Ok.ensures c.play.ensures.plays
    c.in_default-play.not-NoMemory
