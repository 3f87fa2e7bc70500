use Rattle.std.proofs.Common.{sym, subst}
use Rattle.sp_world.specs.Told.{IsRun, nothing_told}
use Rattle.sp_world.proofs.Telling.{nothing_run, same_told}
use Rattle.sp_world.proofs.world.World.fresh.Goals as goal

pub invariant_of-result : goal.invariant_of-result
invariant_of-result c =
    let same = same_told nothing_told c.in_ok-fresh.field-0 c.none.result.events.items c.none.result.refused.items c.in_ok-fresh.ensures
    c.none.ensures.events c.none.ensures.refused in
    subst IsRun (sym same) nothing_run
