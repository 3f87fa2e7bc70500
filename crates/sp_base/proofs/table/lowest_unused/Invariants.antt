use Rattle.std.proofs.Common.{◌≡◌}
use Rattle.sp_base.specs.Table.{lowest_unused}
use Rattle.sp_base.proofs.table.lowest_unused.Given as goal

abbrev pub invariant-loop-i : goal.invariant-loop-i
invariant-loop-i g l = lowest_unused l.table l.i ≡ lowest_unused l.table l.least
