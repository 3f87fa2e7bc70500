use Rattle.std.proofs.Common.{◌≡◌, replicate, None}
use Rattle.sp_base.proofs.table.blank.Given as goal

abbrev pub invariant-loop : goal.invariant-loop
invariant-loop g l = l.table.items ≡ replicate l.counter None
