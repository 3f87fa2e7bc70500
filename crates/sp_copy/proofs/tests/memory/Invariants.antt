use Rattle.std.proofs.Common.{◌≡◌, length}
use Rattle.sp_copy.proofs.tests.memory.Given as goal

abbrev pub invariant-loop-row : goal.invariant-loop-row
invariant-loop-row l = length l.parts ≡ l.row-index
