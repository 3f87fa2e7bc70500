use Rattle.std.proofs.Common.{◌≡◌, take, map}
use Rattle.sp_hub.proofs.telling.blanks.Given as goal

abbrev pub invariant-loop-range : goal.invariant-loop-range
invariant-loop-range l = l.blanks ≡ map (λ r. r.len) (take l.range-index l.ranges)
