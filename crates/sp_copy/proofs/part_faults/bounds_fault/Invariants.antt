use Rattle.std.proofs.Common.{◌≡◌, drop}
use Rattle.sp_copy.specs.Faults.{bounds_fault}
use Rattle.sp_copy.proofs.part_faults.bounds_fault.Given as goal

abbrev pub invariant-loop-i : goal.invariant-loop-i
invariant-loop-i l = bounds_fault l.i (drop l.i l.parts) ≡ bounds_fault 0 l.parts
