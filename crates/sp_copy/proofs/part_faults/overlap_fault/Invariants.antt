use Rattle.std.proofs.Common.{◌≡◌, [], drop, take}
use Rattle.sp_copy.specs.Faults.{overlap_fault}
use Rattle.sp_copy.proofs.part_faults.overlap_fault.Given as goal

abbrev pub invariant-loop-j : goal.invariant-loop-j
invariant-loop-j l = overlap_fault (take l.j l.parts) (drop l.j l.parts) ≡ overlap_fault [] l.parts
