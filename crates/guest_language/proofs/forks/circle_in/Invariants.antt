use Rattle.std.proofs.Common.{◌≡◌, drop}
use Rattle.guest_language.specs.Forks.{circle_from}
use Rattle.guest_language.proofs.forks.circle_in.Given as goal

abbrev pub invariant-loop-i : goal.invariant-loop-i
invariant-loop-i l = circle_from l.parents l.sections l.i (drop l.i l.sections) ≡ circle_from l.parents l.sections 0 l.sections
