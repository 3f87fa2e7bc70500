use Rattle.std.proofs.Common.{◌≡◌, drop}
use Rattle.guest_language.specs.Forks.{parent_from}
use Rattle.guest_language.proofs.forks.parent_of.Given as goal

abbrev pub invariant-loop-i : goal.invariant-loop-i
invariant-loop-i l = parent_from l.child l.i (drop l.i l.sections) ≡ parent_from l.child 0 l.sections
