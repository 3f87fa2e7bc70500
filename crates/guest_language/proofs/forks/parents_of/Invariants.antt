use Rattle.std.proofs.Common.{◌≡◌, ◌++◌, drop}
use Rattle.guest_language.specs.Forks.{parents_from}
use Rattle.guest_language.proofs.forks.parents_of.Given as goal

abbrev pub invariant-loop-i : goal.invariant-loop-i
invariant-loop-i l = l.parents.items ++ parents_from l.sections l.i (drop l.i l.sections) ≡ parents_from l.sections 0 l.sections
