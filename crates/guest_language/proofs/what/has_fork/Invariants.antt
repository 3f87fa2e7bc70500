use Rattle.std.proofs.Common.{◌≡◌, drop}
use Rattle.guest_language.specs.What.{has_fork}
use Rattle.guest_language.proofs.what.has_fork.Given as goal

abbrev pub invariant-loop-line : goal.invariant-loop-line
invariant-loop-line l = has_fork l.child (drop l.line-index l.lines) ≡ has_fork l.child l.lines
