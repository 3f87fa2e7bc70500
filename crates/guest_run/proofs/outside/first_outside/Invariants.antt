use Rattle.std.proofs.Common.{◌≡◌, drop}
use Rattle.guest_run.specs.Outside.{first_outside}
use Rattle.guest_run.proofs.outside.first_outside.Given as goal

abbrev pub invariant-loop-line : goal.invariant-loop-line
invariant-loop-line l = first_outside (drop l.line-index l.lines) ≡ first_outside l.lines
