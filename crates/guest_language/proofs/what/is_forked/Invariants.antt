use Rattle.std.proofs.Common.{◌≡◌, drop}
use Rattle.guest_language.specs.What.{is_forked}
use Rattle.guest_language.proofs.what.is_forked.Given as goal

abbrev pub invariant-loop-section : goal.invariant-loop-section
invariant-loop-section l = is_forked l.child (drop l.section-index l.sections) ≡ is_forked l.child l.sections
