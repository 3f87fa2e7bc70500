use Rattle.std.proofs.Common.{◌≡◌, drop}
use Rattle.guest_language.specs.Sections.{is_taken}
use Rattle.guest_language.proofs.reading.is_taken.Given as goal

abbrev pub invariant-loop-section : goal.invariant-loop-section
invariant-loop-section l = is_taken (drop l.section-index l.sections) l.name ≡ is_taken l.sections l.name
