use Rattle.std.proofs.Common.{◌≡◌, ◌+◌, [], drop, map}
use Rattle.guest_language.specs.Sections.{steps}
use Rattle.guest_language.proofs.reading.steps.Given as goal

abbrev pub invariant-loop-line : goal.invariant-loop-line
invariant-loop-line l = record {
  place : l.at ≡ l.line-index;
  read : steps (map (λ w. w.now) l.names) l.sections.items (l.at + 1) (map (λ w. w.now) (drop l.line-index l.lines)) ≡ steps (map (λ w. w.now) l.names) [] 1 (map (λ w. w.now) l.lines);
}
