use Rattle.std.proofs.Common.{◌≡◌, ◌≤◌, ◌++◌, drop, length, map}
use Rattle.guest_language.specs.Names.{names_of}
use Rattle.guest_language.proofs.names.names_of.Given as goal

abbrev pub invariant-loop-line : goal.invariant-loop-line
invariant-loop-line l = record {
  names : map (λ w. w.now) l.names.items ++ names_of (map (λ w. w.now) (drop l.line-index l.lines)) ≡ names_of (map (λ w. w.now) l.lines);
  few : length l.names.items ≤ l.line-index;
}
