use Rattle.std.proofs.Common.{◌≡◌, ◌≤◌, ◌+◌, drop, map}
use Rattle.guest_language.specs.Length.{guest_line_count}
use Rattle.guest_language.proofs.length.guest_line_count.Given as goal

abbrev pub invariant-loop-line : goal.invariant-loop-line
invariant-loop-line l = record {
  count : l.count + guest_line_count (map (λ w. w.now) (drop l.line-index l.lines)) ≡ guest_line_count (map (λ w. w.now) l.lines);
  within : l.count ≤ l.line-index;
}
