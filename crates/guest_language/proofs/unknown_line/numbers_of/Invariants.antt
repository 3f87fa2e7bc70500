use Rattle.std.proofs.Common.{◌≡◌, ◌≤◌, ◌+◌, [], drop, length, map}
use Rattle.guest_language.specs.Made.{numbers_from}
use Rattle.guest_language.proofs.unknown_line.numbers_of.Given as goal

abbrev pub invariant-loop-word : goal.invariant-loop-word
invariant-loop-word l = record {
  read : numbers_from l.numbers (map (λ w. w.now) (drop l.word-index l.words)) ≡ numbers_from [] (map (λ w. w.now) l.words);
  count : length l.numbers ≡ l.word-index;
}
