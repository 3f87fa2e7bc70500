use Rattle.std.proofs.Common.{◌≡◌, ◌++◌, drop, map}
use Rattle.std.specs.Fmt.{decimal}
use Rattle.script_words.specs.Words.{spaced}
use Rattle.guest_journal.proofs.word.put_numbers.Given as goal

abbrev pub invariant-loop-n : goal.invariant-loop-n
invariant-loop-n l = l.out ++ spaced (map decimal (drop l.n-index l.numbers)) ≡ l.fn.out ++ spaced (map decimal l.numbers)
