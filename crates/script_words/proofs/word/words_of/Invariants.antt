use Rattle.std.proofs.Common.{◌≡◌, ◌++◌, map, drop}
use Rattle.script_words.specs.Words.{words_of, words_from}
use Rattle.script_words.proofs.word.words_of.Given as goal

abbrev pub invariant-loop-i : goal.invariant-loop-i
invariant-loop-i l = map (λ w. w.now) l.words.items ++ words_from l.skip (drop l.i l.line) ≡ words_of l.line
