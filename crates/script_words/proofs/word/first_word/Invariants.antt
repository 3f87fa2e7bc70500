use Rattle.std.proofs.Common.{◌≡◌, drop}
use Rattle.script_words.specs.Words.{words_from, words_of}
use Rattle.script_words.proofs.word.first_word.Given as goal

abbrev pub invariant-loop-i : goal.invariant-loop-i
invariant-loop-i l = words_from 0 (drop l.i l.line) ≡ words_of l.line
