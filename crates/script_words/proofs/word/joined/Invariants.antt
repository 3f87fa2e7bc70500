use Rattle.std.proofs.Common.{◌≡◌, ◌++◌, map, drop}
use Rattle.script_words.specs.Words.{joined, spaced}
use Rattle.script_words.proofs.word.joined.Given as goal

abbrev pub invariant-loop-word : goal.invariant-loop-word
invariant-loop-word l = l.line ++ spaced (map (λ w. w.now) (drop l.word-index l.rest)) ≡ joined (map (λ w. w.now) l.words)
