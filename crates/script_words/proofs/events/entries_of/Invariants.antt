use Rattle.std.proofs.Common.{◌≡◌, [], drop, map}
use Rattle.script_words.specs.Events.{entries_from}
use Rattle.script_words.proofs.events.entries_of.Given as goal

abbrev pub invariant-loop-word : goal.invariant-loop-word
invariant-loop-word l = entries_from l.bytes (map (λ w. w.now) (drop l.word-index l.words)) ≡ entries_from [] (map (λ w. w.now) l.words)
