use Rattle.std.proofs.Common.{◌≡◌, [], drop}
use Rattle.script_words.specs.Texts.{text_from}
use Rattle.script_words.proofs.text.text_before.Given as goal

abbrev pub invariant-loop-i : goal.invariant-loop-i
invariant-loop-i l = text_from l.text l.skip (drop l.i l.body) ≡ text_from [] 0 l.body
