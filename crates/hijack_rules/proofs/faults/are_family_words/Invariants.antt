use Rattle.std.proofs.Common.{◌≡◌, drop}
use Rattle.std.specs.List.{list_all}
use Rattle.hijack_rules.specs.Families.{is_family_word}
use Rattle.hijack_rules.proofs.faults.are_family_words.Given as goal

abbrev pub invariant-loop-word : goal.invariant-loop-word
invariant-loop-word l = list_all is_family_word (drop l.word-index l.words) ≡ list_all is_family_word l.words
