use Rattle.std.proofs.Common.{◌≡◌, drop}
use Rattle.std.specs.Prelude.{fold}
use Rattle.hijack_rules.specs.Families.{side_after, side_by}
use Rattle.hijack_rules.proofs.families.side_by.Given as goal

abbrev pub invariant-loop-word : goal.invariant-loop-word
invariant-loop-word l = fold (side_after l.family) l.side (drop l.word-index l.words) ≡ side_by l.family l.words
