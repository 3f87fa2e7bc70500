use Rattle.std.proofs.Common.{◌≡◌, ◌++◌, drop}
use Rattle.hijack_split.specs.Text.{rows_text}
use Rattle.hijack_split.proofs.text.put_rows.Given as goal

abbrev pub invariant-loop-i : goal.invariant-loop-i
invariant-loop-i l = l.out ++ rows_text l.i (drop l.i l.aliases) ≡ l.fn.out ++ rows_text 0 l.aliases
