use Rattle.std.proofs.Common.{◌≡◌, length}
use Rattle.script_words.specs.Pieces.{pieces_of}
use Rattle.hijack_split.specs.Text.{rows_set}
use Rattle.hijack_split.proofs.read_text.set_rows.Given as goal

abbrev pub invariant-loop-piece : goal.invariant-loop-piece
invariant-loop-piece l = rows_set l.least l.aliases (pieces_of 44 l.rest) ≡ rows_set 0 l.fn.aliases (pieces_of 44 l.rows)

abbrev pub decreases-loop-piece : goal.decreases-loop-piece
decreases-loop-piece l = length l.rest
