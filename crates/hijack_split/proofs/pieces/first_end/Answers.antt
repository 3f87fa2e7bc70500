use Rattle.std.proofs.Common.{sym}
use Rattle.script_words.proofs.PieceLaws.{pieces_none, pieces_some}
use Rattle.hijack_split.proofs.TextPieces.{some_piece}
use Rattle.hijack_split.proofs.pieces.first_end.Goals as goal

pub returns-in-None : goal.returns-in-None
returns-in-None c = record { last = pieces_none _ _ (sym c.in-None.ensures.place); within = tt; first = tt; more = tt }

pub returns-in-Some : goal.returns-in-Some
returns-in-Some c = record { last = tt; within = c.in-Some.ensures.within; first = pieces_some _ _ _ (sym c.in-Some.ensures.place); more = some_piece _ _ }
