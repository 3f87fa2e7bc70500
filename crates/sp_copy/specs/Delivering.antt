-- What an answered call writes into its caller's memory.
use Rattle.std.specs.Prelude.{ℕ, Bool, List, None, Option, Some, [], ◌∷◌, false, length, true}
use Rattle.std.specs.List.{list_any}
use Rattle.sp_base.specs.Errno.{errno_number}
use Rattle.sp_base.specs.declared.errno.Errno.TheVariants.{Efault}
use Rattle.sp_base.specs.declared.names.Answer.{Answer}
use Rattle.sp_copy.specs.declared.delivery.Delivery.{Delivery}
use Rattle.sp_copy.specs.declared.part.Part.{Part}
use Rattle.sp_copy.specs.Parts.{in_range}
use Rattle.sp_copy.specs.Writing.{written}

-- bytes, and the address that they are written to
pub record Piece : Type 0 where
  pub addr : ℕ
  pub bytes : List ℕ

-- a delivery after a write: the memory is the same, and not all is written, where it couldn't be made
abbrev pub after_write : Delivery → Option (List Part) → Delivery
after_write d None = record d { whole = false }
after_write d (Some parts) = record d { mem = parts }

-- a delivery after one more piece
abbrev pub put_piece : Delivery → Piece → Delivery
put_piece d piece = after_write d (written d.mem piece.addr piece.bytes)

-- a delivery after more pieces, in order
abbrev pub put_pieces : Delivery → List Piece → Delivery
put_pieces d [] = d
put_pieces d (piece ∷ pieces) = put_pieces (put_piece d piece) pieces

-- the caller's answer: EFAULT with both values 0 and the same place, where a piece wasn't written
abbrev pub answer_after : Bool → Answer → Answer
answer_after true answer = answer
answer_after false answer = record answer { err = errno_number Efault; ret0 = 0; ret1 = 0 }

-- the answer and the memory at a delivery's end
abbrev pub at_end : Delivery → Answer → Answer × List Part
at_end d answer = (answer_after d.whole answer, d.mem)

-- what a caller sees of a call that was answered so and writes these pieces: its answer, and its memory
abbrev pub deliver : List Piece → Answer → List Part → Answer × List Part
deliver pieces answer parts = at_end (put_pieces (record { mem = parts; whole = true }) pieces) answer

-- the address is one of a piece's
abbrev pub in_pieces : List Piece → ℕ → Bool
in_pieces pieces a = list_any (λ piece. in_range piece.addr (length piece.bytes) a) pieces
