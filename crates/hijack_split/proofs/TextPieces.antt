-- How a text falls into pieces.
use Rattle.std.proofs.Common.{ℕ, ◌<◌, List, length, arith, ◌==◌}
use Rattle.std.proofs.lemmas.List.Splits.{length-slice_split}
use Rattle.script_words.specs.Pieces.{pieces_of}

-- there is always a piece
pub some_piece : (separator : ℕ) (bytes : List ℕ) → 0 < length (pieces_of separator bytes)
unfolding pieces_of
some_piece separator bytes = let count = length-slice_split (λ b. b == separator) bytes in omega (arith, count)
