-- Bytes in pieces.
use Rattle.std.specs.Prelude.{ℕ, ◌==◌, List}
use Rattle.std.specs.List.{slice_split}

-- the pieces of bytes between the ones that are the separator
unfoldable pub pieces_of : ℕ → List ℕ → List (List ℕ)
pieces_of separator bytes = slice_split (λ b. b == separator) bytes
