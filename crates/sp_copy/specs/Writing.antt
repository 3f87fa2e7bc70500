-- What is written into a memory.
use Rattle.std.specs.Prelude.{◌≡◌, ℕ, ◌+◌, ◌-◌, ◌++◌, ◌&&◌, Bool, List, None, Option, Some, [], ◌∷◌, drop, false, if◌then◌else◌, length, slice_get, slice_index_or, slice_set, suc, take}
use Rattle.std.specs.Option.{option_map}
use Rattle.sp_copy.specs.declared.part.Part.{Part}
use Rattle.sp_copy.specs.declared.part.Right.{Right}
use Rattle.sp_copy.specs.Parts.{can_write, has_range, root_part}

-- the part may be written, and has the whole range
abbrev pub takes : ℕ → ℕ → Part → Bool
takes addr len p = can_write p.right && has_range addr len p

-- the place of the first part that takes the range
abbrev pub taker : ℕ → ℕ → List Part → Option ℕ
taker addr len [] = None
taker addr len (p ∷ ps) = if takes addr len p then Some 0 else option_map suc (taker addr len ps)

-- a part with other bytes from an address on
abbrev pub put_in : Part → ℕ → List ℕ → Part
put_in p addr bytes = record p { bytes = take (addr - p.base) p.bytes ++ bytes ++ drop (addr - p.base + length bytes) p.bytes }

-- the parts with other bytes in the one at a place
abbrev pub written_at : List Part → ℕ → List ℕ → Option ℕ → Option (List Part)
written_at parts addr bytes None = None
written_at parts addr bytes (Some i) = Some (slice_set parts i (put_in (slice_index_or parts i root_part) addr bytes))

-- the parts after a write; none where no part takes the whole range
abbrev pub written : List Part → ℕ → List ℕ → Option (List Part)
written parts addr bytes = written_at parts addr bytes (taker addr (length bytes) parts)

-- a part keeps its place, its right, its length, and each byte whose address passes no test
pub record IsSamePart (changes : ℕ → Bool) (p q : Part) : Type 0 where
  pub base : p.base ≡ q.base
  pub right : p.right ≡ q.right
  pub len : length p.bytes ≡ length q.bytes
  pub bytes : (k : ℕ) → changes (p.base + k) ≡ false → slice_get p.bytes k ≡ slice_get q.bytes k

-- a memory keeps its parts, and each byte whose address passes no test
abbrev pub ChangesOnly : (ℕ → Bool) → List Part → List Part → Type 0
ChangesOnly changes [] [] = Unit {0}
ChangesOnly changes (p ∷ ps) (q ∷ qs) = IsSamePart changes p q × ChangesOnly changes ps qs
ChangesOnly changes [] (q ∷ qs) = ⊥
ChangesOnly changes (p ∷ ps) [] = ⊥
