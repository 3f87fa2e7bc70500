-- Numbers in the bytes that a call writes.
use Rattle.std.specs.Prelude.{ℕ, List, drop, take}
use Rattle.std.specs.Int.{from_le_bytes, w16, w32, w64}

-- the number of two bytes at a place, low byte first
unfoldable pub u16_in : ℕ → List ℕ → ℕ
u16_in at bytes = from_le_bytes w16 (take 2 (drop at bytes))

-- the number of four bytes at a place, low byte first
unfoldable pub u32_in : ℕ → List ℕ → ℕ
u32_in at bytes = from_le_bytes w32 (take 4 (drop at bytes))

-- the number of eight bytes at a place, low byte first
unfoldable pub u64_in : ℕ → List ℕ → ℕ
u64_in at bytes = from_le_bytes w64 (take 8 (drop at bytes))
