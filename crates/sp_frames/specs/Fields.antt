-- Numbers as bytes, the lowest byte first.
use Rattle.std.specs.Prelude.{ℕ, ◌<◌, ◌^◌, List, slice_index}
use Rattle.std.specs.List.{flat_map}
use Rattle.std.specs.Int.{w16, w32, w64, to_le_bytes, from_le_bytes}

-- the two bytes of a number
unfoldable pub le16 : ℕ → List ℕ
le16 n = to_le_bytes w16 n

-- the four bytes of a number
unfoldable pub le32 : ℕ → List ℕ
le32 n = to_le_bytes w32 n

-- the eight bytes of a number
unfoldable pub le64 : ℕ → List ℕ
le64 n = to_le_bytes w64 n

-- the number of two bytes
unfoldable pub of16 : List ℕ → ℕ
of16 bytes = from_le_bytes w16 bytes

-- the number of four bytes
unfoldable pub of32 : List ℕ → ℕ
of32 bytes = from_le_bytes w32 bytes

-- the number of eight bytes
unfoldable pub of64 : List ℕ → ℕ
of64 bytes = from_le_bytes w64 bytes

-- each item is a byte
abbrev pub IsBytes : List ℕ → Type 0
IsBytes bytes = (i : ℕ) → slice_index bytes i < 2 ^ 8

-- a number of 16, 32 or 64 bits
pub data Number : Type 0 where
  n16 : ℕ → Number
  n32 : ℕ → Number
  n64 : ℕ → Number

-- the bytes of a number
abbrev pub number_bytes : Number → List ℕ
number_bytes (n16 n) = le16 n
number_bytes (n32 n) = le32 n
number_bytes (n64 n) = le64 n

-- a number is within its width
abbrev pub NumberFits : Number → Type 0
NumberFits (n16 n) = n < 2 ^ 16
NumberFits (n32 n) = n < 2 ^ 32
NumberFits (n64 n) = n < 2 ^ 64

-- the bytes of numbers, one after the other
abbrev pub front_bytes : List Number → List ℕ
front_bytes numbers = flat_map number_bytes numbers
