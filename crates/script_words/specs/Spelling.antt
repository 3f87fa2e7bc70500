-- Numbers and bytes as text.
use Rattle.std.specs.Prelude.{ℕ, ◌+◌, ◌-◌, ◌/◌, ◌%◌, ◌^◌, ◌==◌, ◌&&◌, ◌++◌, List, [], ◌∷◌, codes, if◌then◌else◌, nat_le, nat_lt}
use Rattle.std.specs.Fmt.{decimal}
use Rattle.std.specs.List.{flat_map}

-- a word in two's complement, in decimal
unfoldable pub signed : ℕ → List ℕ
signed word = if nat_lt word (2 ^ 63) then decimal word else 45 ∷ decimal (2 ^ 64 - word)

-- a hexadecimal digit, in lower case
abbrev pub hex_char : ℕ → ℕ
hex_char d = if nat_lt d 10 then 48 + d else 87 + d

-- a byte between quotes: `"`, `\` and a line end behind a backslash, 0x20 to 0x7e as themselves, else `\xHH`
unfoldable pub quoted_byte : ℕ → List ℕ
quoted_byte b =
    if b == 34 then 92 ∷ 34 ∷ []
    else if b == 92 then 92 ∷ 92 ∷ []
    else if b == 10 then 92 ∷ 110 ∷ []
    else if nat_le 32 b && nat_le b 126 then b ∷ []
    else 92 ∷ 120 ∷ hex_char (b / 16) ∷ hex_char (b % 16) ∷ []

-- bytes in double quotes
abbrev pub quoted : List ℕ → List ℕ
quoted bytes = 34 ∷ (flat_map quoted_byte bytes ++ 34 ∷ [])
