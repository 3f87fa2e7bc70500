-- The numbers that words spell.
use Rattle.std.specs.Prelude.{ℕ, ◌+◌, ◌-◌, ◌*◌, ◌^◌, ◌==◌, ◌&&◌, List, None, Option, Some, [], ◌∷◌, drop, if◌then◌else◌, nat_le, nat_lt, slice_index}
use Rattle.std.specs.Char.{digit_value, is_digit}
use Rattle.script_words.specs.Steps.{◌>>=◌}

-- a digit's value; hexadecimal letters are of either case
unfoldable pub digit_in : ℕ → ℕ → Option ℕ
digit_in radix c = if is_digit c radix then Some (digit_value c) else None

-- the value of digits that follow those of n, where it is below 2^64
abbrev pub numeral_after : ℕ → ℕ → List ℕ → Option ℕ
numeral_after radix n [] = Some n
numeral_after radix n (c ∷ cs) = digit_in radix c >>= (λ d. if nat_lt (n * radix + d) (2 ^ 64) then numeral_after radix (n * radix + d) cs else None)

-- the value of one digit or more, where it is below 2^64
unfoldable pub numeral : ℕ → List ℕ → Option ℕ
numeral radix [] = None
numeral radix (c ∷ cs) = numeral_after radix 0 (c ∷ cs)

-- a number: decimal, or `0x` and hexadecimal
unfoldable pub number_of : List ℕ → Option ℕ
number_of word = if (slice_index word 0 == 48) && (slice_index word 1 == 120) then numeral 16 (drop 2 word) else numeral 10 word

-- the word that stands for minus a number in two's complement
abbrev pub negated : ℕ → Option ℕ
negated n = if n == 0 then Some 0 else if nat_le n (2 ^ 63) then Some (2 ^ 64 - n) else None

-- a number that may have `-` before decimal digits, down to -2^63, as a word in two's complement
unfoldable pub signed_of : List ℕ → Option ℕ
signed_of word = if slice_index word 0 == 45 then numeral 10 (drop 1 word) >>= negated else number_of word

-- minus a number of up to 2^31, in two's complement of 32 bits
abbrev pub small_negated : ℕ → Option ℕ
small_negated n = if n == 0 then Some 0 else if nat_le n (2 ^ 31) then Some (2 ^ 32 - n) else None

-- a number from -2^31 to 2^31 - 1, in two's complement of 32 bits
unfoldable pub small_signed_of : List ℕ → Option ℕ
small_signed_of word =
    if slice_index word 0 == 45 then numeral 10 (drop 1 word) >>= small_negated
    else number_of word >>= (λ n. if nat_lt n (2 ^ 31) then Some n else None)
