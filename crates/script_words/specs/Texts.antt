-- The texts that words in double quotes spell.
use Rattle.std.specs.Prelude.{ℕ, ◌+◌, ◌-◌, ◌*◌, ◌==◌, ◌++◌, List, None, Option, Some, [], ◌∷◌, drop, if◌then◌else◌, length, nat_lt, slice_index}
use Rattle.script_words.specs.Numbers.{digit_in}
use Rattle.script_words.specs.Steps.{◌>>=◌}

-- the byte of two hexadecimal digits
abbrev pub hex_byte : Option ℕ → Option ℕ → Option ℕ
hex_byte (Some high) (Some low) = Some (16 * high + low)
hex_byte _ _ = None

-- the byte that is spelled behind a backslash: `"`, `\`, `n` for a line end, or `x` and two hexadecimal digits
unfoldable pub escaped : List ℕ → Option ℕ
escaped bs =
    if slice_index bs 0 == 34 then Some 34
    else if slice_index bs 0 == 92 then Some 92
    else if slice_index bs 0 == 110 then Some 10
    else if slice_index bs 0 == 120 then hex_byte (digit_in 16 (slice_index bs 1)) (digit_in 16 (slice_index bs 2))
    else None

-- how many bytes stand for it
unfoldable pub escape_len : List ℕ → ℕ
escape_len bs = if slice_index bs 0 == 120 then 3 else 1

-- the text so far, and what is spelled before a quote that ends the word; the first `skip` bytes are of an escape before
abbrev pub text_from : List ℕ → ℕ → List ℕ → Option (List ℕ)
text_from text skip [] = None
text_from text skip (b ∷ bs) =
    if nat_lt 0 skip then text_from text (skip - 1) bs
    else if b == 34 then (if length bs == 0 then Some text else None)
    else if b == 92 then (escaped bs >>= (λ e. text_from (text ++ e ∷ []) (escape_len bs) bs))
    else text_from (text ++ b ∷ []) 0 bs

-- the text that a word in double quotes spells
unfoldable pub text_of : List ℕ → Option (List ℕ)
text_of word = if slice_index word 0 == 34 then text_from [] 0 (drop 1 word) else None
