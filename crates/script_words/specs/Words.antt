-- The words of a line.
use Rattle.std.specs.Prelude.{ℕ, ◌+◌, ◌-◌, ◌==◌, ◌++◌, List, [], ◌∷◌, if◌then◌else◌, nat_lt, take}

-- how many bytes stand before the first space
abbrev pub plain_len : List ℕ → ℕ
plain_len [] = 0
plain_len (b ∷ bs) = if b == 32 then 0 else 1 + plain_len bs

-- behind a quote: the bytes up to the one that closes it, and those before the next space; the first `skip` close nothing
abbrev pub quoted_len : ℕ → List ℕ → ℕ
quoted_len skip [] = 0
quoted_len skip (b ∷ bs) =
    if nat_lt 0 skip then 1 + quoted_len (skip - 1) bs
    else if b == 34 then 1 + plain_len bs
    else 1 + quoted_len (if b == 92 then 1 else 0) bs

-- how many bytes of a word stand behind its first one: a word in quotes has spaces inside, another ends at a space
unfoldable pub word_len : ℕ → List ℕ → ℕ
word_len b bs = if b == 34 then quoted_len 0 bs else plain_len bs

-- the words of bytes, the first `skip` of which are of a word before
abbrev pub words_from : ℕ → List ℕ → List (List ℕ)
words_from skip [] = []
words_from skip (b ∷ bs) =
    if nat_lt 0 skip then words_from (skip - 1) bs
    else if b == 32 then words_from 0 bs
    else (b ∷ take (word_len b bs) bs) ∷ words_from (word_len b bs) bs

-- the words of a line, with one space or more between two
abbrev pub words_of : List ℕ → List (List ℕ)
words_of line = words_from 0 line

-- the first of some words; the empty one where there is none
abbrev pub first_word : List (List ℕ) → List ℕ
first_word [] = []
first_word (word ∷ words) = word

-- words, each behind a space
abbrev pub spaced : List (List ℕ) → List ℕ
spaced [] = []
spaced (w ∷ ws) = 32 ∷ (w ++ spaced ws)

-- words with one space between each two
abbrev pub joined : List (List ℕ) → List ℕ
joined [] = []
joined (w ∷ ws) = w ++ spaced ws
