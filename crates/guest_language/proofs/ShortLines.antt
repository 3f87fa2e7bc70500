-- A line with single spaces is no longer than the line.
use Rattle.std.proofs.Common.{◌≡◌, ℕ, zero, suc, ◌+◌, ◌-◌, ◌≤◌, ◌==◌, Bool, true, false, cond, List, [], ◌∷◌, length, take, refl, ap, sym, ◌∙◌, subst, arith, nat_lt, slice_index, length-append, length-take}
use Rattle.std.proofs.lemmas.Bool.{lt-ltb}
use Rattle.script_words.specs.Words.{joined, plain_len, quoted_len, spaced, word_len, words_from, words_of}
use Rattle.guest_language.proofs.SpacedLines.{single_spaced}

-- behind so many bytes stands a space, or nothing
abbrev ends_at : ℕ → List ℕ → Bool
ends_at n [] = true
ends_at zero (b ∷ bs) = b == 32
ends_at (suc n) (b ∷ bs) = ends_at n bs

one_more : (n : ℕ) → 1 + n ≡ suc n
one_more n = omega arith

ends_later : (n : ℕ) (b : ℕ) (bs : List ℕ) → ends_at n bs ≡ true → ends_at (1 + n) (b ∷ bs) ≡ true
ends_later n b bs h = ap (λ (m : ℕ). ends_at m (b ∷ bs)) (one_more n) ∙ h

plain_ends : (bs : List ℕ) → ends_at (plain_len bs) bs ≡ true
plain_ends [] = refl
plain_ends (b ∷ bs) =
    elim (b == 32) as (λ c. (b == 32) ≡ c → ends_at (cond c 0 (1 + plain_len bs)) (b ∷ bs) ≡ true) [
      | true ↦ λ e. e
      | false ↦ λ e. ends_later (plain_len bs) b bs (plain_ends bs)
    ] refl

quoted_ends : (skip : ℕ) (bs : List ℕ) → ends_at (quoted_len skip bs) bs ≡ true
quoted_ends skip [] = refl
quoted_ends skip (b ∷ bs) =
    elim (nat_lt 0 skip) as (λ c. ends_at (cond c (1 + quoted_len (skip - 1) bs) (cond (b == 34) (1 + plain_len bs) (1 + quoted_len (cond (b == 92) 1 0) bs))) (b ∷ bs) ≡ true) [
      | true ↦ ends_later (quoted_len (skip - 1) bs) b bs (quoted_ends (skip - 1) bs)
      | false ↦ elim (b == 34) as (λ d. ends_at (cond d (1 + plain_len bs) (1 + quoted_len (cond (b == 92) 1 0) bs)) (b ∷ bs) ≡ true) [
        | true ↦ ends_later (plain_len bs) b bs (plain_ends bs)
        | false ↦ ends_later (quoted_len (cond (b == 92) 1 0) bs) b bs (quoted_ends (cond (b == 92) 1 0) bs)
      ]
    ]

word_ends : (b : ℕ) (bs : List ℕ) → ends_at (word_len b bs) bs ≡ true
unfolding word_len
word_ends b bs = elim (b == 34) as (λ c. ends_at (cond c (quoted_len 0 bs) (plain_len bs)) bs ≡ true) [ true ↦ quoted_ends 0 bs | false ↦ plain_ends bs ]

-- words behind spaces, from where a word may begin, and from where one ends
record IsShort (skip : ℕ) (bs : List ℕ) : Type 0 where
  begun : length (spaced (words_from skip bs)) ≤ length bs + 1 - skip
  ended : ends_at skip bs ≡ true → length (spaced (words_from skip bs)) ≤ length bs - skip

no_more : (skip : ℕ) → IsShort skip []
no_more skip = record { begun = omega arith; ended = λ e. omega arith }

skip_one : (k : ℕ) (b : ℕ) (bs : List ℕ) → words_from (suc k) (b ∷ bs) ≡ words_from k bs
skip_one k b bs =
    let less : suc k - 1 ≡ k = omega arith in
    rw (lt-ltb 0 (suc k) (omega arith)) (ap (λ (n : ℕ). words_from n bs) less)

later : (k : ℕ) (b : ℕ) (bs : List ℕ) → IsShort k bs → IsShort (suc k) (b ∷ bs)
later k b bs h = record {
  begun = subst (λ (ws : List (List ℕ)). length (spaced ws) ≤ length (b ∷ bs) + 1 - suc k) (sym (skip_one k b bs)) (omega (arith, h.begun));
  ended = λ e. let short = h.ended e in subst (λ (ws : List (List ℕ)). length (spaced ws) ≤ length (b ∷ bs) - suc k) (sym (skip_one k b bs)) (omega (arith, short));
}

-- a word, and the words behind it
with_word : (b n : ℕ) (bs : List ℕ) (ws : List (List ℕ)) → length (spaced ws) ≤ length bs - n → length (spaced ((b ∷ take n bs) ∷ ws)) ≤ length (b ∷ bs) + 1
with_word b n bs ws h = omega (arith, length-append (take n bs) (spaced ws), length-take n bs)

less_none : (n m : ℕ) → n ≤ m → n ≤ m - 0
less_none n m h = omega (arith, h)

here : (b : ℕ) (bs : List ℕ) → IsShort 0 bs → IsShort (word_len b bs) bs → IsShort 0 (b ∷ bs)
here b bs after behind = record {
  begun = less_none (length (spaced (words_from 0 (b ∷ bs)))) (length (b ∷ bs) + 1) (elim (b == 32) as (λ d. length (spaced (cond d (words_from 0 bs) ((b ∷ take (word_len b bs) bs) ∷ words_from (word_len b bs) bs))) ≤ length (b ∷ bs) + 1) [
    | true ↦ omega (arith, after.begun)
    | false ↦ with_word b (word_len b bs) bs (words_from (word_len b bs) bs) (behind.ended (word_ends b bs))
  ]);
  ended = λ e. less_none (length (spaced (words_from 0 (b ∷ bs)))) (length (b ∷ bs)) (subst (λ (d : Bool). length (spaced (cond d (words_from 0 bs) ((b ∷ take (word_len b bs) bs) ∷ words_from (word_len b bs) bs))) ≤ length (b ∷ bs)) (sym e) (omega (arith, after.begun)));
}

is_short : (skip : ℕ) (bs : List ℕ) → IsShort skip bs
is_short skip [] = no_more skip
is_short zero (b ∷ bs) = here b bs (is_short 0 bs) (is_short (word_len b bs) bs)
is_short (suc k) (b ∷ bs) = later k b bs (is_short k bs)

joined_short : (words : List (List ℕ)) (n : ℕ) → length (spaced words) ≤ n + 1 → length (joined words) ≤ n
joined_short [] n h = omega arith
joined_short (word ∷ words) n h = omega (arith, h)

pub line_short : (line : List ℕ) → length (single_spaced line) ≤ length line
line_short line =
    let short = is_short 0 line in
    elim (slice_index line 0 == 35) as (λ c. length (cond c [] (joined (words_of line))) ≤ length line) [
      | true ↦ omega arith
      | false ↦ joined_short (words_of line) (length line) (omega (arith, short.begun))
    ]
