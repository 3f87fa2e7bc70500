-- A line with single spaces reads as the line does.
use Rattle.std.proofs.Common.{◌≡◌, ℕ, zero, suc, ◌-◌, ◌==◌, true, false, cond, List, [], ◌∷◌, ◌++◌, take, refl, nat_lt, slice_index}
use Rattle.std.proofs.lemmas.Bool.{and_parts, and_from}
use Rattle.script_words.specs.Words.{joined, spaced, word_len, words_from, words_of}
use Rattle.guest_language.specs.Sections.{is_printed}

-- a line with single spaces; a comment is a blank line
abbrev pub single_spaced : List ℕ → List ℕ
single_spaced line = cond (slice_index line 0 == 35) [] (joined (words_of line))

printed_take : (n : ℕ) (bs : List ℕ) → is_printed bs ≡ true → is_printed (take n bs) ≡ true
printed_take zero bs h = refl
printed_take (suc n) [] h = refl
printed_take (suc n) (b ∷ bs) h =
    let parts = and_parts _ (is_printed bs) h in
    and_from _ (is_printed (take n bs)) parts.0 (printed_take n bs parts.1)

printed_append : (xs ys : List ℕ) → is_printed xs ≡ true → is_printed ys ≡ true → is_printed (xs ++ ys) ≡ true
printed_append [] ys h k = k
printed_append (x ∷ xs) ys h k =
    let parts = and_parts _ (is_printed xs) h in
    and_from _ (is_printed (xs ++ ys)) parts.0 (printed_append xs ys parts.1 k)

spaced_printed : (skip : ℕ) (bs : List ℕ) → is_printed bs ≡ true → is_printed (spaced (words_from skip bs)) ≡ true
spaced_printed skip [] h = refl
spaced_printed skip (b ∷ bs) h =
    let parts = and_parts _ (is_printed bs) h in
    elim (nat_lt 0 skip) as (λ c. is_printed (spaced (cond c (words_from (skip - 1) bs) (cond (b == 32) (words_from 0 bs) ((b ∷ take (word_len b bs) bs) ∷ words_from (word_len b bs) bs)))) ≡ true) [
      | true ↦ spaced_printed (skip - 1) bs parts.1
      | false ↦ elim (b == 32) as (λ d. is_printed (spaced (cond d (words_from 0 bs) ((b ∷ take (word_len b bs) bs) ∷ words_from (word_len b bs) bs))) ≡ true) [
        | true ↦ spaced_printed 0 bs parts.1
        | false ↦ and_from _ (is_printed (take (word_len b bs) bs ++ spaced (words_from (word_len b bs) bs))) parts.0 (printed_append (take (word_len b bs) bs) (spaced (words_from (word_len b bs) bs)) (printed_take (word_len b bs) bs parts.1) (spaced_printed (word_len b bs) bs parts.1))
      ]
    ]

joined_printed : (words : List (List ℕ)) → is_printed (spaced words) ≡ true → is_printed (joined words) ≡ true
joined_printed [] h = refl
joined_printed (word ∷ words) h = h

pub words_printed : (line : List ℕ) → is_printed line ≡ true → is_printed (joined (words_of line)) ≡ true
words_printed line h = joined_printed (words_of line) (spaced_printed 0 line h)
