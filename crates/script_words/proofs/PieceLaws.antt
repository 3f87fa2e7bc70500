-- How a list splits at its first byte of a kind.
use Rattle.std.proofs.Common.{◌≡◌, ℕ, ◌+◌, ◌<◌, ◌≤◌, Bool, true, false, not, nat_lt, List, [], ◌∷◌, length, take, drop, Option, Some, None, refl, ap, sym, ◌∙◌, arith, cond, subst, ◌==◌}
use Rattle.script_words.specs.Pieces.{pieces_of}
use Rattle.std.specs.List.{slice_split, onto_first, position_or_len}
use Rattle.std.specs.Prelude.{position}
use Rattle.std.proofs.lemmas.List.Splits.{slice_split_first}
use Rattle.std.proofs.lemmas.Bool.Decides.{nat_tests}

none_left : (p : ℕ → Bool) (xs : List ℕ) → length xs ≤ position_or_len p xs → slice_split p xs ≡ xs ∷ []
none_left p [] h = refl
none_left p (x ∷ xs) h =
    elim (p x) as (λ b. 1 + length xs ≤ cond (not b) (1 + position_or_len p xs) 0 → cond b ([] ∷ slice_split p xs) (onto_first x (slice_split p xs)) ≡ (x ∷ xs) ∷ []) [
      | true ↦ λ h. absurd (omega (arith, h))
      | false ↦ λ h. ap (onto_first x) (none_left p xs (omega (arith, h)))
    ] (omega (arith, h))

pub split_none : (p : ℕ → Bool) (xs : List ℕ) → position p xs ≡ None → slice_split p xs ≡ xs ∷ []
split_none p xs h = none_left p xs (past (nat_lt (position_or_len p xs) (length xs)) refl h)
  where
    past : (b : Bool) → nat_lt (position_or_len p xs) (length xs) ≡ b → cond b (Some (position_or_len p xs)) None ≡ None → length xs ≤ position_or_len p xs
    past true e h = absurd (cc)
    past false e h = grind (arith, nat_tests)

pub split_some : (p : ℕ → Bool) (xs : List ℕ) (i : ℕ) → position p xs ≡ Some i → slice_split p xs ≡ take i xs ∷ slice_split p (drop (i + 1) xs)
split_some p xs i h = found (nat_lt (position_or_len p xs) (length xs)) refl h
  where
    found : (b : Bool) → nat_lt (position_or_len p xs) (length xs) ≡ b → cond b (Some (position_or_len p xs)) None ≡ Some i → slice_split p xs ≡ take i xs ∷ slice_split p (drop (i + 1) xs)
    found false e h = absurd (cc)
    found true e h =
        let within : position_or_len p xs < length xs = grind (arith, nat_tests) in
        let is : position_or_len p xs ≡ i = cc in
        subst (λ (k : ℕ). slice_split p xs ≡ take k xs ∷ slice_split p (drop (k + 1) xs)) is (slice_split_first p xs 0 within)

pub pieces_none : (sep : ℕ) (bytes : List ℕ) → position (λ b. b == sep) bytes ≡ None → pieces_of sep bytes ≡ bytes ∷ []
unfolding pieces_of
pieces_none sep bytes h = split_none (λ b. b == sep) bytes h

pub pieces_some : (sep : ℕ) (bytes : List ℕ) (i : ℕ) → position (λ b. b == sep) bytes ≡ Some i → pieces_of sep bytes ≡ take i bytes ∷ pieces_of sep (drop (i + 1) bytes)
unfolding pieces_of
pieces_some sep bytes i h = split_some (λ b. b == sep) bytes i h
