-- Reads of a list that has an element more, or another one.
use Rattle.std.proofs.Common.{◌≡◌, ◌≢◌, ℕ, ◌<◌, List, [], ◌∷◌, ◌++◌, length, get_or, set, Option, None, IsSome, ap, sym, ◌∙◌, arith, ⊎_elim}
use Rattle.std.proofs.lemmas.List.{get_or-set_same, get_or-set_other, get_or_append_left, get_or_past, length-set, length_push}
use Rattle.std.proofs.lemmas.Bool.{cases_eq, cases_lt}

-- an element that is there is within the list
pub within_length : {X : Type 0} (xs : List (Option X)) (n : ℕ) → IsSome (get_or xs n None) → n < length xs
within_length xs n there = ⊎_elim (λ within. within) (λ past. absurd (none_there (get_or xs n None) (get_or_past xs n None past) there)) (cases_lt n (length xs))
  where
    none_there : {X : Type 0} (o : Option X) → o ≡ None → IsSome o → ⊥
    none_there None e some = cc
    none_there (Option.Some x) e some = cc

-- another number has the same in a list with an element more
pub beside_push : {X : Type 0} (xs : List X) (x d : X) (n : ℕ) → n ≢ length xs → get_or (xs ++ x ∷ []) n d ≡ get_or xs n d
beside_push xs x d n apart =
    ⊎_elim
    (λ within. get_or_append_left xs (x ∷ []) d n within)
    (λ past. get_or_past (xs ++ x ∷ []) n d (omega (arith, length_push xs x)) ∙ sym (get_or_past xs n d past))
    (cases_lt n (length xs))

-- what a function gives of each element is the same after an element was set for which it gives the same
pub kept_by : {X Y : Type 0} (f : X → Y) (xs : List X) (number : ℕ) (x d : X) → f x ≡ f (get_or xs number d) → (n : ℕ) → f (get_or (set xs number x) n d) ≡ f (get_or xs n d)
kept_by f xs number x d same n =
    ⊎_elim
    (λ here. ⊎_elim
    (λ within. ap (λ m. f (get_or (set xs number x) m d)) here ∙ ap f (get_or-set_same xs number x d within) ∙ same ∙ ap (λ m. f (get_or xs m d)) (sym here))
    (λ past. ap f (get_or_past (set xs number x) n d (omega (arith, length-set xs number x)) ∙ sym (get_or_past xs n d (omega arith))))
    (cases_lt number (length xs)))
    (λ apart. ap f (get_or-set_other xs number n x d apart))
    (cases_eq n number)
