-- Lemmas on tables.
use Rattle.std.proofs.Common.{◌≡◌, ◌≢◌, ℕ, zero, suc, ◌<◌, List, [], ◌∷◌, ◌++◌, length, Option, None, IsSome, refl, ap, sym, arith, false, true}
use Rattle.std.proofs.Math.ListN.{set}
use Rattle.sp_base.specs.Table.{at}

-- what is set twice at a number is what was set last
pub set_again : {X : Type 0} (xs : List X) (n : ℕ) (v w : X) → set (set xs n v) n w ≡ set xs n w
set_again [] n v w = refl
set_again (x ∷ xs) zero v w = refl
set_again {X} (x ∷ xs) (suc n) v w = ap (λ (l : List X). x ∷ l) (set_again xs n v w)

module _ {X : Type 0} where
  -- what a table has where it was set
  pub at_set_here : (t : List (Option X)) (i : ℕ) (v : Option X) → IsSome (at t i) → at (set t i v) i ≡ v
  at_set_here [] i v h = absurd (let k : false ≡ true = h in cc)
  at_set_here (y ∷ t) zero v h = refl
  at_set_here (y ∷ t) (suc i) v h = at_set_here t i v h

  -- what a table has elsewhere
  pub at_set_other : (t : List (Option X)) (i j : ℕ) (v : Option X) → j ≢ i → at (set t i v) j ≡ at t j
  at_set_other [] i j v ne = refl
  at_set_other (y ∷ t) zero zero v ne = absurd (ne refl)
  at_set_other (y ∷ t) zero (suc j) v ne = refl
  at_set_other (y ∷ t) (suc i) zero v ne = refl
  at_set_other (y ∷ t) (suc i) (suc j) v ne = at_set_other t i j v (λ e. ne (ap suc e))

  -- what holds of what is set, and of what was there, holds of what is there
  pub at_set_keeps : (P : Option X → Type 0) (t : List (Option X)) (i : ℕ) (x : Option X) (j : ℕ) → (i ≡ j → P x) → P (at t j) → P (at (set t i x) j)
  at_set_keeps P [] i x j f h = h
  at_set_keeps P (y ∷ t) zero x zero f h = f refl
  at_set_keeps P (y ∷ t) zero x (suc j) f h = h
  at_set_keeps P (y ∷ t) (suc i) x zero f h = h
  at_set_keeps P (y ∷ t) (suc i) x (suc j) f h = at_set_keeps P t i x j (λ e. f (ap suc e)) h

  -- what a table has stays where more comes
  pub at_more : (t more : List (Option X)) (j : ℕ) → IsSome (at t j) → at (t ++ more) j ≡ at t j
  at_more [] more j h = absurd (let k : false ≡ true = h in cc)
  at_more (y ∷ t) more zero h = refl
  at_more (y ∷ t) more (suc j) h = at_more t more j h

  -- what comes next
  pub at_end : (t : List (Option X)) (x : Option X) → at (t ++ x ∷ []) (length t) ≡ x
  at_end [] x = refl
  at_end (y ∷ t) x = at_end t x

  -- what a table has elsewhere than at its end
  pub at_before : (t : List (Option X)) (x : Option X) (j : ℕ) → j ≢ length t → at (t ++ x ∷ []) j ≡ at t j
  at_before [] x zero ne = absurd (ne refl)
  at_before [] x (suc j) ne = refl
  at_before (y ∷ t) x zero ne = refl
  at_before (y ∷ t) x (suc j) ne = at_before t x j (λ e. ne (ap suc e))

  -- what a table has is below its end
  pub below_end : (t : List (Option X)) (j : ℕ) → IsSome (at t j) → j < length t
  below_end [] j h = absurd (let k : false ≡ true = h in cc)
  below_end (y ∷ t) zero h = omega arith
  below_end (y ∷ t) (suc j) h = let r = below_end t j h in omega arith

  -- setting nothing where there is nothing changes nothing
  pub set_none : (t : List (Option X)) (i : ℕ) → at t i ≡ None → set t i None ≡ t
  set_none [] i h = refl
  set_none (y ∷ t) zero h = ap (λ (o : Option X). o ∷ t) (sym h)
  set_none (y ∷ t) (suc i) h = ap (λ (l : List (Option X)). y ∷ l) (set_none t i h)
