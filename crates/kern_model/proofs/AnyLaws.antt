-- Tests of a table's rows, of which none passes where a number is unused.
use Rattle.std.proofs.Common.{◌≡◌, ℕ, zero, suc, Bool, true, false, ◌||◌, List, [], ◌∷◌, Option, None, refl, sym, ◌∙◌}
use Rattle.std.proofs.lemmas.Bool.{or_left, or_right, false≢true}
use Rattle.std.specs.List.{list_any}
use Rattle.sp_base.specs.Table.{at}

-- a row that passes settles the test
pub any_from : {X : Type 0} (test : Option X → Bool) (table : List (Option X)) (n : ℕ) → test None ≡ false → test (at table n) ≡ true → list_any test table ≡ true
any_from test [] n blank h = absurd (false≢true (sym blank ∙ h))
any_from test (x ∷ table) zero blank h = or_left (test x) (list_any test table) h
any_from test (x ∷ table) (suc n) blank h = or_right (test x) (list_any test table) (any_from test table n blank h)

-- some row of a table passes
pub record Passes {X : Type 0} (test : Option X → Bool) (table : List (Option X)) : Type 0 where
  pub number : ℕ
  pub passes : test (at table number) ≡ true

-- where the test is true, some row passes
pub any_to : {X : Type 0} (test : Option X → Bool) (table : List (Option X)) → list_any test table ≡ true → Passes test table
any_to test [] h = absurd (false≢true h)
any_to test (x ∷ table) h =
    elim (test x) as (λ b. test x ≡ b → (b || list_any test table) ≡ true → Passes test (x ∷ table)) [
      | true ↦ λ t k. record { number = zero; passes = t }
      | false ↦ λ t k. (let later = any_to test table k in record { number = suc later.number; passes = later.passes })
    ] refl h
