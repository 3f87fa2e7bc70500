-- How many items of a table pass a test.
use Rattle.std.specs.Prelude.{slice_set, nat_lt}
use Rattle.std.specs.List.{list_any}
use Rattle.std.proofs.Common.{◌≡◌, ℕ, zero, suc, ◌+◌, ◌||◌, Bool, true, false, List, [], ◌∷◌, ◌++◌, Option, Some, cond, count_by, refl, sym, ap, ◌∙◌, arith}
use Rattle.std.proofs.lemmas.Bool.{lt-ltb}
use Rattle.std.proofs.lemmas.List.Sums.{sum_by-cons}
use Rattle.sp_base.specs.Table.{at}

-- 1 where a test passes
abbrev pub one_if : Bool → ℕ
one_if b = cond b 1 0

-- a count where something is put in another's place
pub count_set : {X : Type 0} (test : Option X → Bool) (table : List (Option X)) (n : ℕ) (x : Option X) (y : X) → at table n ≡ Some y
    → count_by test (slice_set table n x) + one_if (test (Some y)) ≡ count_by test table + one_if (test x)
count_set test [] n x y e = absurd cc
count_set test (z ∷ table) zero x y e =
    let was = sum_by-cons (λ o. one_if (test o)) z table in
    let is = sum_by-cons (λ o. one_if (test o)) x table in
    let same : one_if (test z) ≡ one_if (test (Some y)) = ap (λ o. one_if (test o)) e in
    omega (arith, was, is, same)
count_set test (z ∷ table) (suc n) x y e =
    let later = count_set test table n x y e in
    let was = sum_by-cons (λ o. one_if (test o)) z table in
    let is = sum_by-cons (λ o. one_if (test o)) z (slice_set table n x) in
    omega (arith, was, is, later)

-- a count where something is put behind
pub count_push : {X : Type 0} (test : Option X → Bool) (table : List (Option X)) (x : Option X) → count_by test (table ++ x ∷ []) ≡ count_by test table + one_if (test x)
count_push test [] x = sum_by-cons (λ o. one_if (test o)) x [] ∙ omega arith
count_push test (z ∷ table) x =
    let later = count_push test table x in
    let was = sum_by-cons (λ o. one_if (test o)) z table in
    let is = sum_by-cons (λ o. one_if (test o)) z (table ++ x ∷ []) in
    omega (arith, was, is, later)

any_more : (b some : Bool) (n : ℕ) → some ≡ nat_lt 0 n → (b || some) ≡ nat_lt 0 (one_if b + n)
any_more true some n e = sym (lt-ltb 0 (1 + n) (omega arith))
any_more false some n e = e ∙ ap (λ k. nat_lt 0 k) same where
  same : n ≡ 0 + n
  same = omega arith

-- some passes where the count is above 0
pub any_count : {X : Type 0} (test : X → Bool) (table : List X) → list_any test table ≡ nat_lt 0 (count_by test table)
any_count test [] = refl
any_count test (x ∷ table) = any_more (test x) (list_any test table) (count_by test table) (any_count test table) ∙ ap (λ n. nat_lt 0 n) (sym (sum_by-cons (λ o. one_if (test o)) x table))
