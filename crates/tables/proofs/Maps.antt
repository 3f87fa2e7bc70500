-- Finite maps by number after a change.
use Rattle.std.proofs.Common.{◌≡◌, ◌≢◌, ◌⊎◌, inl, inr, ℕ, zero, suc, true, false, cond, Option, Some, None, sym, ap, subst, ◌∙◌, refl, arith}
use Rattle.std.specs.Ordering.{nat_cmp, eq_by_cmp}
use Rattle.std.specs.Cmp.{nat_cmp_total}
use Rattle.std.specs.FinMap.{FinMap, get, insert, remove, get-insert, get-remove}
use Rattle.std.proofs.lemmas.Grind.{common_steps}
use Rattle.std.proofs.lemmas.Bool.Decides.{nat_tests}

same_by_cmp : (n : ℕ) → eq_by_cmp nat_cmp n n ≡ true
same_by_cmp n = grind (arith, nat_tests, common_steps)

other_by_cmp : (q n : ℕ) → q ≢ n → eq_by_cmp nat_cmp q n ≡ false
other_by_cmp q n ne = grind (arith, nat_tests, common_steps)

-- what was put stands there
pub get_put : {X : Type 0} (m : FinMap nat_cmp X) (k : ℕ) (v : X) → get (insert m k v) k ≡ Some v
get_put m k v = get-insert nat_cmp_total m k v k ∙ ap (λ b. cond b (Some v) (get m k)) (same_by_cmp k)

-- every other number has what it had
pub get_put_other : {X : Type 0} (m : FinMap nat_cmp X) (k : ℕ) (v : X) (q : ℕ) → q ≢ k → get (insert m k v) q ≡ get m q
get_put_other m k v q ne = get-insert nat_cmp_total m k v q ∙ ap (λ b. cond b (Some v) (get m q)) (other_by_cmp q k ne)

-- what was taken away is gone
pub get_gone : {X : Type 0} (m : FinMap nat_cmp X) (k : ℕ) → get (remove m k) k ≡ None
get_gone m k = get-remove nat_cmp_total m k k ∙ ap (λ b. cond b None (get m k)) (same_by_cmp k)

-- every other number has what it had
pub get_gone_other : {X : Type 0} (m : FinMap nat_cmp X) (k q : ℕ) → q ≢ k → get (remove m k) q ≡ get m q
get_gone_other m k q ne = get-remove nat_cmp_total m k q ∙ ap (λ b. cond b None (get m q)) (other_by_cmp q k ne)

-- two numbers are one or two
pub same_or_not : (i j : ℕ) → (i ≡ j) ⊎ (i ≢ j)
same_or_not zero zero = inl refl
same_or_not zero (suc j) = inr (λ e. omega arith)
same_or_not (suc i) zero = inr (λ e. omega arith)
same_or_not (suc i) (suc j) = elim (same_or_not i j) [ inl e ↦ inl (ap suc e) | inr ne ↦ inr (λ e. ne (omega arith)) ]

-- a map differs from another at one number alone, where it has this
pub record Changes {X : Type 0} (old new : FinMap nat_cmp X) (k : ℕ) (now : Option X) : Type 0 where
  pub here : get new k ≡ now
  pub others : (q : ℕ) → q ≢ k → get new q ≡ get old q

pub put_changes : {X : Type 0} (m : FinMap nat_cmp X) (k : ℕ) (v : X) → Changes m (insert m k v) k (Some v)
put_changes m k v = record { here = get_put m k v; others = get_put_other m k v }

pub gone_changes : {X : Type 0} (m : FinMap nat_cmp X) (k : ℕ) → Changes m (remove m k) k None
gone_changes m k = record { here = get_gone m k; others = get_gone_other m k }

-- what stands at a number after a change: what is there now, or what another number had
pub after_change : {X : Type 0} (old new : FinMap nat_cmp X) (c d : ℕ) (z : X) (now : Option X) → Changes old new c now → get new d ≡ Some z
    → ((d ≡ c) × (now ≡ Some z)) ⊎ ((d ≢ c) × (get old d ≡ Some z))
after_change old new c d z now changes h =
    elim (same_or_not d c) [
      | inl same ↦ inl (same, sym changes.here ∙ subst (λ n. get new n ≡ Some z) same h)
      | inr ne ↦ inr (ne, sym (changes.others d ne) ∙ h)
    ]
