-- Tables: what stands where after one number gets something else, and which number is the lowest unused one.
use Rattle.std.specs.Prelude.{slice_set, is_none, replicate}
use Rattle.std.proofs.Common.{◌≡◌, ◌≢◌, ℕ, zero, suc, ◌+◌, ◌<◌, List, [], ◌∷◌, length, drop, get_or, Option, Some, None, refl, sym, ◌∙◌, arith, length-drop}
use Rattle.std.specs.List.{position_from}
use Rattle.std.proofs.lemmas.List.{get_or-drop, get_or-set_same, get_or-set_other}
use Rattle.sp_base.specs.Table.{at, lowest_unused}

-- every other number keeps what it has
pub at_other : {X : Type 0} (table : List (Option X)) (n : ℕ) (x : Option X) (q : ℕ) → q ≢ n → at (slice_set table n x) q ≡ at table q
at_other table n x q ne = get_or-set_other table n q x None ne

-- the number has what was set, where it was used or nothing is set
pub at_same : {X : Type 0} (table : List (Option X)) (n : ℕ) (x : Option X) → (at table n ≡ None → x ≡ None) → at (slice_set table n x) n ≡ x
at_same [] n x h = sym (h refl)
at_same (y ∷ table) zero x h = refl
at_same (y ∷ table) (suc n) x h = at_same table n x h

-- the number has what was set, within the table
pub at_within : {X : Type 0} (table : List (Option X)) (n : ℕ) (x : Option X) → n < length table → at (slice_set table n x) n ≡ x
at_within table n x lt = get_or-set_same table n x None lt

-- what is seen of each number stays where the one that is set looks as before
pub seen_same : {X Y : Type 0} (see : Option X → Y) (table : List (Option X)) (n : ℕ) (x : Option X) (q : ℕ) → see x ≡ see (at table n) → see (at (slice_set table n x) q) ≡ see (at table q)
seen_same see [] n x q h = refl
seen_same see (y ∷ table) zero x zero h = h
seen_same see (y ∷ table) zero x (suc q) h = refl
seen_same see (y ∷ table) (suc n) x zero h = refl
seen_same see (y ∷ table) (suc n) x (suc q) h = seen_same see table n x q h

-- what holds of all numbers and of what is set holds of all numbers afterwards
pub all_set : {X : Type 0} (P : Option X → Type 0) (table : List (Option X)) (n : ℕ) (x : Option X) → P x → ((q : ℕ) → P (at table q)) → (q : ℕ) → P (at (slice_set table n x) q)
all_set P [] n x p h q = h q
all_set P (y ∷ table) zero x p h zero = p
all_set P (y ∷ table) zero x p h (suc q) = h (suc q)
all_set P (y ∷ table) (suc n) x p h zero = h zero
all_set P (y ∷ table) (suc n) x p h (suc q) = all_set P table n x p (λ q. h (suc q)) q

-- a blank table has nothing anywhere
pub at_blank : {X : Type 0} (n q : ℕ) → at (replicate {A = Option X} n None) q ≡ None
at_blank zero q = refl
at_blank (suc n) zero = refl
at_blank (suc n) (suc q) = at_blank n q

found : {X : Type 0} (xs : List (Option X)) (i n : ℕ) → position_from is_none i xs ≡ Some n → (k : ℕ) × (n ≡ i + k) × (k < length xs) × (get_or xs k None ≡ None)
found [] i n h = absurd cc
found (None ∷ xs) i n h = let e : i ≡ n = cc in (0, omega arith, omega arith, refl)
found (Some x ∷ xs) i n h = let r = found xs (i + 1) n h in (suc r.0, (let e = r.1 in omega arith), (let e = r.2 in omega arith), r.3)

-- the lowest unused number is within the table, and nothing is there
pub lowest_unused_is : {X : Type 0} (table : List (Option X)) (least n : ℕ) → lowest_unused table least ≡ Some n → (n < length table) × (at table n ≡ None)
lowest_unused_is table least n h =
    let r = found (drop least table) least n h in
    let e = r.1 in
    let lt = r.2 in
    (omega (arith, length-drop least table), rw e (sym (get_or-drop least table r.0 None) ∙ r.3))
