-- The first key of a map that passes a test is the lowest one.
use Rattle.std.proofs.Common.{◌≡◌, ◌⊎◌, inl, inr, ℕ, ◌<◌, ◌≤◌, Bool, true, false, cond, List, [], ◌∷◌, Option, Some, None, IsSome, refl, sym, ap, subst, ◌∙◌, arith}
use Rattle.std.specs.Prelude.{◌&&◌, nat_lt, is_some, map, T}
use Rattle.std.specs.List as list
use Rattle.std.specs.Ordering.{nat_cmp, eq_by_cmp, is_lt}
use Rattle.std.specs.FinMap.{FinMap, get, keys, empty, entries, entries_sorted, get-entries, get-empty}
use Rattle.std.specs.FinMap.Entries.{find, below_all, is_sorted}
use Rattle.std.proofs.lemmas.Grind.{common_steps}
use Rattle.std.proofs.lemmas.Bool.Decides.{nat_tests}
use Rattle.sp_base.specs.declared.names.ReqNo.{ReqNo}
use Rattle.hub_model.specs.Task.{Waits, IsLowest}
use Rattle.hub_model.specs.declared.state.OpenCall.{OpenCall}
use Rattle.sp_hub.specs.Calls.{waits_in}

both : (a b : Bool) → T (a && b) → T a × T b
both true b h = (tt, h)
both false b h = absurd h

-- ---- keys in rising order

less_is : (x y : ℕ) → T (is_lt (nat_cmp x y)) → x < y
less_is x y h = grind (arith, nat_tests, common_steps)

equal_is : (x y : ℕ) → eq_by_cmp nat_cmp x y ≡ true → x ≡ y
equal_is x y e = grind (arith, nat_tests, common_steps)

-- a key that is found among keys that are all above another is above it
above_found : (x n : ℕ) (es : List (ℕ × OpenCall)) → T (below_all nat_cmp x es) → IsSome (find nat_cmp n es) → x < n
above_found x n [] below there = absurd cc
above_found x n (e ∷ es) below there =
    let parts = both (is_lt (nat_cmp x e.0)) (below_all nat_cmp x es) below in
    by_test (eq_by_cmp nat_cmp n e.0) (above_found x n es parts.1) (less_is x e.0 parts.0) refl there where
      by_test : (b : Bool) → (IsSome (find nat_cmp n es) → x < n) → x < e.0 → eq_by_cmp nat_cmp n e.0 ≡ b → IsSome (cond b (Some e.1) (find nat_cmp n es)) → x < n
      by_test true later lt same there = let is = equal_is n e.0 same in omega arith
      by_test false later lt same there = later there

-- the first key that passes passes, and no lower one does
record First (test : ℕ → Bool) (es : List (ℕ × OpenCall)) (k : ℕ) : Type 0 where
  passes : test k ≡ true
  lowest : (n : ℕ) → IsSome (find nat_cmp n es) → test n ≡ true → k ≤ n

first_by : (test : ℕ → Bool) (es : List (ℕ × OpenCall)) (k : ℕ) → T (is_sorted nat_cmp es) → list.find test (map (λ e. e.0) es) ≡ Some k → First test es k
first_by test [] k sorted e = absurd cc
first_by test (e ∷ es) k sorted h =
    let rises = both (below_all nat_cmp e.0 es) (is_sorted nat_cmp es) sorted in
    by_test rises.0 (first_by test es k rises.1) (test e.0) refl h where
      from_here : T (below_all nat_cmp e.0 es) → (n : ℕ) (b : Bool) → eq_by_cmp nat_cmp n e.0 ≡ b → IsSome (cond b (Some e.1) (find nat_cmp n es)) → e.0 ≤ n
      from_here below n true same there = let is = equal_is n e.0 same in omega arith
      from_here below n false same there = let lt = above_found e.0 n es below there in omega arith

      later : (n : ℕ) (b : Bool) → First test es k → test e.0 ≡ false → test n ≡ true → eq_by_cmp nat_cmp n e.0 ≡ b → IsSome (cond b (Some e.1) (find nat_cmp n es)) → k ≤ n
      later n true rest fails passes same there = absurd (let is : test n ≡ test e.0 = ap test (equal_is n e.0 same) in cc)
      later n false rest fails passes same there = rest.lowest n there passes

      by_test : T (below_all nat_cmp e.0 es) → (list.find test (map (λ e. e.0) es) ≡ Some k → First test es k)
          → (b : Bool) → test e.0 ≡ b → cond b (Some e.0) (list.find test (map (λ e. e.0) es)) ≡ Some k → First test (e ∷ es) k
      by_test below more true passes h = let is : e.0 ≡ k = cc in subst (λ (j : ℕ). First test (e ∷ es) j) is (record {
        passes = passes;
        lowest = λ n there _. from_here below n (eq_by_cmp nat_cmp n e.0) refl there;
      })
      by_test below more false fails h = let rest = more h in record {
        passes = rest.passes;
        lowest = λ n there passes. later n (eq_by_cmp nat_cmp n e.0) rest fails passes refl there;
      }

-- where no key passes, no key that is found does
none_by : (test : ℕ → Bool) (es : List (ℕ × OpenCall)) (n : ℕ) → list.find test (map (λ e. e.0) es) ≡ None → IsSome (find nat_cmp n es) → test n ≡ false
none_by test [] n h there = absurd cc
none_by test (e ∷ es) n h there = by_test (none_by test es n) (test e.0) refl h there where
  here : (IsSome (find nat_cmp n es) → test n ≡ false) → (b : Bool) → test e.0 ≡ false → eq_by_cmp nat_cmp n e.0 ≡ b → IsSome (cond b (Some e.1) (find nat_cmp n es)) → test n ≡ false
  here later true fails same there = ap test (equal_is n e.0 same) ∙ fails
  here later false fails same there = later there

  by_test : (list.find test (map (λ e. e.0) es) ≡ None → IsSome (find nat_cmp n es) → test n ≡ false)
      → (b : Bool) → test e.0 ≡ b → cond b (Some e.0) (list.find test (map (λ e. e.0) es)) ≡ None → IsSome (find nat_cmp n (e ∷ es)) → test n ≡ false
  by_test later true passes h there = absurd cc
  by_test later false fails h there = here (later h) (eq_by_cmp nat_cmp n e.0) fails refl there

-- ---- the lowest call that waits

-- a call of this number waits, and the number is above another
abbrev pub is_next : FinMap nat_cmp OpenCall → ℕ → ℕ → Bool
is_next calls above n = nat_lt above n && waits_in (get calls n)

waits_is : (calls : FinMap nat_cmp OpenCall) (n : ℕ) → Waits calls n → waits_in (get calls n) ≡ true
waits_is calls n w = ap waits_in w.1 ∙ w.2

is_waits : (calls : FinMap nat_cmp OpenCall) (n : ℕ) (o : Option OpenCall) → get calls n ≡ o → waits_in o ≡ true → Waits calls n
is_waits calls n None here e = absurd cc
is_waits calls n (Some task) here e = (task, here, e)

there : (calls : FinMap nat_cmp OpenCall) (n : ℕ) → Waits calls n → IsSome (find nat_cmp n (entries calls))
there calls n w = ap (λ (o : Option OpenCall). is_some o) (sym (get-entries calls n) ∙ w.1)

less_by : (a n : ℕ) (b : Bool) → nat_lt a n ≡ b → (n ≤ a) ⊎ (nat_lt a n ≡ true)
less_by a n true e = inr e
less_by a n false e = inl (grind (arith, nat_tests))

is_less : (a n : ℕ) → nat_lt a n ≡ true → a < n
is_less a n e = grind (arith, nat_tests)

both_true : (a b : Bool) → (a && b) ≡ true → (a ≡ true) × (b ≡ true)
both_true true b e = (refl, e)
both_true false b e = absurd cc

one_false : (a b : Bool) → (a && b) ≡ false → b ≡ true → a ≡ false
one_false true b e t = absurd cc
one_false false b e t = refl

not_less : (a n : ℕ) → nat_lt a n ≡ false → n ≤ a
not_less a n e = grind (arith, nat_tests)

-- no key passes
pub none_waits : (calls : FinMap nat_cmp OpenCall) (above : ReqNo) → None ≡ list.find (is_next calls above.0) (keys calls) → IsLowest calls above None
none_waits calls above e n w =
    not_less above.0 n (one_false (nat_lt above.0 n) (waits_in (get calls n)) (none_by (is_next calls above.0) (entries calls) n (sym e) (there calls n w)) (waits_is calls n w))

-- the first key that passes
pub first_waits : (calls : FinMap nat_cmp OpenCall) (above r : ReqNo) → Some r.0 ≡ list.find (is_next calls above.0) (keys calls) → IsLowest calls above (Some r)
first_waits calls above r e =
    let first = first_by (is_next calls above.0) (entries calls) r.0 (entries_sorted calls) (sym e) in
    let is = both_true (nat_lt above.0 r.0) (waits_in (get calls r.0)) first.passes in (
      is_less above.0 r.0 is.0,
      is_waits calls r.0 (get calls r.0) refl is.1,
      λ n w. elim (less_by above.0 n (nat_lt above.0 n) refl) [
        | inl le ↦ inl le
        | inr lt ↦ inr (first.lowest n (there calls n w) (ap (λ b. b && waits_in (get calls n)) lt ∙ waits_is calls n w))
      ],
    )

-- no call waits where none is open
pub none_open : (above : ReqNo) → IsLowest empty above None
none_open above n w = absurd (let none : None ≡ Some w.0 = sym (get-empty nat_cmp n) ∙ w.1 in cc)
