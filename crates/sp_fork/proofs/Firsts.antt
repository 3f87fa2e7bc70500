-- The first key whose cookie a connection made is that of the first cookie that it made.
use Rattle.std.proofs.Common.{◌≡◌, ◌≢◌, ℕ, Bool, true, false, cond, List, [], ◌∷◌, Option, None, Some, refl, sym, ap, ◌∙◌, arith}
use Rattle.std.specs.Prelude.{◌&&◌, ◌==◌, T, filter, map, slice_get}
use Rattle.std.specs.FinMap.{FinMap, entries, entries_sorted, get, get-entries, keys}
use Rattle.std.specs.FinMap.Entries as entry
use Rattle.std.specs.List as list
use Rattle.std.specs.List.{AllByRecursion}
use Rattle.std.specs.Ordering.{nat_cmp, eq_by_cmp, is_lt}
use Rattle.std.proofs.lemmas.Grind.{common_steps}
use Rattle.std.proofs.lemmas.Bool.Decides.{nat_tests}
use Rattle.sp_base.specs.declared.names.ConnNo.{ConnNo}
use Rattle.sp_base.specs.declared.names.Cookie.{Cookie}
use Rattle.sp_fork.specs.Jar.{Jar, cookie_of, is_made_by, made_by}
use Rattle.sp_fork.specs.declared.unused.Unused.{Unused}

pub both : (a b : Bool) → T (a && b) → T a × T b
both true b h = (tt, h)
both false b h = absurd h

pub above_is_other : (x y : ℕ) → T (is_lt (nat_cmp x y)) → eq_by_cmp nat_cmp y x ≡ false
above_is_other x y h = grind (arith, nat_tests, common_steps)

pub itself : (k : ℕ) → eq_by_cmp nat_cmp k k ≡ true
itself k = grind (arith, nat_tests, common_steps)

-- ---- at each entry's number a map has the entry's value

later_there : (e : ℕ × Unused) (es some : List (ℕ × Unused)) → T (entry.below_all nat_cmp e.0 some)
    → AllByRecursion (λ x. entry.find nat_cmp x.0 es ≡ Some x.1) some → AllByRecursion (λ x. entry.find nat_cmp x.0 (e ∷ es) ≡ Some x.1) some
later_there e es [] below all = tt
later_there e es (x ∷ some) below all =
    let parts = both (is_lt (nat_cmp e.0 x.0)) (entry.below_all nat_cmp e.0 some) below in (
      ap (λ b. cond b (Some e.1) (entry.find nat_cmp x.0 es)) (above_is_other e.0 x.0 parts.0) ∙ all.0,
      later_there e es some parts.1 all.1,
    )

all_there : (es : List (ℕ × Unused)) → T (entry.is_sorted nat_cmp es) → AllByRecursion (λ x. entry.find nat_cmp x.0 es ≡ Some x.1) es
all_there [] sorted = tt
all_there (e ∷ es) sorted =
    let rises = both (entry.below_all nat_cmp e.0 es) (entry.is_sorted nat_cmp es) sorted in (
      ap (λ b. cond b (Some e.1) (entry.find nat_cmp e.0 es)) (itself e.0),
      later_there e es es rises.0 (all_there es rises.1),
    )

all_got : (m : FinMap nat_cmp Unused) (es : List (ℕ × Unused)) → AllByRecursion (λ x. entry.find nat_cmp x.0 (entries m) ≡ Some x.1) es
    → AllByRecursion (λ x. get m x.0 ≡ Some x.1) es
all_got m [] all = tt
all_got m (x ∷ es) all = (get-entries m x.0 ∙ all.0, all_got m es all.1)

-- ---- the first one

-- a connection made the cookie of an entry
abbrev pub makes : ConnNo → ℕ × Unused → Bool
makes maker e = e.1.maker.0 == maker.0

-- a number's cookie was made by the connection
abbrev pub is_his : FinMap nat_cmp Unused → ConnNo → ℕ → Bool
is_his m maker n = is_made_by maker (get m n)

abbrev numbers : List (ℕ × Unused) → List ℕ
numbers es = map (λ e. e.0) es

abbrev first_cookie : List (ℕ × Unused) → Option Cookie
first_cookie es = slice_get (map cookie_of es) 0

his : (m : FinMap nat_cmp Unused) (maker : ConnNo) (e : ℕ × Unused) → get m e.0 ≡ Some e.1 → is_his m maker e.0 ≡ makes maker e
his m maker e there = ap (is_made_by maker) there

first_by : (m : FinMap nat_cmp Unused) (maker : ConnNo) (es : List (ℕ × Unused)) → AllByRecursion (λ x. get m x.0 ≡ Some x.1) es → (n : ℕ) (x : Unused)
    → list.find (is_his m maker) (numbers es) ≡ Some n → get m n ≡ Some x → first_cookie (filter (makes maker) es) ≡ Some (record { number = n; salt = x.salt })
first_by m maker [] all n x is at = absurd (cc)
first_by m maker (e ∷ es) all n x is at = by_test (makes maker e) (his m maker e all.0) (first_by m maker es all.1 n x) is
  where
    same : e.0 ≡ n → first_cookie (e ∷ filter (makes maker) es) ≡ Some (record { number = n; salt = x.salt })
    same k = let values : e.1 ≡ x = (let got : Some e.1 ≡ Some x = sym all.0 ∙ (ap (λ (j : ℕ). get m j) k ∙ at) in cc) in
        let first : (e.0, e.1) ≡ (n, x) = (cc) in ap (λ (y : ℕ × Unused). Some (cookie_of y)) first

    by_test : (b : Bool) → is_his m maker e.0 ≡ b
        → (list.find (is_his m maker) (numbers es) ≡ Some n → get m n ≡ Some x → first_cookie (filter (makes maker) es) ≡ Some (record { number = n; salt = x.salt }))
        → list.find (is_his m maker) (numbers (e ∷ es)) ≡ Some n
        → first_cookie (cond b (e ∷ filter (makes maker) es) (filter (makes maker) es)) ≡ Some (record { number = n; salt = x.salt })
    by_test true passes rest is = same (let here : Some e.0 ≡ Some n = sym (ap (λ b. cond b (Some e.0) (list.find (is_his m maker) (numbers es))) passes) ∙ is in cc)
    by_test false fails rest is = rest (sym (ap (λ b. cond b (Some e.0) (list.find (is_his m maker) (numbers es))) fails) ∙ is) at

none_by : (m : FinMap nat_cmp Unused) (maker : ConnNo) (es : List (ℕ × Unused)) → AllByRecursion (λ x. get m x.0 ≡ Some x.1) es
    → list.find (is_his m maker) (numbers es) ≡ None → first_cookie (filter (makes maker) es) ≡ None
none_by m maker [] all is = refl
none_by m maker (e ∷ es) all is = by_test (makes maker e) (his m maker e all.0) (none_by m maker es all.1) is
  where
    by_test : (b : Bool) → is_his m maker e.0 ≡ b → (list.find (is_his m maker) (numbers es) ≡ None → first_cookie (filter (makes maker) es) ≡ None)
        → list.find (is_his m maker) (numbers (e ∷ es)) ≡ None → first_cookie (cond b (e ∷ filter (makes maker) es) (filter (makes maker) es)) ≡ None
    by_test true passes rest is = absurd (let here : Some e.0 ≡ None = sym (ap (λ b. cond b (Some e.0) (list.find (is_his m maker) (numbers es))) passes) ∙ is in cc)
    by_test false fails rest is = rest (sym (ap (λ b. cond b (Some e.0) (list.find (is_his m maker) (numbers es))) fails) ∙ is)

-- a number that is found has a cookie
there_by : (m : FinMap nat_cmp Unused) (maker : ConnNo) (ns : List ℕ) (n : ℕ) → list.find (is_his m maker) ns ≡ Some n → is_his m maker n ≡ true
there_by m maker [] n is = absurd (cc)
there_by m maker (k ∷ ns) n is = by_test (is_his m maker k) refl (there_by m maker ns n) is
  where
    by_test : (b : Bool) → is_his m maker k ≡ b → (list.find (is_his m maker) ns ≡ Some n → is_his m maker n ≡ true)
        → cond b (Some k) (list.find (is_his m maker) ns) ≡ Some n → is_his m maker n ≡ true
    by_test true passes rest is = let same : k ≡ n = cc in sym (ap (is_his m maker) same) ∙ passes
    by_test false fails rest is = rest is

pub values_there : (m : FinMap nat_cmp Unused) → AllByRecursion (λ x. get m x.0 ≡ Some x.1) (entries m)
values_there m = all_got m (entries m) (all_there (entries m) (entries_sorted m))

-- the number that is found is that of the first cookie
pub first_is : (jar : Jar) (maker : ConnNo) (n : ℕ) (x : Unused) → list.find (is_his jar.unused maker) (keys jar.unused) ≡ Some n → get jar.unused n ≡ Some x
    → slice_get (made_by jar maker) 0 ≡ Some (record { number = n; salt = x.salt })
first_is jar maker n x is at = first_by jar.unused maker (entries jar.unused) (values_there jar.unused) n x is at

-- where no number is found there is no first cookie
pub none_is : (jar : Jar) (maker : ConnNo) → list.find (is_his jar.unused maker) (keys jar.unused) ≡ None → slice_get (made_by jar maker) 0 ≡ None
none_is jar maker is = none_by jar.unused maker (entries jar.unused) (values_there jar.unused) is

-- where a number is found there is a cookie
pub never_none : (jar : Jar) (maker : ConnNo) (n : ℕ) → list.find (is_his jar.unused maker) (keys jar.unused) ≡ Some n → get jar.unused n ≢ None
never_none jar maker n is none = absurd (let passes : true ≡ false = sym (there_by jar.unused maker (keys jar.unused) n is) ∙ ap (is_made_by maker) none in cc)
