-- The first of a connection's cookies can be cancelled, and that leaves the others.
use Rattle.std.proofs.Common.{◌≡◌, ℕ, Bool, true, false, cond, List, [], ◌∷◌, Option, None, Some, IsSome, refl, sym, ap, ◌∙◌, subst, arith}
use Rattle.std.specs.Prelude.{◌==◌, T, filter, map, not}
use Rattle.std.specs.Cmp.{nat_cmp_total}
use Rattle.std.specs.FinMap.{FinMap, entries, entries_sorted, from_sorted, get, get-entries, get-from_sorted, get-remove, entries-from_sorted, nat_cmp-IsAntisymmetric, remove, same_map}
use Rattle.std.specs.FinMap.Entries as entry
use Rattle.std.specs.List.{AllByRecursion}
use Rattle.std.specs.Ordering.{nat_cmp, eq_by_cmp, is_lt}
use Rattle.std.proofs.lemmas.Grind.{common_steps}
use Rattle.std.proofs.lemmas.Bool.Decides.{nat_tests}
use Rattle.sp_base.specs.declared.names.ConnNo.{ConnNo}
use Rattle.sp_base.specs.declared.names.Cookie.{Cookie}
use Rattle.sp_fork.proofs.Firsts.{both, above_is_other, itself, makes, values_there}
use Rattle.sp_fork.specs.Jar.{Jar, cancellable, cookie_of, made_by, only, without}
use Rattle.sp_fork.specs.declared.unused.Unused.{Unused}

-- ---- the entries of a map without a number

-- a number is another one
abbrev is_other : ℕ → ℕ → Bool
is_other k n = not (eq_by_cmp nat_cmp n k)

abbrev others : ℕ → List (ℕ × Unused) → List (ℕ × Unused)
others k = entry.where_key nat_cmp (is_other k)

equal_is : (x y : ℕ) → eq_by_cmp nat_cmp x y ≡ true → x ≡ y
equal_is x y e = grind (arith, nat_tests, common_steps)

turned : (b : Bool) (o : Option Unused) → cond (not b) o None ≡ cond b None o
turned true o = refl
turned false o = refl

others_sorted : (m : FinMap nat_cmp Unused) (k : ℕ) → T (entry.is_sorted nat_cmp (others k (entries m)))
others_sorted m k = entry.is_sorted-where_key nat_cmp (is_other k) (entries m) (entries_sorted m)

same_got : (m : FinMap nat_cmp Unused) (k q : ℕ) → get (from_sorted {R = nat_cmp} (others k (entries m))) q ≡ get (remove m k) q
same_got m k q =
    get-from_sorted nat_cmp (others k (entries m)) q (others_sorted m k)
    ∙ (entry.find-where_key nat_cmp (is_other k) q (λ x tied. ap (is_other k) (sym (nat_cmp-IsAntisymmetric q x tied))) (entries m)
    ∙ (turned (eq_by_cmp nat_cmp q k) (entry.find nat_cmp q (entries m))
    ∙ (ap (λ o. cond (eq_by_cmp nat_cmp q k) None o) (sym (get-entries m q)) ∙ sym (get-remove nat_cmp_total m k q))))

entries_less : (m : FinMap nat_cmp Unused) (k : ℕ) → entries (remove m k) ≡ others k (entries m)
entries_less m k =
    sym (ap (λ (x : FinMap nat_cmp Unused). entries x) (same_map nat_cmp_total nat_cmp-IsAntisymmetric _ _ (same_got m k)))
    ∙ entries-from_sorted nat_cmp (others k (entries m)) (others_sorted m k)

-- ---- the cookies that are left

-- entries above a number are all others
all_others : (k : ℕ) (es : List (ℕ × Unused)) → T (entry.below_all nat_cmp k es) → others k es ≡ es
all_others k [] below = refl
all_others k (e ∷ es) below =
    let parts = both (is_lt (nat_cmp k e.0)) (entry.below_all nat_cmp k es) below in
    ap (λ b. cond (not b) (e ∷ others k es) (others k es)) (above_is_other k e.0 parts.0) ∙ ap (λ (xs : List (ℕ × Unused)). e ∷ xs) (all_others k es parts.1)

abbrev cookies : ConnNo → List (ℕ × Unused) → List Cookie
cookies maker es = map cookie_of (filter (makes maker) es)

-- an entry of another connection is passed over, whether it is left or not
passed : (maker : ConnNo) (e : ℕ × Unused) (es : List (ℕ × Unused)) (b : Bool) → makes maker e ≡ false → cookies maker (cond b (e ∷ es) es) ≡ cookies maker es
passed maker e es true fails = ap (λ b. map cookie_of (cond b (e ∷ filter (makes maker) es) (filter (makes maker) es))) fails
passed maker e es false fails = refl

left : (maker : ConnNo) (first : Cookie) (rest : List Cookie) (es : List (ℕ × Unused)) → T (entry.is_sorted nat_cmp es)
    → cookies maker es ≡ first ∷ rest → cookies maker (others first.number es) ≡ rest
left maker first rest [] sorted is = absurd (cc)
left maker first rest (e ∷ es) sorted is = by_test (left maker first rest es (both (entry.below_all nat_cmp e.0 es) (entry.is_sorted nat_cmp es) sorted).1) (makes maker e) refl is
  where
    here : cookie_of e ≡ first → others first.number (e ∷ es) ≡ es
    here same = subst (λ (c : Cookie). others c.number (e ∷ es) ≡ es) same
        (ap (λ b. cond (not b) (e ∷ others e.0 es) (others e.0 es)) (itself e.0) ∙ all_others e.0 es (both (entry.below_all nat_cmp e.0 es) (entry.is_sorted nat_cmp es) sorted).0)

    by_test : (cookies maker es ≡ first ∷ rest → cookies maker (others first.number es) ≡ rest)
        → (b : Bool) → makes maker e ≡ b → map cookie_of (cond b (e ∷ filter (makes maker) es) (filter (makes maker) es)) ≡ first ∷ rest
        → cookies maker (others first.number (e ∷ es)) ≡ rest
    by_test later true passes is =
        let same : cookie_of e ≡ first = cc in
        let more : cookies maker es ≡ rest = cc in
        ap (cookies maker) (here same) ∙ more
    by_test later false fails is = passed maker e (others first.number es) (is_other first.number e.0) fails ∙ later is

-- ---- the first cookie is there

-- an unused cookie has a cookie's number and salt, and a connection made it
record IsMade (m : FinMap nat_cmp Unused) (maker : ConnNo) (cookie : Cookie) : Type 0 where
  made : Unused
  here : get m cookie.number ≡ Some made
  salt : made.salt ≡ cookie.salt
  maker_is : (made.maker.0 == maker.0) ≡ true

first_made : (m : FinMap nat_cmp Unused) (maker : ConnNo) (first : Cookie) (rest : List Cookie) (es : List (ℕ × Unused)) → AllByRecursion (λ x. get m x.0 ≡ Some x.1) es
    → cookies maker es ≡ first ∷ rest → IsMade m maker first
first_made m maker first rest [] all is = absurd (cc)
first_made m maker first rest (e ∷ es) all is = by_test (first_made m maker first rest es all.1) (makes maker e) refl is
  where
    here : cookie_of e ≡ first → makes maker e ≡ true → IsMade m maker first
    here same passes = subst (IsMade m maker) same (record { made = e.1; here = all.0; salt = refl; maker_is = passes })

    by_test : (cookies maker es ≡ first ∷ rest → IsMade m maker first) → (b : Bool) → makes maker e ≡ b
        → map cookie_of (cond b (e ∷ filter (makes maker) es) (filter (makes maker) es)) ≡ first ∷ rest → IsMade m maker first
    by_test later true passes is = here (cc) passes
    by_test later false fails is = later is

same_number : (x y : ℕ) → x ≡ y → (x == y) ≡ true
same_number x y e = grind (arith, nat_tests)

made_is_cancellable : (jar : Jar) (maker : ConnNo) (cookie : Cookie) (is : IsMade jar.unused maker cookie) → cancellable jar cookie maker ≡ Some is.made
made_is_cancellable jar maker cookie is =
    ap (λ o. only (λ x. x.maker.0 == maker.0) (only (λ x. x.salt == cookie.salt) o)) is.here
    ∙ (ap (λ b. only (λ x. x.maker.0 == maker.0) (cond b (Some is.made) None)) (same_number is.made.salt cookie.salt is.salt)
    ∙ ap (λ b. cond b (Some is.made) None) is.maker_is)

first_is_cancellable : (jar : Jar) (maker : ConnNo) (first : Cookie) (rest : List Cookie) → made_by jar maker ≡ first ∷ rest → (x : Unused) × (cancellable jar first maker ≡ Some x)
first_is_cancellable jar maker first rest is =
    let made = first_made jar.unused maker first rest (entries jar.unused) (values_there jar.unused) is in
    (made.made, made_is_cancellable jar maker first made)

pub first_there : (jar : Jar) (maker : ConnNo) (first : Cookie) (rest : List Cookie) → made_by jar maker ≡ first ∷ rest → IsSome (cancellable jar first maker)
first_there jar maker first rest is = subst IsSome (sym (first_is_cancellable jar maker first rest is).1) refl

pub rest_left : (jar : Jar) (maker : ConnNo) (first : Cookie) (rest : List Cookie) → made_by jar maker ≡ first ∷ rest
    → made_by (without jar first.number (cancellable jar first maker)) maker ≡ rest
rest_left jar maker first rest is =
    ap (λ o. made_by (without jar first.number o) maker) (first_is_cancellable jar maker first rest is).1
    ∙ (ap (cookies maker) (entries_less jar.unused first.number) ∙ left maker first rest (entries jar.unused) (entries_sorted jar.unused) is)
