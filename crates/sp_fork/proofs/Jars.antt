-- What operations leave of a jar.
use Rattle.std.proofs.Common.{◌≡◌, ◌≢◌, ◌⊎◌, inl, inr, ℕ, ◌+◌, ◌<◌, ◌≤◌, Bool, true, false, cond, List, [], ◌∷◌, ◌++◌, Option, None, Some, IsSome, refl, sym, ap, ◌∙◌, subst, arith, Less}
use Rattle.std.specs.Prelude.{◌||◌, ◌==◌, ◌-◌, nat_le}
use Rattle.std.specs.Cmp.{nat_cmp_total}
use Rattle.std.specs.FinMap.{FinMap, contains_key, empty, get, insert, len, remove, get-empty, len-empty, len-insert, len-remove}
use Rattle.std.specs.List.{AllByRecursion}
use Rattle.std.specs.List.Sorted.{IsStrictlySortedBy}
use Rattle.std.specs.Ordering.{nat_cmp}
use Rattle.std.proofs.lemmas.Grind.{common_steps}
use Rattle.std.proofs.lemmas.Bool.Decides.{nat_tests}
use Rattle.sp_base.specs.declared.names.ConnNo.{ConnNo}
use Rattle.sp_base.specs.declared.names.Cookie.{Cookie}
use Rattle.sp_fork.specs.Jar.{IsJar, Jar, Operation, after, cancellable, empty_jar, found, highest_number, is_full, is_kind, only, redeemable, with_next, without}
use Rattle.sp_fork.specs.Jar.Operation.{Make, Redeem, Cancel}
use Rattle.sp_fork.specs.Run.{IsSpent, carried, numbers_given}
use Rattle.sp_fork.specs.declared.unused.CookieKind.{CookieKind}
use Rattle.sp_fork.specs.declared.unused.TheConstants.{UNUSED_COOKIES}
use Rattle.sp_fork.specs.declared.unused.Unused.{Unused}
use Rattle.tables.proofs.Maps.{get_put_other, get_gone, get_gone_other, same_or_not}

-- ---- a jar stays a jar

pub nothing : (o : Option Unused) → o ≡ None → IsSome o → ⊥
nothing o none there = absurd (cc)

few_in_empty : len (empty {X = Unused} {R = nat_cmp}) ≤ UNUSED_COOKIES
few_in_empty = let none = len-empty nat_cmp Unused in omega arith

pub empty_is_jar : IsJar empty_jar
empty_is_jar = record {
  least = λ n there. absurd (nothing _ (get-empty nat_cmp n) there);
  most = λ n there. absurd (nothing _ (get-empty nat_cmp n) there);
  few = few_in_empty;
}

first_false : (a b : Bool) → (a || b) ≡ false → a ≡ false
first_false true b e = e
first_false false b e = refl

room : (jar : Jar) → is_full jar ≡ false → len jar.unused < UNUSED_COOKIES
room jar e = let le = first_false (nat_le UNUSED_COOKIES (len jar.unused)) (jar.given == highest_number) e in grind (arith, nat_tests)

one_more : (b : Bool) (a n : ℕ) → a < n → cond b a (a + 1) ≤ n
one_more true a n l = omega arith
one_more false a n l = omega arith

one_less : (b : Bool) (a n : ℕ) → a ≤ n → cond b (a - 1) a ≤ n
one_less true a n l = omega arith
one_less false a n l = omega arith

-- a number of a jar with one more cookie is the next one, or one that the jar had
among_next : (jar : Jar) (x : Unused) (n : ℕ) → IsSome (get (with_next jar x).unused n) → (n ≡ jar.given + 1) ⊎ IsSome (get jar.unused n)
among_next jar x n there =
    elim (same_or_not n (jar.given + 1)) [
      | inl same ↦ inl same
      | inr other ↦ inr (subst IsSome (get_put_other jar.unused (jar.given + 1) x n other) there)
    ]

pub next_is_jar : (jar : Jar) (x : Unused) → IsJar jar → is_full jar ≡ false → IsJar (with_next jar x)
next_is_jar jar x is e = record {
  least = λ n there. elim (among_next jar x n there) [ inl same ↦ omega arith | inr before ↦ is.least n before ];
  most = λ n there. elim (among_next jar x n there) [ inl same ↦ (omega arith) | inr before ↦ (let le = is.most n before in omega arith) ];
  few = subst (λ (n : ℕ). n ≤ UNUSED_COOKIES) (sym (len-insert nat_cmp_total jar.unused (jar.given + 1) x))
      (one_more (contains_key jar.unused (jar.given + 1)) (len jar.unused) UNUSED_COOKIES (room jar e));
}

-- a number of a jar with a cookie less is one that the jar had
pub among_less : (jar : Jar) (k n : ℕ) → IsSome (get (remove jar.unused k) n) → IsSome (get jar.unused n)
among_less jar k n there =
    elim (same_or_not n k) [
      | inl same ↦ absurd (nothing _ (ap (λ (j : ℕ). get (remove jar.unused k) j) same ∙ get_gone jar.unused k) there)
      | inr other ↦ subst IsSome (get_gone_other jar.unused k n other) there
    ]

less_is_jar : (jar : Jar) (k : ℕ) → IsJar jar → IsJar (record jar { unused = remove jar.unused k })
less_is_jar jar k is = record {
  least = λ n there. is.least n (among_less jar k n there);
  most = λ n there. is.most n (among_less jar k n there);
  few = subst (λ (n : ℕ). n ≤ UNUSED_COOKIES) (sym (len-remove nat_cmp_total jar.unused k))
      (one_less (contains_key jar.unused k) (len jar.unused) UNUSED_COOKIES is.few);
}

without_is_jar : (jar : Jar) (k : ℕ) (o : Option Unused) → IsJar jar → IsJar (without jar k o)
without_is_jar jar k None is = is
without_is_jar jar k (Some x) is = less_is_jar jar k is

after_is_jar : (jar : Jar) (operation : Operation) → IsJar jar → IsJar (after jar operation)
after_is_jar jar (Make x) is = by_room (is_full jar) refl
  where
    by_room : (b : Bool) → is_full jar ≡ b → IsJar (cond b jar (with_next jar x))
    by_room true e = is
    by_room false e = next_is_jar jar x is e
after_is_jar jar (Redeem cookie kind) is = without_is_jar jar cookie.number (redeemable jar cookie kind) is
after_is_jar jar (Cancel cookie maker) is = without_is_jar jar cookie.number (cancellable jar cookie maker) is

pub carried_is_jar : (jar : Jar) (operations : List Operation) → IsJar jar → IsJar (carried jar operations)
carried_is_jar jar [] is = is
carried_is_jar jar (operation ∷ operations) is = carried_is_jar (after jar operation) operations (after_is_jar jar operation is)

-- ---- the same of a jar's parts

jar_of : FinMap nat_cmp Unused → ℕ → Jar
jar_of m given = record { unused = m; given = given }

pub none_unused : (m : FinMap nat_cmp Unused) → m ≡ empty → IsJar (record { unused = m; given = 0 })
unfolding jar_of
none_unused m is = subst (λ (x : FinMap nat_cmp Unused). IsJar (jar_of x 0)) (sym is) empty_is_jar

pub one_more_unused : (m n : FinMap nat_cmp Unused) (x : Unused) (given : ℕ) → n ≡ insert m (given + 1) x → IsJar (record { unused = m; given = given })
    → is_full (record { unused = m; given = given }) ≡ false → IsJar (record { unused = n; given = given + 1 })
unfolding jar_of
one_more_unused m n x given is jar e = subst (λ (x : FinMap nat_cmp Unused). IsJar (jar_of x (given + 1))) (sym is) (next_is_jar (jar_of m given) x jar e)

pub one_less_unused : (m n : FinMap nat_cmp Unused) (k given : ℕ) → n ≡ remove m k → IsJar (record { unused = m; given = given })
    → IsJar (record { unused = n; given = given })
unfolding jar_of
one_less_unused m n k given is jar = subst (λ (x : FinMap nat_cmp Unused). IsJar (jar_of x given)) (sym is) (less_is_jar (jar_of m given) k jar)

-- ---- what is gone stays gone

-- a number was given, and no unused cookie has it
record IsGone (jar : Jar) (n : ℕ) : Type 0 where
  none : get jar.unused n ≡ None
  given : n ≤ jar.given

without_keeps_gone : (jar : Jar) (k n : ℕ) (o : Option Unused) → IsGone jar n → IsGone (without jar k o) n
without_keeps_gone jar k n None gone = gone
without_keeps_gone jar k n (Some x) gone = record {
  none = elim (same_or_not n k) [
    | inl same ↦ ap (λ (j : ℕ). get (remove jar.unused k) j) same ∙ get_gone jar.unused k
    | inr other ↦ get_gone_other jar.unused k n other ∙ gone.none
  ];
  given = gone.given;
}

after_keeps_gone : (jar : Jar) (operation : Operation) (n : ℕ) → IsGone jar n → IsGone (after jar operation) n
after_keeps_gone jar (Make x) n gone = by_room (is_full jar)
  where
    other : n ≢ jar.given + 1
    other e = let le = gone.given in omega arith

    by_room : (b : Bool) → IsGone (cond b jar (with_next jar x)) n
    by_room true = gone
    by_room false = record {
      none = get_put_other jar.unused (jar.given + 1) x n other ∙ gone.none;
      given = let le = gone.given in omega arith;
    }
after_keeps_gone jar (Redeem cookie kind) n gone = without_keeps_gone jar cookie.number n (redeemable jar cookie kind) gone
after_keeps_gone jar (Cancel cookie maker) n gone = without_keeps_gone jar cookie.number n (cancellable jar cookie maker) gone

carried_keeps_gone : (jar : Jar) (operations : List Operation) (n : ℕ) → IsGone jar n → IsGone (carried jar operations) n
carried_keeps_gone jar [] n gone = gone
carried_keeps_gone jar (operation ∷ operations) n gone = carried_keeps_gone (after jar operation) operations n (after_keeps_gone jar operation n gone)

gone_is_spent : (jar : Jar) (n : ℕ) → IsGone jar n → IsSpent jar n
gone_is_spent jar n gone = record {
  redeem = λ cookie kind same. ap (λ o. only (λ x. is_kind x.kind kind) (only (λ x. x.salt == cookie.salt) o)) (none_at cookie same);
  cancel = λ cookie maker same. ap (λ o. only (λ x. x.maker.0 == maker.0) (only (λ x. x.salt == cookie.salt) o)) (none_at cookie same);
}
  where
    none_at : (cookie : Cookie) → cookie.number ≡ n → get jar.unused cookie.number ≡ None
    none_at cookie same = ap (λ (k : ℕ). get jar.unused k) same ∙ gone.none

-- what passes a test is there
only_some : (test : Unused → Bool) (o : Option Unused) → IsSome (only test o) → IsSome o
only_some test None there = there
only_some test (Some x) there = refl

taken_is_gone : (jar : Jar) (n : ℕ) (o : Option Unused) → IsJar jar → IsSome (get jar.unused n) → IsSome o → IsGone (without jar n o) n
taken_is_gone jar n None is here there = absurd (cc)
taken_is_gone jar n (Some x) is here there = record { none = get_gone jar.unused n; given = is.most n here }

pub redeemed_is_spent : (jar : Jar) (cookie : Cookie) (kind : CookieKind) (between : List Operation) → IsJar jar → IsSome (redeemable jar cookie kind)
    → IsSpent (carried jar (Redeem cookie kind ∷ between)) cookie.number
redeemed_is_spent jar cookie kind between is there =
    let here = only_some (λ x. x.salt == cookie.salt) _ (only_some (λ x. is_kind x.kind kind) (found jar cookie) there) in
    gone_is_spent _ cookie.number (carried_keeps_gone (after jar (Redeem cookie kind)) between cookie.number
    (taken_is_gone jar cookie.number (redeemable jar cookie kind) is here there))

pub cancelled_is_spent : (jar : Jar) (cookie : Cookie) (maker : ConnNo) (between : List Operation) → IsJar jar → IsSome (cancellable jar cookie maker)
    → IsSpent (carried jar (Cancel cookie maker ∷ between)) cookie.number
cancelled_is_spent jar cookie maker between is there =
    let here = only_some (λ x. x.salt == cookie.salt) _ (only_some (λ x. x.maker.0 == maker.0) (found jar cookie) there) in
    gone_is_spent _ cookie.number (carried_keeps_gone (after jar (Cancel cookie maker)) between cookie.number
    (taken_is_gone jar cookie.number (cancellable jar cookie maker) is here there))

-- ---- numbers rise

less_by_cmp : (a b : ℕ) → a < b → nat_cmp a b ≡ Less
less_by_cmp a b l = grind (arith, nat_tests, common_steps)

by_cmp_less : (a b : ℕ) → nat_cmp a b ≡ Less → a < b
by_cmp_less a b e = grind (arith, nat_tests, common_steps)

lower : (a b : ℕ) (ns : List ℕ) → a ≤ b → AllByRecursion (λ n. nat_cmp b n ≡ Less) ns → AllByRecursion (λ n. nat_cmp a n ≡ Less) ns
lower a b [] le all = tt
lower a b (n ∷ ns) le all = (less_by_cmp a n (let l = by_cmp_less b n all.0 in omega arith), lower a b ns le all.1)

without_gives_none : (jar : Jar) (k : ℕ) (o : Option Unused) → (without jar k o).given ≡ jar.given
without_gives_none jar k None = refl
without_gives_none jar k (Some x) = refl

same_start : (a b : ℕ) (ns : List ℕ) → a ≡ b → IsStrictlySortedBy nat_cmp (a ∷ ns) → IsStrictlySortedBy nat_cmp (b ∷ ns)
same_start a b ns e rises = subst (λ (n : ℕ). IsStrictlySortedBy nat_cmp (n ∷ ns)) e rises

pub given_rise : (jar : Jar) (operations : List Operation) → IsStrictlySortedBy nat_cmp (jar.given ∷ numbers_given jar operations)
unfolding IsStrictlySortedBy
given_rise jar [] = (tt, tt)
given_rise jar (Make x ∷ operations) = by_room (is_full jar) (given_rise (after jar (Make x)) operations)
  where
    by_room : (b : Bool) → IsStrictlySortedBy nat_cmp ((cond b jar (with_next jar x)).given ∷ numbers_given (cond b jar (with_next jar x)) operations)
        → IsStrictlySortedBy nat_cmp (jar.given ∷ (cond b [] ((jar.given + 1) ∷ []) ++ numbers_given (cond b jar (with_next jar x)) operations))
    by_room true rest = rest
    by_room false rest = ((less_by_cmp jar.given (jar.given + 1) (omega arith), lower jar.given (jar.given + 1) _ (omega arith) rest.0), rest)
given_rise jar (Redeem cookie kind ∷ operations) =
    same_start _ _ _ (without_gives_none jar cookie.number (redeemable jar cookie kind)) (given_rise (after jar (Redeem cookie kind)) operations)
given_rise jar (Cancel cookie maker ∷ operations) =
    same_start _ _ _ (without_gives_none jar cookie.number (cancellable jar cookie maker)) (given_rise (after jar (Cancel cookie maker)) operations)
