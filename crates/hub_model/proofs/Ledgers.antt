-- A connection takes its unused cookies back.
use Rattle.std.proofs.Common.{◌≡◌, ◌⊎◌, inl, inr, ℕ, Bool, true, false, cond, List, [], ◌∷◌, Option, Some, None, refl, sym, ap, ◌∙◌, subst, arith}
use Rattle.std.specs.Prelude.{◌==◌, filter, map}
use Rattle.std.specs.Ordering.{nat_cmp, eq_by_cmp}
use Rattle.std.specs.FinMap.{entries, get, get-entries}
use Rattle.std.specs.FinMap.Entries as entry
use Rattle.std.proofs.lemmas.Bool.Decides.{nat_tests}
use Rattle.sp_base.specs.declared.names.ConnNo.{ConnNo}
use Rattle.sp_base.specs.declared.names.Cookie.{Cookie}
use Rattle.kern_model.specs.declared.journal.Entry.{Entry}
use Rattle.kern_model.specs.declared.journal.Who.TheVariants.{Cancelled}
use Rattle.kern_model.specs.declared.operation.Op.TheVariants.{Exit}
use Rattle.kern_model.specs.Journal.{state_after, next_entry}
use Rattle.sp_fork.specs.Jar.{Jar, after, cancellable, cookie_of, found, is_kind, made_by, only, redeemable, without}
use Rattle.sp_fork.specs.Jar.Operation.{Cancel}
use Rattle.sp_fork.specs.declared.unused.CookieKind.{CookieKind}
use Rattle.sp_fork.specs.declared.unused.CookieKind.TheVariants as kind
use Rattle.sp_fork.specs.declared.unused.Unused.{Unused}
use Rattle.sp_fork.proofs.Cancelled.{rest_left}
use Rattle.hub_model.specs.Cookies.{Ledger, ledger_of, take_all_back, take_back, take_back_by, take_back_each, with_ledger, without_child}
use Rattle.hub_model.specs.Journal.{nothing_read, with_entry}
use Rattle.hub_model.specs.Sound.{IsSound}
use Rattle.hub_model.specs.State.{Machine}
use Rattle.hub_model.specs.declared.handover.Handover.TheVariants as handover
use Rattle.hub_model.proofs.Entries.{nexts, next_follows, next_who, exit_live}
use Rattle.hub_model.proofs.Keeps.{IsProcess}
use Rattle.hub_model.proofs.Offers.{EndsChild, noted_sound, used, used_sound}
use Rattle.hub_model.proofs.Steps.{HasNoCookie, after_lives, pid_is}

-- ---- which cookie is found

-- what passes a test is there, and passes it
only_is : (test : Unused → Bool) (o : Option Unused) (u : Unused) → only test o ≡ Some u → (o ≡ Some u) × (test u ≡ true)
only_is test None u e = absurd cc
only_is test (Some x) u e = by_test (test x) refl e where
  by_test : (b : Bool) → test x ≡ b → cond {A = Option Unused} b (Some x) None ≡ Some u → (◌≡◌ {A = Option Unused} (Some x) (Some u)) × (test u ≡ true)
  by_test true passes h = (h, let same : x ≡ u = cc in sym (ap test same) ∙ passes)
  by_test false fails h = absurd cc

kind_is : (a b : CookieKind) → is_kind a b ≡ true → a ≡ b
kind_is kind.Fork kind.Fork e = refl
kind_is kind.Exec kind.Exec e = refl
kind_is kind.Fork kind.Exec e = absurd cc
kind_is kind.Exec kind.Fork e = absurd cc

number_is : (a b : ℕ) → (a == b) ≡ true → a ≡ b
number_is a b e = grind (arith, nat_tests)

same_number : (a b : ℕ) → a ≡ b → (a == b) ≡ true
same_number a b e = grind (arith, nat_tests)

-- a cookie that can be redeemed is unused, and of the kind
pub redeemable_is : (jar : Jar) (cookie : Cookie) (k : CookieKind) (u : Unused) → redeemable jar cookie k ≡ Some u → (get jar.unused cookie.number ≡ Some u) × (u.kind ≡ k)
redeemable_is jar cookie k u e =
    let of_kind = only_is (λ x. is_kind x.kind k) (found jar cookie) u e in
    let salted = only_is (λ x. x.salt == cookie.salt) (get jar.unused cookie.number) u of_kind.0 in
    (salted.0, kind_is u.kind k of_kind.1)

-- a cookie that can be cancelled is unused, and the connection made it
pub cancellable_is : (jar : Jar) (cookie : Cookie) (c : ConnNo) (u : Unused) → cancellable jar cookie c ≡ Some u → (get jar.unused cookie.number ≡ Some u) × (u.maker.0 ≡ c.0)
cancellable_is jar cookie c u e =
    let made = only_is (λ x. x.maker.0 == c.0) (found jar cookie) u e in
    let salted = only_is (λ x. x.salt == cookie.salt) (get jar.unused cookie.number) u made.0 in
    (salted.0, number_is u.maker.0 c.0 made.1)

-- ---- one cookie is taken back

child_ends : (m : Machine) (number : ℕ) (u : Unused) (next : Option Entry) → IsProcess m.journal u.pid → u.kind ≡ kind.Fork
    → next_entry m.journal u.pid (Cancelled number) Exit nothing_read ≡ next
    → (with_entry m.journal next ≡ m.journal) ⊎ EndsChild m.journal number u (with_entry m.journal next)
child_ends m number u None live fork h = inl refl
child_ends m number u (Some e) live fork h =
    let n = nexts m.journal u.pid (Cancelled number) Exit nothing_read e h in
    inr (record {
      entry = e;
      grown = refl;
      follows = next_follows m.journal u.pid (Cancelled number) Exit nothing_read e n live tt;
      who = next_who m.journal u.pid (Cancelled number) Exit nothing_read e n;
      fork = fork;
      others = λ q was other. after_lives m.journal u.pid (Cancelled number) Exit nothing_read e n q
          (exit_live (state_after m.journal) u.pid.0 e.outcome n.next q.0 n.acts (λ (same : q.0 ≡ u.pid.0). other (pid_is q u.pid same)) was);
    })

child_ends_by : (m : Machine) (number : ℕ) (u : Unused) (k : CookieKind) → IsProcess m.journal u.pid → u.kind ≡ k
    → (without_child m.journal number u.pid k ≡ m.journal) ⊎ EndsChild m.journal number u (without_child m.journal number u.pid k)
child_ends_by m number u kind.Fork live is = child_ends m number u (next_entry m.journal u.pid (Cancelled number) Exit nothing_read) live is refl
child_ends_by m number u kind.Exec live is = inl refl

-- the jar without a cookie that can be cancelled
pub cancelled_jar : (jar : Jar) (cookie : Cookie) (c : ConnNo) (u : Unused) → cancellable jar cookie c ≡ Some u → after jar (Cancel cookie c) ≡ used jar cookie.number
cancelled_jar jar cookie c u e = ap (λ (o : Option Unused). without jar cookie.number o) e

-- the machine is sound once a connection has taken one of its cookies back
pub taken_back : (m : Machine) (c : ConnNo) (cookie : Cookie) (o : Option Unused) → IsSound m → cancellable m.cookies cookie c ≡ o
    → IsSound (with_ledger m (take_back_by (ledger_of m) c cookie o))
taken_back m c cookie None sound e = sound
taken_back m c cookie (Some u) sound e =
    let is = cancellable_is m.cookies cookie c u e in
    let journal' = without_child m.journal cookie.number u.pid u.kind in
    let handovers' = handover.Cancelled cookie.number ∷ m.handovers in
    let grows = child_ends_by m cookie.number u u.kind (sound.cookies cookie.number u is.0).process refl in
    subst (λ (jar : Jar). IsSound (record m { journal = journal'; cookies = jar; handovers = handovers' })) (sym (cancelled_jar m.cookies cookie c u e))
    (noted_sound (record m { journal = journal'; cookies = used m.cookies cookie.number }) handovers' m.halted (used_sound m cookie.number u journal' sound is.0 grows))

-- ---- all cookies are taken back

each_taken_back : (m : Machine) (l : Ledger) (c : ConnNo) (cookies : List Cookie) → IsSound (with_ledger m l) → IsSound (with_ledger m (take_back_each l c cookies))
each_taken_back m l c [] sound = sound
each_taken_back m l c (cookie ∷ cookies) sound =
    each_taken_back m (take_back l c cookie) c cookies (taken_back (with_ledger m l) c cookie (cancellable l.cookies cookie c) sound refl)

-- the machine is sound once a connection has taken all its cookies back
pub all_taken_back : (m : Machine) (c : ConnNo) → IsSound m → IsSound (with_ledger m (take_all_back (ledger_of m) c))
all_taken_back m c sound = each_taken_back m (ledger_of m) c (made_by m.cookies c) sound

jar_after : (l : Ledger) (c : ConnNo) (cookie : Cookie) (o : Option Unused) → cancellable l.cookies cookie c ≡ o → (take_back_by l c cookie o).cookies ≡ after l.cookies (Cancel cookie c)
jar_after l c cookie None e = sym (ap (λ (o : Option Unused). without l.cookies cookie.number o) e)
jar_after l c cookie (Some u) e = refl

none_made : (l : Ledger) (c : ConnNo) (cookies : List Cookie) → made_by l.cookies c ≡ cookies → made_by (take_back_each l c cookies).cookies c ≡ []
none_made l c [] e = e
none_made l c (cookie ∷ cookies) e =
    none_made (take_back l c cookie) c cookies
    (ap (λ (jar : Jar). made_by jar c) (jar_after l c cookie (cancellable l.cookies cookie c) refl) ∙ rest_left l.cookies c cookie cookies e)

-- the cookies among entries that a connection made
abbrev made_of : ConnNo → List (ℕ × Unused) → List Cookie
made_of c es = map cookie_of (filter (λ e. e.1.maker.0 == c.0) es)

not_found : (c : ConnNo) (es : List (ℕ × Unused)) (n : ℕ) (u : Unused) → made_of c es ≡ [] → entry.find nat_cmp n es ≡ Some u → u.maker.0 ≡ c.0 → ⊥
not_found c [] n u none there by = absurd cc
not_found c (e ∷ es) n u none there by = by_maker (e.1.maker.0 == c.0) refl (λ rest h. not_found c es n u rest h by) none where
  here : (e.1.maker.0 == c.0) ≡ false → e.1 ≡ u → ⊥
  here other same = let is : (e.1.maker.0 == c.0) ≡ true = same_number e.1.maker.0 c.0 (ap (λ (v : Unused). v.maker.0) same ∙ by) in let clash : false ≡ true = sym other ∙ is in cc

  by_number : (b : Bool) → (e.1.maker.0 == c.0) ≡ false → (entry.find nat_cmp n es ≡ Some u → ⊥) → cond {A = Option Unused} b (Some e.1) (entry.find nat_cmp n es) ≡ Some u → ⊥
  by_number true other later h = here other (let same : e.1 ≡ u = cc in same)
  by_number false other later h = later h

  by_maker : (b : Bool) → (e.1.maker.0 == c.0) ≡ b → (made_of c es ≡ [] → entry.find nat_cmp n es ≡ Some u → ⊥)
      → map cookie_of (cond b (e ∷ filter (λ (x : ℕ × Unused). x.1.maker.0 == c.0) es) (filter (λ (x : ℕ × Unused). x.1.maker.0 == c.0) es)) ≡ [] → ⊥
  by_maker true passes later h = absurd cc
  by_maker false other later h = by_number (eq_by_cmp nat_cmp n e.0) other (later h) there

-- a connection that has made none of the unused cookies has made none of a number
pub not_made : (jar : Jar) (c : ConnNo) → made_by jar c ≡ [] → (number : ℕ) (u : Unused) → get jar.unused number ≡ Some u → u.maker.0 ≡ c.0 → ⊥
not_made jar c none number u there by = not_found c (entries jar.unused) number u none (sym (get-entries jar.unused number) ∙ there) by

-- a connection that has taken all its cookies back has none left
pub none_left : (m : Machine) (c : ConnNo) → HasNoCookie (with_ledger m (take_all_back (ledger_of m) c)) c.0
none_left m c number u there by = not_made (take_all_back (ledger_of m) c).cookies c (none_made (ledger_of m) c (made_by m.cookies c) refl) number u there by
