-- What is handed over by cookies stays explained as cookies are made, used and taken back.
use Rattle.std.proofs.Common.{◌≡◌, inl, inr, ℕ, ◌+◌, ◌<◌, ◌≤◌, List, [], ◌∷◌, ◌++◌, Option, Some, None, refl, sym, ap, subst, ◌∙◌, append-nil, arith}
use Rattle.std.specs.FinMap.{get, insert}
use Rattle.sp_base.specs.declared.names.ConnNo.{ConnNo}
use Rattle.sp_base.specs.declared.names.Cookie.{Cookie}
use Rattle.sp_base.specs.declared.names.Pid.{Pid}
use Rattle.kern_model.specs.declared.journal.Entry.{Entry}
use Rattle.kern_model.specs.declared.journal.Who.{Who}
use Rattle.kern_model.specs.declared.journal.Who.TheVariants.{Request, End, Cancelled, Host}
use Rattle.kern_model.specs.declared.operation.Op.TheVariants.{Exit}
use Rattle.kern_model.specs.Journal.{next_entry}
use Rattle.sp_fork.specs.Jar.{cancellable, made_by, with_next, without}
use Rattle.sp_fork.specs.declared.unused.CookieKind.{CookieKind}
use Rattle.sp_fork.specs.declared.unused.CookieKind.TheVariants as kind
use Rattle.sp_fork.specs.declared.unused.Unused.{Unused}
use Rattle.hub_model.specs.Cookies.{Ledger, take_all_back, take_back, take_back_by, take_back_each, with_ledger, without_child}
use Rattle.hub_model.specs.Journal.{exit_of, nothing_read, with_entry}
use Rattle.hub_model.specs.Owners.{number_made, number_used}
use Rattle.hub_model.specs.State.{Machine}
use Rattle.hub_model.specs.declared.handover.Handover.{Handover}
use Rattle.hub_model.specs.declared.handover.Handover.TheVariants as handover
use Rattle.hub_model.proofs.Entries.{nexts}
use Rattle.hub_model.proofs.Keeps.{all_map}
use Rattle.hub_model.proofs.Ledgers.{cancellable_is}
use Rattle.hub_model.proofs.Offers.{left}
use Rattle.hub_model.proofs.OwnersStay.{receiver}
use Rattle.hub_model.proofs.OwnersKept.{Hands, IsByOwner, IsGiven, IsLeftUnused, IsMadeAs, IsTraced, IsTracedCookie, cookie_stays, cookie_traced, journal_traced, owners_beside, with_handover}
use Rattle.tables.proofs.Maps.{after_change, put_changes}

-- ---- a cookie is used up

nothing_is : {X : Type 0} (n : ℕ) (o : Option ℕ) → o ≡ None → o ≡ Some n → X
nothing_is n o e h = absurd (let k : None ≡ Some n = sym e ∙ h in cc)

-- a handover that uses up an unused cookie owes nothing more
pub uses : (m : Machine) (h : Handover) (k : ℕ) (u : Unused) → IsTraced m → get m.cookies.unused k ≡ Some u → number_made h ≡ None → number_used h ≡ Some k
    → Hands m h (without m.cookies k (Some u))
uses m h k u traced there makes used = record {
  rises = λ n e. nothing_is n (number_made h) makes e;
  first = λ n e. (let same : k ≡ n = (let q = sym used ∙ e in cc) in subst (λ (i : ℕ). IsLeftUnused i m.handovers) same (traced.cookies k u there).unused);
  given = record {
    made = λ n e. nothing_is n (number_made h) makes e;
    used = λ n e. (let same : k ≡ n = (let q = sym used ∙ e in cc) in subst (λ (i : ℕ). i ≤ m.cookies.given) same (traced.jar k u there));
  };
  grows = omega arith;
  jar = λ n v e. traced.jar n v (left m.cookies k n v e).before;
}

-- a handover that neither makes nor uses up a cookie owes nothing
pub owes_nothing : (m : Machine) (h : Handover) → IsTraced m → number_made h ≡ None → number_used h ≡ None → Hands m h m.cookies
owes_nothing m h traced makes used = record {
  rises = λ n e. nothing_is n (number_made h) makes e;
  first = λ n e. nothing_is n (number_used h) used e;
  given = record { made = λ n e. nothing_is n (number_made h) makes e; used = λ n e. nothing_is n (number_used h) used e };
  grows = omega arith;
  jar = traced.jar;
}

-- ---- a cookie is made

-- the cookie of the next number is made, by what explains it
pub next_traced : (m : Machine) (u : Unused) (h : Handover) → IsTraced m → receiver h ≡ None → number_made h ≡ Some (m.cookies.given + 1) → number_used h ≡ None
    → IsMadeAs (with_handover m m.connections m.journal (with_next m.cookies u) h) (m.cookies.given + 1) u u.kind
    → IsTraced (with_handover m m.connections m.journal (with_next m.cookies u) h)
next_traced m u h traced nobody makes used made =
    let k = m.cookies.given + 1 in
    let cookies = with_next m.cookies u in
    let m' = with_handover m m.connections m.journal cookies h in
    let changes = put_changes m.cookies.unused k u in
    let next_is : (n : ℕ) → number_made h ≡ Some n → k ≡ n = λ n e. (let q : Some k ≡ Some n = sym makes ∙ e in cc) in
    cookie_traced m cookies h traced nobody
    (record {
      rises = λ n e. (let same = next_is n e in all_map (λ g. IsGiven m.cookies.given g) (λ g. (i : ℕ) → number_made g ≡ Some i → i < n)
          (λ g is i made_it. (let le = is.made i made_it in omega (arith, same))) m.handovers traced.given);
      first = λ n e. nothing_is n (number_used h) used e;
      given = record { made = λ n e. (let same = next_is n e in omega (arith, same)); used = λ n e. nothing_is n (number_used h) used e };
      grows = omega arith;
      jar = λ n v e. elim (after_change m.cookies.unused (insert m.cookies.unused k u) k n v (Some u) changes e) [
        | inl now ↦ (let same = now.0 in omega (arith, same))
        | inr old ↦ (let le = traced.jar n v old.1 in omega arith)
      ];
    })
    (λ n v e. elim (after_change m.cookies.unused (insert m.cookies.unused k u) k n v (Some u) changes e) [
      | inl now ↦ (let same : u ≡ v = (let q = now.1 in cc) in subst (λ (i : ℕ). IsTracedCookie m' i v) (sym now.0) (subst (λ (w : Unused). IsTracedCookie m' k w) same (record {
        made = made;
        unused = (
          (λ q. nothing_is k (number_used h) used q),
          all_map (λ g. IsGiven m.cookies.given g) (λ g. number_used g ≡ Some k → ⊥)
              (λ g is used_it. absurd (let le = is.used k used_it in omega arith)) m.handovers traced.given,
        );
      })))
      | inr old ↦ cookie_stays m m' [] h n v (owners_beside m cookies h nobody) (sym (append-nil m.journal)) refl (traced.cookies n v old.1)
          (λ q. old.0 (sym (next_is n q))) (λ q. nothing_is n (number_used h) used q)
    ])

-- ---- entries of no request

-- the key is of no request
abbrev pub IsOfNoRequest : Who → Type 0
IsOfNoRequest (Request c r) = ⊥
IsOfNoRequest (End c) = Unit {0}
IsOfNoRequest (Cancelled number) = Unit {0}
IsOfNoRequest (Host guest count) = Unit {0}

not_of_request : (m : Machine) (e : Entry) (who : Who) → e.who ≡ who → IsOfNoRequest who → IsByOwner m e
not_of_request m e who is none c r of = absurd (subst (λ (w : Who). IsOfNoRequest w) (sym is ∙ of) none)

-- an exit by a key of no request
exit_traced : (m : Machine) (pid : Pid) (who : Who) (next : Option Entry) → IsTraced m → IsOfNoRequest who → next_entry m.journal pid who Exit nothing_read ≡ next
    → IsTraced (record m { journal = with_entry m.journal next })
exit_traced m pid who None traced none h = traced
exit_traced m pid who (Some e) traced none h =
    let n = nexts m.journal pid who Exit nothing_read e h in
    journal_traced m (e ∷ []) traced (not_of_request (record m { journal = m.journal ++ e ∷ [] }) e who (ap (λ (f : Entry). f.who) n.is) none, tt)

-- the process that a connection still has exits
pub end_traced : (m : Machine) (c : ConnNo) (process : Option Pid) → IsTraced m → IsTraced (record m { journal = exit_of m.journal c process })
end_traced m c None traced = traced
end_traced m c (Some pid) traced = exit_traced m pid (End c) (next_entry m.journal pid (End c) Exit nothing_read) traced tt refl

child_traced : (m : Machine) (number : ℕ) (pid : Pid) (k : CookieKind) → IsTraced m → IsTraced (record m { journal = without_child m.journal number pid k })
child_traced m number pid kind.Fork traced = exit_traced m pid (Cancelled number) (next_entry m.journal pid (Cancelled number) Exit nothing_read) traced tt refl
child_traced m number pid kind.Exec traced = traced

-- ---- cookies are taken back

cancelled_traced : (m : Machine) (k : ℕ) (u : Unused) → IsTraced m → get m.cookies.unused k ≡ Some u
    → IsTraced (with_handover m m.connections m.journal (without m.cookies k (Some u)) (handover.Cancelled k))
cancelled_traced m k u traced there =
    let cookies = without m.cookies k (Some u) in
    let h = handover.Cancelled k in
    let m' = with_handover m m.connections m.journal cookies h in
    cookie_traced m cookies h traced refl (uses m h k u traced there refl refl)
    (λ n v e. (let was = left m.cookies k n v e in cookie_stays m m' [] h n v (owners_beside m cookies h refl) (sym (append-nil m.journal)) refl (traced.cookies n v was.before)
    (λ q. absurd (cc)) (λ q. was.other (let same : k ≡ n = cc in sym same))))

-- a connection takes one of its cookies back
pub back_traced : (m : Machine) (l : Ledger) (c : ConnNo) (cookie : Cookie) (o : Option Unused) → cancellable l.cookies cookie c ≡ o → IsTraced (with_ledger m l)
    → IsTraced (with_ledger m (take_back_by l c cookie o))
back_traced m l c cookie None is traced = traced
back_traced m l c cookie (Some u) is traced =
    let m1 = record (with_ledger m l) { journal = without_child l.journal cookie.number u.pid u.kind } in
    subst (λ (o : Option Unused). IsTraced (with_handover m1 m1.connections m1.journal (without l.cookies cookie.number o) (handover.Cancelled cookie.number))) (sym is)
    (cancelled_traced m1 cookie.number u (child_traced (with_ledger m l) cookie.number u.pid u.kind traced) (cancellable_is l.cookies cookie c u is).0)

each_traced : (m : Machine) (l : Ledger) (c : ConnNo) (cookies : List Cookie) → IsTraced (with_ledger m l) → IsTraced (with_ledger m (take_back_each l c cookies))
each_traced m l c [] traced = traced
each_traced m l c (cookie ∷ cookies) traced = each_traced m (take_back l c cookie) c cookies (back_traced m l c cookie (cancellable l.cookies cookie c) refl traced)

-- and all of them
pub all_traced : (m : Machine) (l : Ledger) (c : ConnNo) → IsTraced (with_ledger m l) → IsTraced (with_ledger m (take_all_back l c))
all_traced m l c traced = each_traced m l c (made_by l.cookies c) traced
