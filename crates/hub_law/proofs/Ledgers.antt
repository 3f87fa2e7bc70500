-- What cookies that are taken back leave: no new entry of a request, and no new cookie.
use Rattle.std.proofs.Common.{◌≡◌, inl, inr, ℕ, ◌+◌, List, [], ◌∷◌, Option, Some, None, refl, sym, ap, ◌∙◌, subst}
use Rattle.std.specs.Ordering.{nat_cmp}
use Rattle.std.specs.FinMap.{FinMap, get, insert, remove}
use Rattle.sp_base.specs.declared.names.ConnNo.{ConnNo}
use Rattle.sp_base.specs.declared.names.Cookie.{Cookie}
use Rattle.sp_base.specs.declared.names.Pid.{Pid}
use Rattle.sp_base.specs.declared.names.ReqNo.{ReqNo}
use Rattle.kern_model.specs.declared.journal.Entry.{Entry}
use Rattle.kern_model.specs.declared.journal.Who.TheVariants.{End, Cancelled}
use Rattle.kern_model.specs.declared.operation.Op.TheVariants.{Exit}
use Rattle.sp_fork.specs.Jar.{Jar, cancellable, made_by, with_next, without}
use Rattle.sp_fork.specs.declared.unused.CookieKind.{CookieKind}
use Rattle.sp_fork.specs.declared.unused.CookieKind.TheVariants as kind
use Rattle.sp_fork.specs.declared.unused.Unused.{Unused}
use Rattle.hub_model.specs.Cookies.{Ledger, take_all_back, take_back, take_back_by, take_back_each, without_child}
use Rattle.hub_model.specs.Ends.{left_by}
use Rattle.hub_model.specs.Journal.{exit_of, nothing_read}
use Rattle.hub_law.specs.Serves.{IsForked}
use Rattle.tables.proofs.Maps.{get_gone, get_gone_other, get_put, get_put_other, same_or_not}
use Rattle.hub_law.proofs.Keys.{Grows, Stays, forked_stays, grows_same, grows_then, with_grows}
use Rattle.hub_law.proofs.Kept.{HasForks}

-- ---- the unused cookies

-- each unused cookie was unused before
abbrev pub HasFewer : Jar → Jar → Type 0
HasFewer old new = (n : ℕ) (u : Unused) → get new.unused n ≡ Some u → get old.unused n ≡ Some u

gone_before : (m : FinMap nat_cmp Unused) (k n : ℕ) (u : Unused) → get (remove m k) n ≡ Some u → get m n ≡ Some u
gone_before m k n u h = elim (same_or_not n k) [
  | inl e ↦ absurd (let none : get (remove m k) n ≡ None = ap (λ (j : ℕ). get (remove m k) j) e ∙ get_gone m k in cc)
  | inr ne ↦ sym (get_gone_other m k n ne) ∙ h
]

pub without_fewer : (jar : Jar) (k : ℕ) (o : Option Unused) → HasFewer jar (without jar k o)
without_fewer jar k None n u h = h
without_fewer jar k (Some x) n u h = gone_before jar.unused k n u h

-- ---- forks

pub forks_fewer : (old new : List Entry) (jar jar' : Jar) → Stays old new → HasFewer jar jar' → HasForks old jar → HasForks new jar'
forks_fewer old new jar jar' stays fewer forks n u h is = forked_stays old new u.pid stays (forks n u (fewer n u h) is)

pub forks_next : (old new : List Entry) (jar : Jar) (x : Unused) → Stays old new → (x.kind ≡ kind.Fork → IsForked new x.pid) → HasForks old jar → HasForks new (with_next jar x)
forks_next old new jar x stays is forks n u h fork = elim (same_or_not n (jar.given + 1)) [
  | inl e ↦
      let same : x ≡ u = (let k : Some x ≡ Some u = sym (ap (λ (j : ℕ). get (insert jar.unused (jar.given + 1) x) j) e ∙ get_put jar.unused (jar.given + 1) x) ∙ h in cc) in
      subst (λ (u : Unused). IsForked new u.pid) same (is (ap (λ (u : Unused). u.kind) same ∙ fork))
  | inr ne ↦ forked_stays old new u.pid stays (forks n u (sym (get_put_other jar.unused (jar.given + 1) x n ne) ∙ h) fork)
]

-- ---- ledgers

-- what taking cookies back leaves
pub record Lodges (old new : Ledger) : Type 0 where
  pub grows : (c : ConnNo) (r : ReqNo) → Grows c r old.journal new.journal
  pub fewer : HasFewer old.cookies new.cookies

lodges_same : (l : Ledger) → Lodges l l
lodges_same l = record { grows = λ c r. grows_same c r l.journal; fewer = λ n u h. h }

lodges_then : (a b d : Ledger) → Lodges a b → Lodges b d → Lodges a d
lodges_then a b d g h = record {
  grows = λ c r. grows_then c r a.journal b.journal d.journal (g.grows c r) (h.grows c r);
  fewer = λ n u there. g.fewer n u (h.fewer n u there);
}

child_grows : (c : ConnNo) (r : ReqNo) (journal : List Entry) (number : ℕ) (pid : Pid) (k : CookieKind) → Grows c r journal (without_child journal number pid k)
child_grows c r journal number pid kind.Fork = with_grows c r journal pid (Cancelled number) Exit nothing_read _ refl (λ e. cc)
child_grows c r journal number pid kind.Exec = grows_same c r journal

pub take_back_lodges : (l : Ledger) (c : ConnNo) (cookie : Cookie) (o : Option Unused) → Lodges l (take_back_by l c cookie o)
take_back_lodges l c cookie None = lodges_same l
take_back_lodges l c cookie (Some u) = record {
  grows = λ d r. child_grows d r l.journal cookie.number u.pid u.kind;
  fewer = without_fewer l.cookies cookie.number (cancellable l.cookies cookie c);
}

take_each_lodges : (l : Ledger) (c : ConnNo) (cookies : List Cookie) → Lodges l (take_back_each l c cookies)
take_each_lodges l c [] = lodges_same l
take_each_lodges l c (cookie ∷ cookies) = lodges_then l (take_back l c cookie) (take_back_each (take_back l c cookie) c cookies)
    (take_back_lodges l c cookie (cancellable l.cookies cookie c)) (take_each_lodges (take_back l c cookie) c cookies)

exit_grows : (d : ConnNo) (r : ReqNo) (journal : List Entry) (c : ConnNo) (process : Option Pid) → Grows d r journal (exit_of journal c process)
exit_grows d r journal c None = grows_same d r journal
exit_grows d r journal c (Some pid) = with_grows d r journal pid (End c) Exit nothing_read _ refl (λ e. cc)

-- what a connection leaves that goes
pub left_lodges : (l : Ledger) (c : ConnNo) (process : Option Pid) → Lodges l (left_by l c process)
left_lodges l c process = lodges_then l (take_all_back l c) (left_by l c process) (take_each_lodges l c (made_by l.cookies c)) (record {
  grows = λ d r. exit_grows d r (take_all_back l c).journal c process;
  fewer = λ n u h. h;
})
