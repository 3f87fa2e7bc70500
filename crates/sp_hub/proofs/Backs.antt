-- Cookies that are taken back: what stays of the processes, and how a connection takes one after another back.
use Rattle.std.proofs.Common.{◌≡◌, ◌≢◌, ℕ, ◌+◌, ◌<◌, List, [], ◌∷◌, length, Option, None, Some, IsSome, refl, sym, ap, subst, ◌∙◌, arith}
use Rattle.std.specs.Prelude.{slice_get}
use Rattle.std.specs.FinMap.{get}
use Rattle.sp_base.specs.Table.{at}
use Rattle.sp_base.specs.declared.names.ConnNo.{ConnNo}
use Rattle.sp_base.specs.declared.names.Cookie.{Cookie}
use Rattle.sp_base.specs.declared.names.Pid.{Pid}
use Rattle.sp_fork.specs.Jar.{Jar, after, cancellable, made_by}
use Rattle.sp_fork.specs.Jar.Operation.{Cancel}
use Rattle.sp_fork.specs.declared.unused.CookieKind.{CookieKind}
use Rattle.sp_fork.specs.declared.unused.CookieKind.TheVariants as kind
use Rattle.sp_fork.specs.declared.unused.Unused.{Unused}
use Rattle.sp_fork.proofs.Cancelled.{first_there, rest_left}
use Rattle.kern_model.specs.Journal.{next_entry, state_after}
use Rattle.kern_model.specs.declared.journal.Entry.{Entry}
use Rattle.kern_model.specs.declared.journal.Who.{Who}
use Rattle.kern_model.specs.declared.journal.Who.TheVariants.{Cancelled}
use Rattle.kern_model.specs.declared.operation.Op.TheVariants.{Exit}
use Rattle.hub_model.specs.Cookies.{Ledger, ledger_of, take_all_back, take_back, take_back_by, take_back_each, with_ledger, without_child}
use Rattle.hub_model.specs.Journal.{nothing_read, with_entry}
use Rattle.hub_model.specs.Sound.{IsSound}
use Rattle.hub_model.specs.State.{Connection, Machine, process_in}
use Rattle.hub_model.specs.declared.state.Condition.{Condition}
use Rattle.hub_model.proofs.Entries.{exit_live, nexts}
use Rattle.hub_model.proofs.Keeps.{fork_waits}
use Rattle.hub_model.proofs.Ledgers.{cancellable_is}
use Rattle.hub_model.proofs.Offers.{left}
use Rattle.hub_model.proofs.Steps.{pid_is}
use Rattle.sp_hub.specs.At.{condition_in}
use Rattle.sp_hub.specs.Handing.{HasProcesses}
use Rattle.sp_hub.proofs.At.{live_at}

-- the process of this number is live
abbrev IsLive : Ledger → ℕ → Type 0
IsLive l q = IsSome (at (state_after l.journal).processes q)

-- no unused fork cookie hands the process of this number over
abbrev IsKept : Ledger → ℕ → Type 0
IsKept l q = (n : ℕ) (u : Unused) → get l.cookies.unused n ≡ Some u → u.kind ≡ kind.Fork → q ≢ u.pid.0

-- the processes of a sound machine's cookies
pub processes : (m : Machine) → IsSound m → HasProcesses (ledger_of m)
processes m sound = record { live = λ n u here. (sound.cookies n u here).process; apart = sound.apart }

-- ---- one cookie

exit_by : (journal : List Entry) (who : Who) (pid : Pid) (q : ℕ) (next : Option Entry) → next_entry journal pid who Exit nothing_read ≡ next → q ≢ pid.0
    → IsSome (at (state_after journal).processes q) → IsSome (at (state_after (with_entry journal next)).processes q)
exit_by journal who pid q None is ne live = live
exit_by journal who pid q (Some e) is ne live =
    let n = nexts journal pid who Exit nothing_read e is in
    rw n.state (exit_live (state_after journal) pid.0 e.outcome n.next q n.acts ne live)

child_leaves : (journal : List Entry) (number : ℕ) (pid : Pid) (q : ℕ) (k : CookieKind) → (k ≡ kind.Fork → q ≢ pid.0) → IsSome (at (state_after journal).processes q)
    → IsSome (at (state_after (without_child journal number pid k)).processes q)
child_leaves journal number pid q kind.Fork ne live = exit_by journal (Cancelled number) pid q (next_entry journal pid (Cancelled number) Exit nothing_read) refl (ne refl) live
child_leaves journal number pid q kind.Exec ne live = live

-- what a cookie that is taken back leaves
record Leaves (l l' : Ledger) : Type 0 where
  processes : HasProcesses l'
  live : (q : ℕ) → IsLive l q → IsKept l q → IsLive l' q
  kept : (q : ℕ) → IsKept l q → IsKept l' q

-- a cookie that is left was there under another number
record IsOther (l : Ledger) (number : ℕ) (n : ℕ) (v : Unused) : Type 0 where
  other : n ≢ number
  before : get l.cookies.unused n ≡ Some v

other_by : (l : Ledger) (c : ConnNo) (cookie : Cookie) (u : Unused) (n : ℕ) (v : Unused) → cancellable l.cookies cookie c ≡ Some u
    → get (after l.cookies (Cancel cookie c)).unused n ≡ Some v → IsOther l cookie.number n v
other_by l c cookie u n v is h =
    let g = rw is at h in
    let less = left l.cookies cookie.number n v g in
    record { other = less.other; before = less.before }

back_leaves : (l : Ledger) (c : ConnNo) (cookie : Cookie) (u : Unused) → cancellable l.cookies cookie c ≡ Some u → HasProcesses l → Leaves l (take_back_by l c cookie (Some u))
back_leaves l c cookie u is has =
    let here = (cancellable_is l.cookies cookie c u is).0 in record {
      processes = record {
        live = λ n v h. let o = other_by l c cookie u n v is h in
            child_leaves l.journal cookie.number u.pid v.pid.0 u.kind (λ fork same. o.other (has.apart n cookie.number v u o.before here (pid_is v.pid u.pid same))) (has.live n v o.before);
        apart = λ a b v w h g same. has.apart a b v w (other_by l c cookie u a v is h).before (other_by l c cookie u b w is g).before same;
      };
      live = λ q live kept. child_leaves l.journal cookie.number u.pid q u.kind (kept cookie.number u here) live;
      kept = λ q kept n v h. kept n v (other_by l c cookie u n v is h).before;
    }

leaves_by : (l : Ledger) (c : ConnNo) (cookie : Cookie) (o : Option Unused) → cancellable l.cookies cookie c ≡ o → HasProcesses l → Leaves l (take_back_by l c cookie o)
leaves_by l c cookie None is has = record { processes = has; live = λ q live kept. live; kept = λ q kept. kept }
leaves_by l c cookie (Some u) is has = back_leaves l c cookie u is has

leaves : (l : Ledger) (c : ConnNo) (cookie : Cookie) → HasProcesses l → Leaves l (take_back l c cookie)
leaves l c cookie has = leaves_by l c cookie (cancellable l.cookies cookie c) refl has

-- ---- one cookie after another

live_each : (l : Ledger) (c : ConnNo) (cookies : List Cookie) (q : ℕ) → HasProcesses l → IsLive l q → IsKept l q → IsLive (take_back_each l c cookies) q
live_each l c [] q has live kept = live
live_each l c (cookie ∷ cookies) q has live kept =
    let one = leaves l c cookie has in
    live_each (take_back l c cookie) c cookies q one.processes (one.live q live kept) (one.kept q kept)

kept_by : (m : Machine) (c : ConnNo) (condition : Condition) (pid : Pid) (o : Option Connection) → IsSound m → get m.connections c.0 ≡ o → condition_in o ≡ Some condition → process_in condition ≡ Some pid
    → IsKept (ledger_of m) pid.0
kept_by m c condition pid None sound here is speaks = absurd cc
kept_by m c condition pid (Some x) sound here is speaks = λ n u there fork same.
    let at_x : x.condition ≡ condition = cc in
    let pids = pid_is pid u.pid same in
    fork_waits m u u.kind fork (sound.cookies n u there).waits c.0 x here (ap process_in at_x ∙ (speaks ∙ ap (λ (p : Pid). Some p) pids))

-- the process of a connection is live once all its cookies were taken back
pub still_live : (m m' : Machine) (c : ConnNo) (condition : Condition) → IsSound m → condition_in (get m.connections c.0) ≡ Some condition → m' ≡ with_ledger m (take_all_back (ledger_of m) c)
    → (pid : Pid) → process_in condition ≡ Some pid → IsSome (at (state_after m'.journal).processes pid.0)
still_live m m' c condition sound is back pid speaks =
    let live = live_at m c.0 condition sound is pid speaks in
    let kept = kept_by m c condition pid (get m.connections c.0) sound refl is speaks in
    rw back (live_each (ledger_of m) c (made_by m.cookies c) pid.0 (processes m sound) live kept)

-- ---- until none is left

first_of_list : {X : Type 0} (xs : List X) (x : X) → slice_get xs 0 ≡ Some x → (rest : List X) × (xs ≡ x ∷ rest)
first_of_list [] x is = absurd cc
first_of_list (y ∷ xs) x is = (let same : y ≡ x = cc in (xs, ap (λ z. z ∷ xs) same))

none_of_list : {X : Type 0} (xs : List X) → slice_get xs 0 ≡ None → xs ≡ []
none_of_list [] is = refl
none_of_list (y ∷ xs) is = absurd cc

cookies_by : (l : Ledger) (c : ConnNo) (cookie : Cookie) (o : Option Unused) → IsSome o → (take_back_by l c cookie o).cookies ≡ after l.cookies (Cancel cookie c)
cookies_by l c cookie None there = absurd cc
cookies_by l c cookie (Some u) there = refl

-- the cookies that are left once the first one was taken back
made_after : (l : Ledger) (c : ConnNo) (cookie : Cookie) (rest : List Cookie) → made_by l.cookies c ≡ cookie ∷ rest → made_by (take_back l c cookie).cookies c ≡ rest
made_after l c cookie rest is =
    ap (λ (j : Jar). made_by j c) (cookies_by l c cookie (cancellable l.cookies cookie c) (first_there l.cookies c cookie rest is)) ∙ rest_left l.cookies c cookie rest is

-- all are taken back once the first one was, and then the others
all_after : (l : Ledger) (c : ConnNo) (cookie : Cookie) (rest : List Cookie) → made_by l.cookies c ≡ cookie ∷ rest → take_all_back (take_back l c cookie) c ≡ take_all_back l c
all_after l c cookie rest is =
    ap (take_back_each (take_back l c cookie) c) (made_after l c cookie rest is) ∙ sym (ap (take_back_each l c) is)

-- some of a connection's cookies were taken back, in order
pub record TakesBack (c : ConnNo) (old now : Machine) : Type 0 where
  pub whole : with_ledger now (take_all_back (ledger_of now) c) ≡ with_ledger old (take_all_back (ledger_of old) c)
  pub processes : HasProcesses (ledger_of now)

pub one_back : (c : ConnNo) (old now new : Machine) (cookie : Cookie) → slice_get (made_by now.cookies c) 0 ≡ Some cookie → new ≡ with_ledger now (take_back (ledger_of now) c cookie)
    → TakesBack c old now → TakesBack c old new
one_back c old now new cookie first is so =
    let rest = first_of_list (made_by now.cookies c) cookie first in
    let l' = take_back (ledger_of now) c cookie in
    subst (TakesBack c old) (sym is) (record {
      whole = ap (with_ledger now) (all_after (ledger_of now) c cookie rest.0 rest.1) ∙ so.whole;
      processes = (leaves (ledger_of now) c cookie so.processes).processes;
    })

pub one_fewer : (c : ConnNo) (now new : Machine) (cookie : Cookie) → slice_get (made_by now.cookies c) 0 ≡ Some cookie → new ≡ with_ledger now (take_back (ledger_of now) c cookie)
    → length (made_by new.cookies c) < length (made_by now.cookies c)
one_fewer c now new cookie first is =
    let rest = first_of_list (made_by now.cookies c) cookie first in
    let fewer : made_by new.cookies c ≡ rest.0 = ap (λ (m : Machine). made_by m.cookies c) is ∙ made_after (ledger_of now) c cookie rest.0 rest.1 in
    let after : length (made_by new.cookies c) ≡ length rest.0 = ap (λ (cookies : List Cookie). length cookies) fewer in
    let before : length (made_by now.cookies c) ≡ length rest.0 + 1 = ap (λ (cookies : List Cookie). length cookies) rest.1 ∙ omega arith in
    omega (arith, after, before)

pub all_back : (c : ConnNo) (old now : Machine) → slice_get (made_by now.cookies c) 0 ≡ None → TakesBack c old now → now ≡ with_ledger old (take_all_back (ledger_of old) c)
all_back c old now none so = sym (ap (λ (cookies : List Cookie). with_ledger now (take_back_each (ledger_of now) c cookies)) (none_of_list (made_by now.cookies c) none)) ∙ so.whole

-- what isn't there is none
pub none_left : {X : Type 0} (o : Option X) → ((x : X) → o ≡ Some x → ⊥) → o ≡ None
none_left None not = refl
none_left (Some x) not = absurd (not x refl)
