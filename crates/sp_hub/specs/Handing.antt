-- How a fork is performed, and its child handed over.
use Rattle.std.specs.Prelude.{◌≡◌, ◌⊎◌, ℕ, List, [], ◌∷◌, ◌++◌, length, Option, None, Some, IsSome}
use Rattle.std.specs.FinMap.{get}
use Rattle.sp_base.specs.Table.{at}
use Rattle.sp_base.specs.declared.names.ConnNo.{ConnNo}
use Rattle.sp_base.specs.declared.names.Cookie.{Cookie}
use Rattle.sp_base.specs.declared.names.Pid.{Pid}
use Rattle.sp_frames.specs.declared.frame.Frame.{Frame}
use Rattle.sp_fork.specs.Jar.{Jar, with_next}
use Rattle.sp_fork.specs.declared.unused.CookieKind.TheVariants as kind
use Rattle.sp_fork.specs.declared.unused.Unused.{Unused}
use Rattle.kern_model.specs.Journal.{state_after}
use Rattle.kern_model.specs.declared.journal.Entry.{Entry}
use Rattle.kern_model.specs.declared.operation.Op.{Op}
use Rattle.kern_model.specs.declared.operation.Op.TheVariants.{Fork, Exec}
use Rattle.hub_model.specs.Cookies.{Ledger, handing, next_cookie}
use Rattle.hub_model.specs.Frames.{imaged}
use Rattle.hub_model.specs.Requests.{redeemed, speaking}
use Rattle.hub_model.specs.State.{Connection, Machine, with_connection}
use Rattle.hub_model.specs.declared.handover.Handover.TheVariants.{Imaged}
use Rattle.sp_hub.specs.declared.kernel.Forked.{Forked}

-- an operation is a fork or an exec
abbrev pub IsHanding : Op → Type 0
IsHanding op = (op ≡ Fork) ⊎ (op ≡ Exec)

-- the child that an entry made
abbrev pub child_of : Entry → Pid
child_of e = record { 0 = e.outcome.ret0 }

-- a fork was performed as this entry, at the end of a journal, and a cookie was made that hands its child over
abbrev pub Forks : List Entry → Jar → ConnNo → ℕ → Option Entry → Forked → List Entry → Jar → Type 0
Forks old jar c salt None forked new jar' = ⊥
Forks old jar c salt (Some e) forked new jar' =
    (forked ≡ record { cookie = next_cookie jar salt; place = record { 0 = length old }; child = child_of e })
    × (new ≡ old ++ e ∷ []) × (jar' ≡ with_next jar (handing (child_of e) c salt kind.Fork))

-- an operation was performed as this entry, at the end of a journal
abbrev pub Enters : List Entry → Option Entry → List Entry → Type 0
Enters old None new = ⊥
Enters old (Some e) new = new ≡ old ++ e ∷ []

-- the processes that unused cookies hand over are live, and no two cookies hand the same one over
pub record HasProcesses (l : Ledger) : Type 0 where
  pub live : (n : ℕ) (u : Unused) → get l.cookies.unused n ≡ Some u → IsSome (at (state_after l.journal).processes u.pid.0)
  pub apart : (a b : ℕ) (u v : Unused) → get l.cookies.unused a ≡ Some u → get l.cookies.unused b ≡ Some v → u.pid ≡ v.pid → a ≡ b

-- a process went on as its next program by this entry, over a connection; the one that made its cookie is as it was
abbrev pub TakesOver : Machine → ConnNo → Connection → Frame → Cookie → Pid → Option Entry → Machine → Type 0
TakesOver m c x f cookie pid None m' = ⊥
TakesOver m c x f cookie pid (Some e) m' = m' ≡ with_connection (record (redeemed m cookie kind.Exec) {
  journal = m.journal ++ e ∷ [];
  handovers = Imaged c cookie.number ∷ m.handovers;
}) c (speaking x f pid (imaged f.number pid (length m.journal)))
