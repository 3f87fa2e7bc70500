-- What holds of every machine that can be reached.
use Rattle.std.specs.Prelude.{◌≡◌, ℕ, ◌≤◌, Bool, true, false, List, length, take, Option, None, Some, IsSome, IfSome, IsTrue}
use Rattle.std.specs.List.{AllByRecursion}
use Rattle.std.specs.FinMap.{get}
use Rattle.sp_base.specs.Needs.{needs_of, ArePieces}
use Rattle.sp_base.specs.Table.{at}
use Rattle.sp_base.specs.declared.names.ConnNo.{ConnNo}
use Rattle.sp_base.specs.declared.names.Pid.{Pid}
use Rattle.kern_model.specs.Journal.{IsLegal, HasOwnKeys, state_after}
use Rattle.kern_model.specs.Needs.{IsFaultOf}
use Rattle.kern_model.specs.declared.journal.Entry.{Entry}
use Rattle.kern_model.specs.declared.journal.Who.{Who}
use Rattle.kern_model.specs.declared.journal.Who.TheVariants.{Request, End, Cancelled, Host}
use Rattle.sp_fork.specs.Jar.{IsJar, Jar}
use Rattle.sp_fork.specs.declared.unused.CookieKind.{CookieKind}
use Rattle.sp_fork.specs.declared.unused.CookieKind.TheVariants as kind
use Rattle.sp_fork.specs.declared.unused.Unused.{Unused}
use Rattle.hub_model.specs.Machine.{Plays}
use Rattle.hub_model.specs.State.{Connection, Machine, process_in, is_live, is_draining}
use Rattle.hub_model.specs.declared.event.Event.{Event}
use Rattle.hub_model.specs.declared.event.Reply.{Reply}
use Rattle.hub_model.specs.declared.state.Condition.TheVariants.{InExec}
use Rattle.hub_model.specs.declared.state.OpenCall.{OpenCall}
use Rattle.hub_model.specs.declared.state.OpenCall.TheVariants.{Gathers, Fails, Answers}

-- a number is at most the highest one that was opened
abbrev pub IsOpened : Option ℕ → ℕ → Type 0
IsOpened None c = ⊥
IsOpened (Some highest) c = c ≤ highest

-- the call isn't performed yet
abbrev pub is_waiting : OpenCall → Bool
is_waiting Answers = false
is_waiting task = true

-- what an open call has is what its needs ask for: the first of them so far, or an error that gathering them can end in
abbrev pub HasGathered : OpenCall → Type 0
HasGathered (Gathers call got asked) = ArePieces (take (length got) (needs_of call)) got
HasGathered (Fails call why) = IsFaultOf (needs_of call) why
HasGathered Answers = Unit {0}

-- what holds of an open call under its number
pub record IsCall (x : Connection) (number : ℕ) (task : OpenCall) : Type 0 where
  pub taken : number ≤ x.last
  pub gathered : HasGathered task
  pub live : IsTrue (is_waiting task) → IsTrue (is_live x.condition)

-- what holds of a connection: its process is live, and so much of its calls
pub record IsConnection (journal : List Entry) (x : Connection) : Type 0 where
  pub process : (pid : Pid) → process_in x.condition ≡ Some pid → IsSome (at (state_after journal).processes pid.0)
  pub calls : (number : ℕ) (task : OpenCall) → get x.calls number ≡ Some task → IsCall x number task

-- no call of this number waits
abbrev pub IsAnswered : Option OpenCall → Type 0
IsAnswered call = IfSome call (λ task. is_waiting task ≡ false)

-- a connection has done with what an entry was made for
abbrev pub HasDone : Who → Connection → Type 0
HasDone (Request c r) x = (r.0 ≤ x.last) × IsAnswered (get x.calls r.0)
HasDone (End c) x = IsTrue (is_draining x.condition)
HasDone (Cancelled number) x = ⊥
HasDone (Host guest count) x = ⊥

-- the cookie of a number was made, and is unused no more
pub record IsUsedUp (jar : Jar) (number : ℕ) : Type 0 where
  pub given : number ≤ jar.given
  pub used : get jar.unused number ≡ None

-- an entry was made for a connection that was opened, and that has done with it or is over; or for a cookie that is used up
abbrev pub IsDone : Machine → Who → Type 0
IsDone m (Request c r) = IsOpened m.opened c.0 × IfSome (get m.connections c.0) (HasDone (Request c r))
IsDone m (End c) = IsOpened m.opened c.0 × IfSome (get m.connections c.0) (HasDone (End c))
IsDone m (Cancelled number) = IsUsedUp m.cookies number
IsDone m (Host guest count) = ⊥

-- the connection of a number waits for its process to go on as its next program
abbrev pub IsInExec : Machine → ConnNo → Pid → Type 0
IsInExec m c pid = (x : Connection) × (get m.connections c.0 ≡ Some x) × (x.condition ≡ InExec pid)

-- no connection speaks for a process
abbrev pub IsUnspoken : Machine → Pid → Type 0
IsUnspoken m pid = (c : ℕ) (x : Connection) → get m.connections c ≡ Some x → process_in x.condition ≡ Some pid → ⊥

-- the process of a cookie waits for it: of a fork cookie no connection speaks for the child yet; of an exec cookie its maker does
abbrev pub IsWaitingFor : Machine → Unused → CookieKind → Type 0
IsWaitingFor m u kind.Fork = IsUnspoken m u.pid
IsWaitingFor m u kind.Exec = IsInExec m u.maker u.pid

-- what holds of an unused cookie: its maker isn't over, its process is live, and waits for it
pub record IsCookie (m : Machine) (u : Unused) : Type 0 where
  pub maker : IsSome (get m.connections u.maker.0)
  pub process : IsSome (at (state_after m.journal).processes u.pid.0)
  pub waits : IsWaitingFor m u u.kind

-- what holds of every machine that can be reached
pub record IsSound (m : Machine) : Type 0 where
  pub legal : IsLegal m.journal
  pub keys : HasOwnKeys m.journal
  -- each entry was made for what its connection has done with
  pub done : AllByRecursion (λ e. IsDone m e.who) m.journal
  -- the connections that are there were opened
  pub opened : (c : ℕ) (x : Connection) → get m.connections c ≡ Some x → IsOpened m.opened c
  pub each : (c : ℕ) (x : Connection) → get m.connections c ≡ Some x → IsConnection m.journal x
  -- no two connections speak for the same process
  pub owners : (c d : ℕ) (x y : Connection) (pid : Pid) → get m.connections c ≡ Some x → get m.connections d ≡ Some y
      → process_in x.condition ≡ Some pid → process_in y.condition ≡ Some pid → c ≡ d
  -- no more cookies are unused than may be, and each has a number that was given
  pub jar : IsJar m.cookies
  pub cookies : (number : ℕ) (u : Unused) → get m.cookies.unused number ≡ Some u → IsCookie m u
  -- no two unused cookies hand the same process over
  pub apart : (a b : ℕ) (u v : Unused) → get m.cookies.unused a ≡ Some u → get m.cookies.unused b ≡ Some v → u.pid ≡ v.pid → a ≡ b

-- whatever event a sound machine plays, it is sound afterwards
abbrev pub PlaysKeepSound : Type 0
PlaysKeepSound = (m m' : Machine) (event : Event) (answer : Reply) → IsSound m → Plays m event answer m' → IsSound m'
