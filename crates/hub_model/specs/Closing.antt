-- What is left, and what the journal grows by, when a connection goes.
use Rattle.std.specs.Prelude.{◌≡◌, ◌≢◌, ℕ, ◌==◌, List, [], ◌∷◌, ◌++◌, filter, flat_map, Option, None, Some}
use Rattle.std.specs.FinMap.{entries, get}
use Rattle.sp_base.specs.declared.names.ConnNo.{ConnNo}
use Rattle.sp_base.specs.declared.names.Pid.{Pid}
use Rattle.sp_base.specs.declared.names.SpError.TheVariants as error
use Rattle.kern_model.specs.Outcome.{success}
use Rattle.kern_model.specs.declared.journal.Entry.{Entry}
use Rattle.kern_model.specs.declared.journal.Who.{Who}
use Rattle.kern_model.specs.declared.journal.Who.TheVariants.{Cancelled, End}
use Rattle.kern_model.specs.declared.operation.Op.TheVariants.{Exit}
use Rattle.sp_fork.specs.Jar.{Jar}
use Rattle.sp_fork.specs.declared.unused.CookieKind.{CookieKind}
use Rattle.sp_fork.specs.declared.unused.CookieKind.TheVariants as kind
use Rattle.sp_fork.specs.declared.unused.Unused.{Unused}
use Rattle.hub_model.specs.Journal.{nothing_read}
use Rattle.hub_model.specs.Machine.{Plays}
use Rattle.hub_model.specs.State.{Connection, Machine, process_in}
use Rattle.hub_model.specs.declared.event.Event.{Event}
use Rattle.hub_model.specs.declared.event.Event.TheVariants.{Ended, Frame, Lost}
use Rattle.hub_model.specs.declared.event.Reply.{Reply}
use Rattle.hub_model.specs.declared.event.Reply.TheVariants.{Nothing, Refused}

-- the entry of a process's exit
abbrev pub exit_entry : Pid → Who → Entry
exit_entry pid who = record { pid = pid; who = who; op = Exit; ins = nothing_read; outcome = success 0 }

-- the exit of the child that a cookie of this number and kind would have handed over: none of an exec cookie
abbrev pub child_exit : ℕ → Pid → CookieKind → List Entry
child_exit number child kind.Fork = exit_entry child (Cancelled number) ∷ []
child_exit number pid kind.Exec = []

-- the exits of the children whose unused fork cookies a connection made, in rising order of the cookies' numbers
abbrev pub children_exits : Jar → ConnNo → List Entry
children_exits jar c = flat_map (λ e. child_exit e.0 e.1.pid e.1.kind) (filter (λ e. e.1.maker.0 == c.0) (entries jar.unused))

-- the exit of the process that a connection still has
abbrev pub own_exit : ConnNo → Option Pid → List Entry
own_exit c None = []
own_exit c (Some pid) = exit_entry pid (End c) ∷ []

-- a connection went: of its cookies none is unused and of the others' each still is, and the journal has grown by the exits of its
-- children that nobody joined, and then by that of its process
pub record HasClosed (m : Machine) (c : ConnNo) (x : Connection) (m' : Machine) : Type 0 where
  pub here : get m.connections c.0 ≡ Some x
  pub none : (number : ℕ) (u : Unused) → get m'.cookies.unused number ≡ Some u → u.maker.0 ≢ c.0
  pub others : (number : ℕ) (u : Unused) → get m.cookies.unused number ≡ Some u → u.maker.0 ≢ c.0 → get m'.cookies.unused number ≡ Some u
  pub journal : m'.journal ≡ m.journal ++ (children_exits m.cookies c ++ own_exit c (process_in x.condition))

-- the event closes a connection: its link is lost, its input has ended, or its frame is malformed
abbrev pub Closes : ConnNo → Event → Reply → Type 0
Closes c (Lost d) Nothing = d ≡ c
Closes c (Ended d how) Nothing = d ≡ c
Closes c (Frame d f salt) (Refused error.Malformed) = d ≡ c
Closes c happens answer = ⊥

-- whatever closes a connection takes its cookies back, and ends what was its own
abbrev pub ClosingTakesBack : Type 0
ClosingTakesBack = (m m' : Machine) (happens : Event) (answer : Reply) (c : ConnNo)
    → Plays m happens answer m' → Closes c happens answer → (x : Connection) × HasClosed m c x m'
