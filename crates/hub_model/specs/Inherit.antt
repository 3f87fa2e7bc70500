-- What a process takes over: from its parent, while it waits for its cookie, over a connection, and as its next program.
use Rattle.std.specs.Prelude.{◌≡◌, ℕ, ◌+◌, Option, None, Some, IsSome}
use Rattle.std.specs.FinMap.{get}
use Rattle.sp_base.specs.Table.{at}
use Rattle.sp_base.specs.declared.names.ConnNo.{ConnNo}
use Rattle.sp_base.specs.declared.names.Cookie.{Cookie}
use Rattle.sp_base.specs.declared.names.Pid.{Pid}
use Rattle.sp_frames.specs.declared.frame.Body.TheVariants.{Join, Image, Prefork}
use Rattle.sp_frames.specs.declared.frame.Frame.{Frame}
use Rattle.kern_model.specs.Journal.{state_after}
use Rattle.kern_model.specs.Laws.{kept_row}
use Rattle.kern_model.specs.State.{Process, directory_of, rows_of}
use Rattle.sp_fork.specs.Jar.{redeemable}
use Rattle.sp_fork.specs.declared.unused.CookieKind.TheVariants as kind
use Rattle.sp_fork.specs.declared.unused.Unused.{Unused}
use Rattle.hub_model.specs.Machine.{Plays}
use Rattle.hub_model.specs.Sound.{IsInExec, IsSound}
use Rattle.hub_model.specs.State.{Connection, Machine, process_in}
use Rattle.hub_model.specs.declared.event.Event.{Event}
use Rattle.hub_model.specs.declared.event.Event.TheVariants as event
use Rattle.hub_model.specs.declared.event.Reply.{Reply}
use Rattle.hub_model.specs.declared.event.Reply.TheVariants.{Done}
use Rattle.hub_model.specs.declared.state.Condition.TheVariants.{Left}

-- the process of a number, with its rows and its working directory, as the journal leaves it
abbrev pub process_at : Machine → ℕ → Option Process
process_at m pid = at (state_after m.journal).processes pid

-- a connection is there, and speaks for a process
abbrev pub SpeaksFor : Machine → ConnNo → Pid → Type 0
SpeaksFor m c pid = (x : Connection) × (get m.connections c.0 ≡ Some x) × (process_in x.condition ≡ Some pid)

-- a connection is there, and its process went on as its next program
abbrev pub IsLeft : Machine → ConnNo → Type 0
IsLeft m c = (x : Connection) × (get m.connections c.0 ≡ Some x) × (x.condition ≡ Left)

-- a fork: the next cookie hands over a new process that has all that the parent had, which the parent keeps
pub record HasForked (m : Machine) (c : ConnNo) (m' : Machine) : Type 0 where
  pub parent : Pid
  pub child : Unused
  pub speaks : SpeaksFor m c parent
  pub there : IsSome (process_at m parent.0)
  pub cookie : get m'.cookies.unused (m.cookies.given + 1) ≡ Some child
  pub is_fork : child.kind ≡ kind.Fork
  pub is_maker : child.maker ≡ c
  pub is_new : process_at m child.pid.0 ≡ None
  pub takes : process_at m' child.pid.0 ≡ process_at m parent.0
  pub keeps : process_at m' parent.0 ≡ process_at m parent.0

-- a join: the connection speaks for the child of the fork cookie, which is used up, and the journal stays
pub record HasJoined (m : Machine) (c : ConnNo) (cookie : Cookie) (m' : Machine) : Type 0 where
  pub child : Unused
  pub unused : redeemable m.cookies cookie kind.Fork ≡ Some child
  pub used : get m'.cookies.unused cookie.number ≡ None
  pub speaks : SpeaksFor m' c child.pid
  pub journal : m'.journal ≡ m.journal

-- a next program: the connection speaks for the process that the exec cookie's maker spoke for; the cookie is used up, the maker
-- is left, and of the rows exactly those are left whose flag is clear, each at its descriptor, with the working directory
pub record HasImaged (m : Machine) (c : ConnNo) (cookie : Cookie) (m' : Machine) : Type 0 where
  pub handed : Unused
  pub unused : redeemable m.cookies cookie kind.Exec ≡ Some handed
  pub used : get m'.cookies.unused cookie.number ≡ None
  pub spoke : IsInExec m handed.maker handed.pid
  pub speaks : SpeaksFor m' c handed.pid
  pub left : IsLeft m' handed.maker
  pub rows : (fd : ℕ) → at (rows_of (state_after m'.journal) handed.pid.0) fd ≡ kept_row (at (rows_of (state_after m.journal) handed.pid.0) fd)
  pub directory : directory_of (state_after m'.journal) handed.pid.0 ≡ directory_of (state_after m.journal) handed.pid.0

-- where a request to fork is answered Done, a child takes over all that its parent has
abbrev pub ForksInherit : Type 0
ForksInherit = (m m' : Machine) (c : ConnNo) (f : Frame) (salt : ℕ)
    → IsSound m → f.body ≡ Prefork → Plays m (event.Frame c f salt) Done m' → HasForked m c m'

-- whatever happens while a fork cookie stays unused, its child stays as it was
abbrev pub ChildrenWait : Type 0
ChildrenWait = (m m' : Machine) (happens : Event) (answer : Reply) (number : ℕ) (u : Unused)
    → IsSound m → Plays m happens answer m' → u.kind ≡ kind.Fork
    → get m.cookies.unused number ≡ Some u → get m'.cookies.unused number ≡ Some u → process_at m' u.pid.0 ≡ process_at m u.pid.0

-- where a child's handshake is answered Done, the connection speaks for the child
abbrev pub JoinsInherit : Type 0
JoinsInherit = (m m' : Machine) (c : ConnNo) (f : Frame) (salt : ℕ) (cookie : Cookie) (name : _)
    → f.body ≡ Join cookie name → Plays m (event.Frame c f salt) Done m' → HasJoined m c cookie m'

-- where the handshake of a next program is answered Done, the connection speaks for the process, which keeps what an exec keeps
abbrev pub ImagesInherit : Type 0
ImagesInherit = (m m' : Machine) (c : ConnNo) (f : Frame) (salt : ℕ) (cookie : Cookie) (name : _)
    → IsSound m → f.body ≡ Image cookie name → Plays m (event.Frame c f salt) Done m' → HasImaged m c cookie m'
