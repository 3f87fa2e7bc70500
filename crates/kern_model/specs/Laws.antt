-- The laws of operations.
use Rattle.std.specs.Prelude.{◌≡◌, ◌≢◌, ◌↔◌, ℕ, List, [], length, Option, Some, None, IsSome, is_some, if◌then◌else◌}
use Rattle.sp_base.specs.Errno.{errno_number}
use Rattle.sp_base.specs.Table.{at, lowest_unused}
use Rattle.sp_base.specs.declared.call.Call.{Call}
use Rattle.sp_base.specs.declared.limits.TheConstants.{DESCRIPTORS, FIRST_PROCESS}
use Rattle.sp_base.specs.declared.errno.Errno.{Errno}
use Rattle.sp_base.specs.declared.errno.Errno.TheVariants.{Eagain}
use Rattle.kern_model.specs.declared.journal.Entry.{Entry}
use Rattle.kern_model.specs.declared.node.Row.{Row}
use Rattle.kern_model.specs.declared.operation.Op.{Op}
use Rattle.kern_model.specs.declared.operation.Op.TheVariants.{Sys, Attach, Fork, Exec, Exit}
use Rattle.kern_model.specs.declared.operation.Ins.{Ins}
use Rattle.kern_model.specs.declared.operation.Ins.TheVariants.{Given, Fault}
use Rattle.kern_model.specs.declared.outcome.Outcome.{Outcome}
use Rattle.kern_model.specs.Outcome.{failure}
use Rattle.kern_model.specs.State.{State, Process, fresh_process, rows_of, directory_of, closes}
use Rattle.kern_model.specs.Act.{act}
use Rattle.kern_model.specs.Journal.{state_after}
use Rattle.kern_model.specs.Sound.{IsSound}

-- an operation of a process is answered with an outcome, and leaves a state
abbrev pub Gives : State → ℕ → Op → Ins → Outcome → State → Type 0
Gives s pid op ins outcome t = act s pid op ins ≡ Some (outcome, t)

-- ---- errors

-- there are no values and no pieces, and the state is the same
pub record GivesNothing (s : State) (outcome : Outcome) (t : State) : Type 0 where
  pub first : outcome.ret0 ≡ 0
  pub second : outcome.ret1 ≡ 0
  pub pieces : outcome.outs ≡ []
  pub state : t ≡ s

-- an error gives nothing
abbrev pub ErrorsGiveNothing : Type 0
ErrorsGiveNothing = (s : State) (pid : ℕ) (op : Op) (ins : Ins) (outcome : Outcome) (t : State)
    → Gives s pid op ins outcome t → outcome.err ≢ 0 → GivesNothing s outcome t

-- what could not be gathered gives its error, and the state stays
abbrev pub FaultsLeaveTheState : Type 0
FaultsLeaveTheState = (s : State) (pid : ℕ) (op : Op) (error : Errno) → Gives s pid op (Fault error) (failure error) s

-- ---- processes

-- the one process that an operation may change: the one that asks, or the one that is made
abbrev pub changed_process : ℕ → Op → Outcome → ℕ
changed_process pid Attach outcome = outcome.ret0
changed_process pid Fork outcome = outcome.ret0
changed_process pid Exec outcome = pid
changed_process pid Exit outcome = pid
changed_process pid (Sys call) outcome = pid

-- every other process stays as it is: its rows, its working directory, and that it is there or isn't
abbrev pub OthersStay : Type 0
OthersStay = (s : State) (pid : ℕ) (op : Op) (ins : Ins) (outcome : Outcome) (t : State) (other : ℕ)
    → Gives s pid op ins outcome t → other ≢ changed_process pid op outcome → at t.processes other ≡ at s.processes other

-- a system call and an exec leave the same processes live
abbrev pub CallsKeepWhoIsLive : Type 0
CallsKeepWhoIsLive = (s : State) (pid : ℕ) (call : Call) (ins : Ins) (outcome : Outcome) (t : State) (other : ℕ)
    → Gives s pid (Sys call) ins outcome t → is_some (at t.processes other) ≡ is_some (at s.processes other)

abbrev pub ExecsKeepWhoIsLive : Type 0
ExecsKeepWhoIsLive = (s : State) (pid : ℕ) (ins : Ins) (outcome : Outcome) (t : State) (other : ℕ)
    → Gives s pid Exec ins outcome t → is_some (at t.processes other) ≡ is_some (at s.processes other)

-- a new process has the lowest unused number, and is there
pub record MakesLowest (s : State) (process : Option Process) (number : ℕ) (t : State) : Type 0 where
  pub lowest : lowest_unused s.processes FIRST_PROCESS ≡ Some number
  pub unused : at s.processes number ≡ None
  pub made : at t.processes number ≡ process
  pub names : t.names ≡ s.names
  pub nodes : t.nodes ≡ s.nodes
  pub files : t.files ≡ s.files

-- an attach that is no error makes an empty process in the root directory
abbrev pub AttachesMake : Type 0
AttachesMake = (s : State) (pid : ℕ) (ins : Ins) (outcome : Outcome) (t : State)
    → Gives s pid Attach ins outcome t → outcome.err ≡ 0 → MakesLowest s (Some fresh_process) outcome.ret0 t

-- a fork that is no error makes a process with all that its parent has; both share the open files
abbrev pub ForksCopy : Type 0
ForksCopy = (s : State) (pid : ℕ) (ins : Ins) (outcome : Outcome) (t : State)
    → Gives s pid Fork ins outcome t → outcome.err ≡ 0 → MakesLowest s (at s.processes pid) outcome.ret0 t

-- the parent, a process, keeps all that it has
abbrev pub ForksKeepTheParent : Type 0
ForksKeepTheParent = (s : State) (pid : ℕ) (ins : Ins) (outcome : Outcome) (t : State)
    → Gives s pid Fork ins outcome t → outcome.err ≡ 0 → IsSome (at s.processes pid) → at t.processes pid ≡ at s.processes pid

-- an operation with all that it read is answered EAGAIN exactly where no number is unused
abbrev pub IsFullError : Op → Type 0
IsFullError op = (s : State) (pid : ℕ) (pieces : List (List ℕ)) (outcome : Outcome) (t : State)
    → Gives s pid op (Given pieces) outcome t → outcome.err ≡ errno_number Eagain ↔ (lowest_unused s.processes FIRST_PROCESS ≡ None)

-- what an exec leaves of a row
abbrev pub kept_row : Option Row → Option Row
kept_row row = if closes row then None else row

-- what is there was there, as it is
abbrev pub IsWithin : {X : Type 0} → List (Option X) → List (Option X) → Type 0
IsWithin {X = X} after before = (n : ℕ) (x : X) → at after n ≡ Some x → at before n ≡ Some x

-- the names stay, and so do the nodes and the open files that are still there
pub record Shares (s t : State) : Type 0 where
  pub names : t.names ≡ s.names
  pub nodes : IsWithin t.nodes s.nodes
  pub files : IsWithin t.files s.files

-- an exec leaves of the rows exactly those whose flag is clear, each at its descriptor, and the working directory
abbrev pub ExecsCloseMarkedRows : Type 0
ExecsCloseMarkedRows = (s : State) (pid : ℕ) (pieces : List (List ℕ)) (outcome : Outcome) (t : State) (fd : ℕ)
    → Gives s pid Exec (Given pieces) outcome t → length (rows_of s pid) ≡ DESCRIPTORS → at (rows_of t pid) fd ≡ kept_row (at (rows_of s pid) fd)

abbrev pub ExecsKeepTheDirectory : Type 0
ExecsKeepTheDirectory = (s : State) (pid : ℕ) (pieces : List (List ℕ)) (outcome : Outcome) (t : State)
    → Gives s pid Exec (Given pieces) outcome t → directory_of t pid ≡ directory_of s pid

abbrev pub ExecsShare : Type 0
ExecsShare = (s : State) (pid : ℕ) (pieces : List (List ℕ)) (outcome : Outcome) (t : State)
    → Gives s pid Exec (Given pieces) outcome t → Shares s t

-- after an exit there is no process, and it has no rows
abbrev pub ExitsEnd : Type 0
ExitsEnd = (s : State) (pid : ℕ) (pieces : List (List ℕ)) (outcome : Outcome) (t : State)
    → Gives s pid Exit (Given pieces) outcome t → (at t.processes pid ≡ None) × (rows_of t pid ≡ [])

abbrev pub ExitsShare : Type 0
ExitsShare = (s : State) (pid : ℕ) (pieces : List (List ℕ)) (outcome : Outcome) (t : State)
    → Gives s pid Exit (Given pieces) outcome t → Shares s t

-- ---- states

-- every operation keeps a state sound
abbrev pub OperationsKeepSound : Type 0
OperationsKeepSound = (s : State) (pid : ℕ) (op : Op) (ins : Ins) (outcome : Outcome) (t : State)
    → Gives s pid op ins outcome t → IsSound s → IsSound t

-- every journal leaves a sound state
abbrev pub JournalsLeaveSound : Type 0
JournalsLeaveSound = (journal : List Entry) → IsSound (state_after journal)
