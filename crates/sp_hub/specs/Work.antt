-- Working a call that has all that it reads.
use Rattle.std.specs.Prelude.{◌≡◌, ◌⊎◌, ℕ, Bool, false, List, [], ◌∷◌, ◌++◌, length, Option, Some, IsSome}
use Rattle.std.specs.FinMap.{get, insert}
use Rattle.sp_base.specs.Needs.{outs_of}
use Rattle.sp_base.specs.Table.{at}
use Rattle.sp_base.specs.declared.call.Call.{Call}
use Rattle.sp_base.specs.declared.names.ConnNo.{ConnNo}
use Rattle.sp_base.specs.declared.names.Pid.{Pid}
use Rattle.sp_base.specs.declared.names.ReqNo.{ReqNo}
use Rattle.sp_base.specs.declared.need.Range.{Range}
use Rattle.sp_frames.specs.declared.frame.Frame.{Frame}
use Rattle.kern_model.specs.Journal.{state_after, next_entry}
use Rattle.kern_model.specs.Needs.{FitsIns}
use Rattle.kern_model.specs.declared.journal.Entry.{Entry}
use Rattle.kern_model.specs.declared.journal.Who.TheVariants.{Request}
use Rattle.kern_model.specs.declared.operation.Ins.{Ins}
use Rattle.kern_model.specs.declared.operation.Ins.TheVariants.{Given, Fault}
use Rattle.kern_model.specs.declared.operation.Op.{Op}
use Rattle.kern_model.specs.declared.operation.Op.TheVariants.{Sys}
use Rattle.hub_model.specs.Frames.{told}
use Rattle.hub_model.specs.State.{Connection, Machine, with_connection}
use Rattle.hub_model.specs.Work.{performed}
use Rattle.hub_model.specs.declared.event.Reply.{Reply}
use Rattle.hub_model.specs.declared.event.Reply.TheVariants as reply
use Rattle.hub_model.specs.declared.state.OpenCall.{OpenCall}
use Rattle.hub_model.specs.declared.state.OpenCall.TheVariants.{Gathers, Fails}
use Rattle.sp_hub.specs.Calls.{with_ask}
use Rattle.sp_hub.specs.declared.gathered.Gathered.{Gathered}

-- an open call that wasn't performed, and for which this was gathered
abbrev pub waiting : Call → Ins → OpenCall
waiting call (Given got) = Gathers call got false
waiting call (Fault why) = Fails call why

-- an open call has all that it reads
pub record HasAll (task : OpenCall) : Type 0 where
  pub call : Call
  pub ins : Ins
  pub is : task ≡ waiting call ins
  pub fits : FitsIns (Sys call) ins

-- an open call is gathered for a process and a request
abbrev pub IsGathered : OpenCall → Pid → ConnNo → ReqNo → Gathered → Type 0
IsGathered task pid c r g = (call : Call) (ins : Ins) → task ≡ waiting call ins → g ≡ record { pid = pid; no = c; number = r; op = Sys call; ins = ins }

-- where an operation may write: only calls write
abbrev pub outs : Op → List Range
outs (Sys call) = outs_of call
outs _ = []

-- the entry that a gathered call gets at the end of a journal, none where it waits
abbrev pub next_of : List Entry → Gathered → Option Entry
next_of journal g = next_entry journal g.pid (Request g.no g.number) g.op g.ins

-- a gathered call fits the end of a journal: it is of a live process, and was given what it reads
pub record FitsEnd (journal : List Entry) (g : Gathered) : Type 0 where
  pub call : Call
  pub is : g.op ≡ Sys call
  pub live : IsSome (at (state_after journal).processes g.pid.0)
  pub ins : FitsIns g.op g.ins

-- an entry was appended at a place
pub record Appends (old : List Entry) (next : Option Entry) (place : ℕ) (new : List Entry) : Type 0 where
  pub entry : Entry
  pub is : next ≡ Some entry
  pub items : new ≡ old ++ entry ∷ []
  pub last : place ≡ length old

-- an entry was appended, and what tells its outcome was queued
pub record Tells (old : List Entry) (queue : List Frame) (r : ReqNo) (next : Option Entry) (new : List Entry) (queue' : List Frame) : Type 0 where
  pub entry : Entry
  pub is : next ≡ Some entry
  pub journal : new ≡ old ++ entry ∷ []
  pub frames : queue' ≡ queue ++ told r entry.outcome (length old)

-- an ask for what a call reads next is queued; or the memory for it is refused, and nothing changes
abbrev pub IsAsked : Machine → ConnNo → ReqNo → Frame → Reply → Machine → Type 0
IsAsked m c r ask answer m' =
    (answer ≡ reply.Asked) × ((x : Connection) (t : OpenCall) → get m.connections c.0 ≡ Some x → get x.calls r.0 ≡ Some t
    → m' ≡ with_connection m c (record x { calls = insert x.calls r.0 (with_ask t); queue = x.queue ++ ask ∷ [] }))
    ⊎ (answer ≡ reply.NoMemory) × (m' ≡ m)

-- the machine performs a call of a connection so, whatever else it holds: with memory, or with none
abbrev pub Performs : ConnNo → ReqNo → Option Entry → List Entry → Connection → Reply → List Entry → Connection → Type 0
Performs c r next old x answer new x' = (m : Machine) → m.journal ≡ old → get m.connections c.0 ≡ Some x
    → (memory : Bool) × ((answer, with_connection (record m { journal = new }) c x') ≡ performed memory m c x r next)
