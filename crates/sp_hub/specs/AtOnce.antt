-- A call that is opened, performed and answered at once.
use Rattle.std.specs.Prelude.{◌≡◌, ℕ, ◌<◌, true, List, [], Some, IsSome, slice_get, None}
use Rattle.std.specs.FinMap.{len}
use Rattle.sp_base.specs.Needs.{needs_of, outs_of}
use Rattle.sp_base.specs.declared.call.Call.{Call}
use Rattle.sp_base.specs.declared.names.ConnNo.{ConnNo}
use Rattle.sp_base.specs.declared.names.Pid.{Pid}
use Rattle.sp_base.specs.declared.names.ReqNo.{ReqNo}
use Rattle.sp_frames.specs.declared.frame.Frame.{Frame}
use Rattle.sp_fork.specs.Jar.{Jar}
use Rattle.kern_model.specs.Journal.{state_after}
use Rattle.kern_model.specs.declared.journal.Entry.{Entry}
use Rattle.kern_model.specs.declared.operation.Ins.TheVariants.{Given}
use Rattle.kern_model.specs.declared.operation.Op.TheVariants.{Sys}
use Rattle.hub_model.specs.Machine.{played}
use Rattle.hub_model.specs.State.{Connection, Machine}
use Rattle.hub_model.specs.Task.{Waits, open_calls}
use Rattle.hub_model.specs.Verdict.{verdict_of}
use Rattle.hub_model.specs.declared.event.Event.TheVariants as event
use Rattle.hub_model.specs.declared.event.Reply.TheVariants as reply
use Rattle.hub_model.specs.declared.state.Condition.TheVariants.{Live}
use Rattle.hub_model.specs.declared.verdict.Verdict.TheVariants.{Task}
use Rattle.sp_hub.specs.Work.{FitsEnd, next_of}
use Rattle.sp_hub.specs.declared.gathered.Gathered.{Gathered}

-- a connection speaks for a process, and has nothing to do: no call is open, and no frame is queued
pub record IsIdle (x : Connection) (pid : Pid) : Type 0 where
  pub speaks : x.condition ≡ Live pid
  pub calls : len x.calls ≡ 0
  pub queue : x.queue ≡ []

-- a call that reads nothing, as it is performed
abbrev pub asked_at_once : Call → Pid → ConnNo → ReqNo → Gathered
asked_at_once call pid c r = record { pid = pid; no = c; number = r; op = Sys call; ins = Given [] }

-- a frame asks an idle connection for a call that reads and writes nothing of its caller's memory
pub record AsksAtOnce (journal : List Entry) (jar : Jar) (c : ConnNo) (x : Connection) (f : Frame) (g : Gathered) : Type 0 where
  pub pid : Pid
  pub idle : IsIdle x pid
  pub call : Call
  pub opens : verdict_of (state_after journal) jar c x f ≡ Task call
  pub reads : slice_get (needs_of call) 0 ≡ None
  pub writes : outs_of call ≡ []
  pub is : g ≡ asked_at_once call pid c f.number

-- the call of a frame can be performed at once: the kernel is ready for it
pub record IsReady (journal : List Entry) (jar : Jar) (c : ConnNo) (x : Connection) (f : Frame) (g : Gathered) : Type 0 where
  pub asks : AsksAtOnce journal jar c x f g
  pub fits : FitsEnd journal g
  pub enters : IsSome (next_of journal g)

-- a frame comes whose call is opened, is performed when it is worked, and is answered by the frame that is handed out then. No other
-- call of the connection waits meanwhile, and no frame is queued afterwards
pub record AnswersAtOnce (m : Machine) (c : ConnNo) (f : Frame) (response : Frame) (m' : Machine) : Type 0 where
  pub opened : Machine
  pub performed : Machine
  pub opens : (salt : ℕ) → played true m (event.Frame c f salt) ≡ (reply.Task f.number, opened)
  pub works : played true opened (event.Work c f.number) ≡ (reply.Done, performed)
  pub answers : played true performed (event.Take c) ≡ (reply.Out response, m')
  pub quiet : played true m' (event.Take c) ≡ (reply.Nothing, m')
  -- its number is above 0; it is the one call that waits, and then none waits
  pub number : 0 < f.number.0
  pub waits : Waits (open_calls opened c) f.number.0
  pub alone : (number : ℕ) → Waits (open_calls opened c) number → number ≡ f.number.0
  pub done : (number : ℕ) → Waits (open_calls performed c) number → ⊥
