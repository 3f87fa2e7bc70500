-- How an open call is worked, and what is handed out.
use Rattle.std.specs.Prelude.{ℕ, Bool, true, false, List, [], ◌∷◌, ◌++◌, length, slice_get, Option, None, Some, if◌then◌else◌}
use Rattle.std.specs.Ordering.{nat_cmp}
use Rattle.std.specs.FinMap.{FinMap, get, insert, remove}
use Rattle.sp_base.specs.Needs.{needs_of}
use Rattle.sp_base.specs.declared.call.Call.{Call}
use Rattle.sp_base.specs.declared.names.ConnNo.{ConnNo}
use Rattle.sp_base.specs.declared.names.Pid.{Pid}
use Rattle.sp_base.specs.declared.names.ReqNo.{ReqNo}
use Rattle.sp_base.specs.declared.names.SpError.TheVariants as error
use Rattle.sp_base.specs.declared.need.Need.{Need}
use Rattle.sp_frames.specs.declared.frame.Frame.{Frame}
use Rattle.kern_model.specs.Journal.{next_entry}
use Rattle.kern_model.specs.declared.journal.Entry.{Entry}
use Rattle.kern_model.specs.declared.journal.Who.TheVariants.{Request}
use Rattle.kern_model.specs.declared.operation.Ins.{Ins}
use Rattle.kern_model.specs.declared.operation.Ins.TheVariants.{Given, Fault}
use Rattle.kern_model.specs.declared.operation.Op.TheVariants.{Sys}
use Rattle.hub_model.specs.Frames.{ask, told, refusal, is_end}
use Rattle.hub_model.specs.State.{Connection, Machine, Played, with_connection, process_in}
use Rattle.hub_model.specs.declared.event.Reply.TheVariants as reply
use Rattle.hub_model.specs.declared.state.Condition.{Condition}
use Rattle.hub_model.specs.declared.state.Condition.TheVariants.{Draining}
use Rattle.hub_model.specs.declared.state.OpenCall.{OpenCall}
use Rattle.hub_model.specs.declared.state.OpenCall.TheVariants.{Gathers, Fails, Answers}

-- the next of what a call reads is asked for
abbrev pub ask_next : Machine → ConnNo → Connection → ReqNo → Call → List (List ℕ) → Need → Played
ask_next m c x r call got need = (
  reply.Asked,
  with_connection m c (record x {
    calls = insert x.calls r.0 (Gathers call got true);
    queue = x.queue ++ ask r (length got) need ∷ [];
  }),
)

-- a call is performed, and what tells its outcome is queued; or, where memory is refused, it isn't, and that error is queued;
-- nothing where the kernel isn't ready
abbrev pub performed : Bool → Machine → ConnNo → Connection → ReqNo → Option Entry → Played
performed memory m c x r None = (reply.NotReady, m)
performed true m c x r (Some e) = (
  reply.Done,
  with_connection (record m { journal = m.journal ++ e ∷ [] }) c (record x {
    calls = insert x.calls r.0 Answers;
    queue = x.queue ++ told r e.outcome (length m.journal);
  }),
)
performed false m c x r (Some e) = (
  reply.Refused error.Memory,
  with_connection m c (record x {
    calls = insert x.calls r.0 Answers;
    queue = x.queue ++ refusal r 1 error.Memory ∷ [];
  }),
)

-- a call that has all that it reads is performed for the process of its connection
abbrev pub perform : Bool → Machine → ConnNo → Connection → ReqNo → Call → Ins → Option Pid → Played
perform memory m c x r call ins None = (reply.Nothing, m)
perform memory m c x r call ins (Some pid) = performed memory m c x r (next_entry m.journal pid (Request c r) (Sys call) ins)

-- a call goes on with what it reads next, or is performed where nothing is left
abbrev pub gather : Bool → Machine → ConnNo → Connection → ReqNo → Call → List (List ℕ) → Option Need → Played
gather memory m c x r call got (Some need) = ask_next m c x r call got need
gather memory m c x r call got None = perform memory m c x r call (Given got) (process_in x.condition)

-- an open call is worked
abbrev pub work_call : Bool → Machine → ConnNo → Connection → ReqNo → OpenCall → Played
work_call memory m c x r (Gathers call got true) = (reply.AwaitsAnswer, m)
work_call memory m c x r (Gathers call got false) = gather memory m c x r call got (slice_get (needs_of call) (length got))
work_call memory m c x r (Fails call why) = perform memory m c x r call (Fault why) (process_in x.condition)
work_call memory m c x r Answers = (reply.Nothing, m)

-- the call of a number is worked, where there is one
abbrev pub work_number : Bool → Machine → ConnNo → Connection → ReqNo → Option OpenCall → Played
work_number memory m c x r None = (reply.Nothing, m)
work_number memory m c x r (Some task) = work_call memory m c x r task

-- the call of a number is worked on a connection, where there is one
abbrev pub work_at : Bool → Machine → ConnNo → ReqNo → Option Connection → Played
work_at memory m c r None = (reply.Nothing, m)
work_at memory m c r (Some x) = work_number memory m c x r (get x.calls r.0)

-- the open calls once a frame is handed out: the call that it ends is open no more
abbrev pub calls_after : FinMap nat_cmp OpenCall → Frame → FinMap nat_cmp OpenCall
calls_after calls f = if is_end f.body then remove calls f.number.0 else calls

-- the oldest frame is taken off a queue
abbrev pub take_from : Machine → ConnNo → Connection → Condition → List Frame → Played
take_from m c x Draining [] = (reply.Closed, m)
take_from m c x condition [] = (reply.Nothing, m)
take_from m c x condition (f ∷ queue) = (reply.Out f, with_connection m c (record x { calls = calls_after x.calls f; queue = queue }))

-- the oldest queued frame of a connection is handed out, where there is one
abbrev pub take_at : Machine → ConnNo → Option Connection → Played
take_at m c None = (reply.Closed, m)
take_at m c (Some x) = take_from m c x x.condition x.queue
