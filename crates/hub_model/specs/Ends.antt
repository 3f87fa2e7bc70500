-- How a connection drains and ends. None of it takes memory.
use Rattle.std.specs.Prelude.{[], ◌∷◌, ◌++◌, Option, None, Some}
use Rattle.std.specs.FinMap.{remove, empty}
use Rattle.sp_base.specs.declared.names.ConnNo.{ConnNo}
use Rattle.sp_base.specs.declared.names.Pid.{Pid}
use Rattle.sp_frames.specs.declared.frame.Frame.{Frame}
use Rattle.hub_model.specs.Cookies.{Ledger, ledger_of, take_all_back, with_ledger}
use Rattle.hub_model.specs.Frames.{last_error}
use Rattle.hub_model.specs.Journal.{exit_of}
use Rattle.hub_model.specs.State.{Connection, Machine, Played, with_connection, process_in}
use Rattle.hub_model.specs.declared.event.Finish.{Finish}
use Rattle.hub_model.specs.declared.event.Finish.TheVariants.{Bad}
use Rattle.hub_model.specs.declared.event.Reply.{Reply}
use Rattle.hub_model.specs.declared.event.Reply.TheVariants as reply
use Rattle.hub_model.specs.declared.state.Condition.{Condition}
use Rattle.hub_model.specs.declared.state.Condition.TheVariants.{Live, Draining}

-- a connection that sends what is queued, with an error as its last frame: it takes nothing more, and speaks for no process
abbrev pub draining : Connection → Frame → Connection
draining x f = record x { condition = Draining; calls = empty; queue = x.queue ++ f ∷ [] }

-- the process that a connection still has exits
abbrev pub exited : Ledger → ConnNo → Option Pid → Ledger
exited l c process = record l { journal = exit_of l.journal c process }

-- a connection goes: its unused cookies are taken back, and then its process exits
abbrev pub left_by : Ledger → ConnNo → Option Pid → Ledger
left_by l c process = exited (take_all_back l c) c process

-- the machine once a connection has gone, but for the connection
abbrev pub gone : Machine → ConnNo → Connection → Machine
gone m c x = with_ledger m (left_by (ledger_of m) c (process_in x.condition))

-- the connection drains: its error is queued last, its calls are dropped, its unused cookies are taken back, and its process exits
abbrev pub drain : Reply → Machine → ConnNo → Connection → Frame → Played
drain answer m c x f = (answer, with_connection (gone m c x) c (draining x f))

-- the connection is over: its calls and frames are dropped, its unused cookies are taken back, and its process exits
abbrev pub close : Machine → ConnNo → Connection → Played
close m c x = (reply.Nothing, record (gone m c x) { connections = remove m.connections c.0 })

-- the input of a connection ends: at bytes that are no frame a live one drains; else the connection is over
abbrev pub end_by : Machine → ConnNo → Connection → Condition → Finish → Played
end_by m c x (Live pid) (Bad fault) = drain reply.Nothing m c x (last_error (record { 0 = 0 }) None)
end_by m c x condition finish = close m c x

-- the input of a connection ends, where there is one
abbrev pub end_at : Machine → ConnNo → Finish → Option Connection → Played
end_at m c finish None = (reply.Closed, m)
end_at m c finish (Some x) = end_by m c x x.condition finish

-- the link of a connection is lost, where there is one
abbrev pub lose_at : Machine → ConnNo → Option Connection → Played
lose_at m c None = (reply.Closed, m)
lose_at m c (Some x) = close m c x
