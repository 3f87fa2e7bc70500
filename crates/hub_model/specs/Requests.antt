-- What a frame does that comes over a connection.
use Rattle.std.specs.Prelude.{ℕ, false, List, [], ◌∷◌, ◌++◌, length, Option, None, Some}
use Rattle.std.specs.FinMap.{get, insert}
use Rattle.sp_base.specs.declared.call.Call.{Call}
use Rattle.sp_base.specs.declared.errno.Errno.{Errno}
use Rattle.sp_base.specs.declared.names.ConnNo.{ConnNo}
use Rattle.sp_base.specs.declared.names.Cookie.{Cookie}
use Rattle.sp_base.specs.declared.names.Pid.{Pid}
use Rattle.sp_base.specs.declared.names.SpError.{SpError}
use Rattle.sp_base.specs.declared.names.SpError.TheVariants as error
use Rattle.sp_frames.specs.declared.frame.Body.{Body}
use Rattle.sp_frames.specs.declared.frame.Body.TheVariants as body
use Rattle.sp_frames.specs.declared.frame.Frame.{Frame}
use Rattle.kern_model.specs.Journal.{state_after, next_entry}
use Rattle.kern_model.specs.declared.journal.Entry.{Entry}
use Rattle.kern_model.specs.declared.journal.Who.TheVariants.{Request}
use Rattle.kern_model.specs.declared.operation.Op.TheVariants as op
use Rattle.sp_fork.specs.Jar.{after, cancellable, redeemable, with_next}
use Rattle.sp_fork.specs.Jar.Operation.{Redeem}
use Rattle.sp_fork.specs.declared.unused.CookieKind.{CookieKind}
use Rattle.sp_fork.specs.declared.unused.CookieKind.TheVariants as kind
use Rattle.sp_fork.specs.declared.unused.Unused.{Unused}
use Rattle.hub_model.specs.Cookies.{handing, ledger_of, next_cookie, take_back_by, with_ledger}
use Rattle.hub_model.specs.Ends.{drain}
use Rattle.hub_model.specs.Frames.{answered_kind, cancelled, exec_ready, forked, hello, imaged, joined, last_error, refusal}
use Rattle.hub_model.specs.Journal.{nothing_read}
use Rattle.hub_model.specs.State.{Connection, Machine, Played, with_connection, process_in}
use Rattle.hub_model.specs.Verdict.{verdict_of}
use Rattle.hub_model.specs.declared.event.Reply.TheVariants as reply
use Rattle.hub_model.specs.declared.handover.Handover.TheVariants as handover
use Rattle.hub_model.specs.declared.state.Condition.{Condition}
use Rattle.hub_model.specs.declared.state.Condition.TheVariants.{Live, InExec, Left}
use Rattle.hub_model.specs.declared.state.OpenCall.{OpenCall}
use Rattle.hub_model.specs.declared.state.OpenCall.TheVariants.{Gathers, Fails}
use Rattle.hub_model.specs.declared.verdict.Verdict.{Verdict}
use Rattle.hub_model.specs.declared.verdict.Verdict.TheVariants as verdict

-- the process that an attach names
abbrev pub no_process : Pid
no_process = record { 0 = 0 }

-- the connection speaks for a process: the request's number is used up, and its response is queued
abbrev pub speaking : Connection → Frame → Pid → Frame → Connection
speaking x f pid response = record x { condition = Live pid; last = f.number.0; queue = x.queue ++ response ∷ [] }

-- the connection goes on: the request's number is used up, and its response is queued
abbrev pub answered : Connection → Frame → Frame → Connection
answered x f response = record x { last = f.number.0; queue = x.queue ++ response ∷ [] }

-- a guest's handshake is performed: the connection speaks for the new process
abbrev pub attach : Machine → ConnNo → Connection → Frame → Option Entry → Played
attach m c x f None = (reply.NotReady, m)
attach m c x f (Some e) = (
  reply.Done,
  with_connection (record m {
    journal = m.journal ++ e ∷ [];
    handovers = handover.Attached c (record { 0 = length m.journal }) ∷ m.handovers;
  }) c (speaking x f (record { 0 = e.outcome.ret0 }) (hello f.number e.outcome.ret0)),
)

-- a cookie of a kind is used
abbrev pub redeemed : Machine → Cookie → CookieKind → Machine
redeemed m cookie kind = record m { cookies = after m.cookies (Redeem cookie kind) }

-- a child's handshake: the connection speaks for the child that a fork cookie hands over, where it is unused
abbrev pub join : Machine → ConnNo → Connection → Frame → Cookie → Option Unused → Played
join m c x f cookie None = (reply.Nothing, m)
join m c x f cookie (Some u) = (
  reply.Done,
  with_connection (record (redeemed m cookie kind.Fork) {
    handovers = handover.Joined c cookie.number ∷ m.handovers;
  }) c (speaking x f u.pid (joined f.number u.pid)),
)

-- a connection whose process went on as its next program, over another connection
abbrev pub left_over : Connection → Connection
left_over x = record x { condition = Left }

-- the connection of a number is left, where there is one
abbrev pub left_at : Machine → ConnNo → Option Connection → Machine
left_at m c None = m
left_at m c (Some x) = with_connection m c (left_over x)

-- a process goes on as its next program: the connection speaks for it, and the one that made its cookie is left
abbrev pub image_by : Machine → ConnNo → Connection → Frame → Cookie → Unused → Option Entry → Played
image_by m c x f cookie u None = (reply.NotReady, m)
image_by m c x f cookie u (Some e) = (
  reply.Done,
  with_connection (left_at (record (redeemed m cookie kind.Exec) {
    journal = m.journal ++ e ∷ [];
    handovers = handover.Imaged c cookie.number ∷ m.handovers;
  }) u.maker (get m.connections u.maker.0)) c (speaking x f u.pid (imaged f.number u.pid (length m.journal))),
)

-- the handshake of a process's next program, by an exec cookie, where it is unused
abbrev pub image : Machine → ConnNo → Connection → Frame → Cookie → Option Unused → Played
image m c x f cookie None = (reply.Nothing, m)
image m c x f cookie (Some u) = image_by m c x f cookie u (next_entry m.journal u.pid (Request c f.number) op.Exec nothing_read)

-- a process forks: a cookie hands its child over
abbrev pub fork_by : Machine → ConnNo → Connection → Frame → ℕ → Option Entry → Played
fork_by m c x f salt None = (reply.NotReady, m)
fork_by m c x f salt (Some e) = (
  reply.Done,
  with_connection (record m {
    journal = m.journal ++ e ∷ [];
    cookies = with_next m.cookies (handing (record { 0 = e.outcome.ret0 }) c salt kind.Fork);
    handovers = handover.Forked (next_cookie m.cookies salt).number (record { 0 = length m.journal }) ∷ m.handovers;
  }) c (answered x f (forked f.number (next_cookie m.cookies salt) (length m.journal) (record { 0 = e.outcome.ret0 }))),
)

-- the process of a connection forks, where it has one
abbrev pub fork : Machine → ConnNo → Connection → Frame → ℕ → Option Pid → Played
fork m c x f salt None = (reply.Nothing, m)
fork m c x f salt (Some pid) = fork_by m c x f salt (next_entry m.journal pid (Request c f.number) op.Fork nothing_read)

-- the process of a connection is to go on as its next program: a cookie hands it over
abbrev pub ready : Machine → ConnNo → Connection → Frame → ℕ → Option Pid → Played
ready m c x f salt None = (reply.Nothing, m)
ready m c x f salt (Some pid) = (
  reply.Done,
  with_connection (record m {
    cookies = with_next m.cookies (handing pid c salt kind.Exec);
    handovers = handover.Readied (next_cookie m.cookies salt).number c ∷ m.handovers;
  }) c (record (answered x f (exec_ready f.number (next_cookie m.cookies salt))) { condition = InExec pid }),
)

-- how far a connection is once one of its cookies was taken back: without its exec cookie its process goes on as it is
abbrev pub after_cancel : CookieKind → Condition → Condition
after_cancel kind.Exec (InExec pid) = Live pid
after_cancel _ condition = condition

-- a cookie is taken back, where the connection has made it and it is unused
abbrev pub cancel : Machine → ConnNo → Connection → Frame → Cookie → Option Unused → Played
cancel m c x f cookie None = (reply.Nothing, m)
cancel m c x f cookie (Some u) = (
  reply.Done,
  with_connection (with_ledger m (take_back_by (ledger_of m) c cookie (Some u))) c
      (record (answered x f (cancelled f.number)) { condition = after_cancel u.kind x.condition }),
)

-- a call is open from its request on
abbrev pub open_task : Machine → ConnNo → Connection → Frame → Call → Played
open_task m c x f call = (
  reply.Task f.number,
  with_connection m c (record x {
    last = f.number.0;
    calls = insert x.calls f.number.0 (Gathers call [] false);
  }),
)

-- a request is refused: its error is queued, and its number is used up
abbrev pub refuse : Machine → ConnNo → Connection → Frame → SpError → Option ℕ → Played
refuse m c x f why None = (reply.Refused why, m)
refuse m c x f why (Some kind) = (
  reply.Refused why,
  with_connection m c (record x {
    last = f.number.0;
    queue = x.queue ++ refusal f.number kind why ∷ [];
  }),
)

-- the bytes that a copy brings
abbrev pub bytes_in : Body → List ℕ
bytes_in (body.GotBytes index err bytes) = bytes
bytes_in (body.GotText index err bytes) = bytes
bytes_in _ = []

-- an open call with one copy more
abbrev pub with_copy : OpenCall → List ℕ → OpenCall
with_copy (Gathers call got asked) bytes = Gathers call (got ++ bytes ∷ []) false
with_copy task bytes = task

-- an open call whose asking has ended with an error
abbrev pub with_error : OpenCall → Errno → OpenCall
with_error (Gathers call got asked) why = Fails call why
with_error task why = task

-- an open call goes on with what came for it, where there is one
abbrev pub go_on : Machine → ConnNo → Connection → Frame → (OpenCall → OpenCall) → Option OpenCall → Played
go_on m c x f next None = (reply.Nothing, m)
go_on m c x f next (Some task) = (reply.Task f.number, with_connection m c (record x { calls = insert x.calls f.number.0 (next task) }))

-- a frame with a salt for the cookie that it makes, by its verdict
abbrev pub frame_by : Verdict → Machine → ConnNo → Connection → Frame → ℕ → Played
frame_by verdict.Closed m c x f salt = (reply.Closed, m)
frame_by verdict.Malformed m c x f salt = drain (reply.Refused error.Malformed) m c x (last_error f.number (answered_kind f.body))
frame_by (verdict.Refused why) m c x f salt = refuse m c x f why (answered_kind f.body)
frame_by verdict.Attach m c x f salt = attach m c x f (next_entry m.journal no_process (Request c f.number) op.Attach nothing_read)
frame_by (verdict.Join cookie) m c x f salt = join m c x f cookie (redeemable m.cookies cookie kind.Fork)
frame_by (verdict.Image cookie) m c x f salt = image m c x f cookie (redeemable m.cookies cookie kind.Exec)
frame_by verdict.Fork m c x f salt = fork m c x f salt (process_in x.condition)
frame_by verdict.Ready m c x f salt = ready m c x f salt (process_in x.condition)
frame_by (verdict.Cancel cookie) m c x f salt = cancel m c x f cookie (cancellable m.cookies cookie c)
frame_by (verdict.Task call) m c x f salt = open_task m c x f call
frame_by verdict.Copy m c x f salt = go_on m c x f (λ task. with_copy task (bytes_in f.body)) (get x.calls f.number.0)
frame_by (verdict.CopyFault why) m c x f salt = go_on m c x f (λ task. with_error task why) (get x.calls f.number.0)

-- a frame comes over a connection, where there is one, with a salt for the cookie that it makes
abbrev pub frame_at : Machine → ConnNo → Frame → ℕ → Option Connection → Played
frame_at m c f salt None = (reply.Closed, m)
frame_at m c f salt (Some x) = frame_by (verdict_of (state_after m.journal) m.cookies c x f) m c x f salt
