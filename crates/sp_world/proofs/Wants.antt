-- Neither machine answers that memory is wanted: that is added by the code alone.
use Rattle.std.proofs.Common.{◌≡◌, ◌≢◌, inl, inr, ℕ, Bool, true, false, cond, List, [], ◌∷◌, Option, Some, None, sym, ap}
use Rattle.sp_base.specs.Needs.{needs_of}
use Rattle.sp_base.specs.declared.call.Call.{Call}
use Rattle.sp_base.specs.declared.names.ConnNo.{ConnNo}
use Rattle.sp_base.specs.declared.names.Cookie.{Cookie}
use Rattle.sp_base.specs.declared.names.Pid.{Pid}
use Rattle.sp_base.specs.declared.names.ReqNo.{ReqNo}
use Rattle.sp_base.specs.declared.names.SpError.{SpError}
use Rattle.sp_base.specs.declared.need.Need.{Need}
use Rattle.sp_copy.specs.declared.delivery.Delivery.{Delivery}
use Rattle.sp_copy.specs.declared.part.Part.{Part}
use Rattle.sp_frames.specs.declared.frame.Body.{Body}
use Rattle.sp_frames.specs.declared.frame.Body.TheVariants as body
use Rattle.sp_frames.specs.declared.frame.Frame.{Frame}
use Rattle.kern_model.specs.Journal.{next_entry, state_after}
use Rattle.kern_model.specs.declared.journal.Entry.{Entry}
use Rattle.kern_model.specs.declared.journal.Who.TheVariants.{Request}
use Rattle.kern_model.specs.declared.operation.Ins.{Ins}
use Rattle.kern_model.specs.declared.operation.Ins.TheVariants.{Given, Fault}
use Rattle.kern_model.specs.declared.operation.Op.TheVariants as op
use Rattle.sp_fork.specs.Jar.{cancellable, redeemable}
use Rattle.sp_fork.specs.declared.unused.CookieKind.TheVariants as kind
use Rattle.sp_fork.specs.declared.unused.Unused.{Unused}
use Rattle.std.specs.FinMap.{get}
use Rattle.std.specs.Prelude.{length, slice_get}
use Rattle.hub_model.specs.Ends.{end_at, end_by, lose_at}
use Rattle.hub_model.specs.Frames.{answered_kind}
use Rattle.hub_model.specs.Journal.{nothing_read}
use Rattle.hub_model.specs.Machine as server
use Rattle.hub_model.specs.Machine.{any_speaks, halt, is_new, open_new}
use Rattle.hub_model.specs.Requests.{attach, bytes_in, cancel, fork, fork_by, frame_at, frame_by, go_on, image, image_by, join, no_process, ready, refuse, with_copy, with_error}
use Rattle.hub_model.specs.State as server_state
use Rattle.hub_model.specs.State.{Connection, Machine, process_in}
use Rattle.hub_model.specs.Verdict.{verdict_of}
use Rattle.hub_model.specs.Work.{gather, perform, performed, take_at, take_from, work_at, work_call, work_number}
use Rattle.hub_model.specs.declared.event.Event.{Event as ServerEvent}
use Rattle.hub_model.specs.declared.event.Event.TheVariants as server_event
use Rattle.hub_model.specs.declared.event.Finish.{Finish}
use Rattle.hub_model.specs.declared.event.Finish.TheVariants as finish
use Rattle.hub_model.specs.declared.event.Reply.{Reply as ServerReply}
use Rattle.hub_model.specs.declared.event.Reply.TheVariants as server_reply
use Rattle.hub_model.specs.declared.state.Condition.{Condition}
use Rattle.hub_model.specs.declared.state.Condition.TheVariants as condition
use Rattle.hub_model.specs.declared.state.OpenCall.{OpenCall}
use Rattle.hub_model.specs.declared.state.OpenCall.TheVariants as open_call
use Rattle.hub_model.specs.declared.verdict.Verdict.{Verdict}
use Rattle.hub_model.specs.declared.verdict.Verdict.TheVariants as verdict
use Rattle.client_model.specs.Machine as client
use Rattle.client_model.specs.Requests.{call_body, collected, over, start_by, want_body, wanted}
use Rattle.client_model.specs.State as client_state
use Rattle.client_model.specs.State.{Client, Open}
use Rattle.client_model.specs.declared.event.Event.{Event as ClientEvent}
use Rattle.client_model.specs.declared.event.Event.TheVariants as client_event
use Rattle.client_model.specs.declared.event.Reply.{Reply as ClientReply}
use Rattle.client_model.specs.declared.event.Reply.TheVariants as client_reply
use Rattle.client_model.specs.declared.request.Ending.{Ending}
use Rattle.client_model.specs.declared.request.Ending.TheVariants as ending
use Rattle.client_model.specs.declared.request.Request.{Request as Asks}
use Rattle.client_model.specs.declared.request.Request.TheVariants as asks
use Rattle.client_model.specs.declared.request.Response.{Response}
use Rattle.client_model.specs.declared.request.Response.TheVariants as response
use Rattle.client_model.proofs.Steps.{collect_cases, frame_cases, gone_cases, start_cases, take_cases}

-- ---- the server

-- the reply isn't that memory is wanted
abbrev IsPlayed : ServerReply → Type 0
IsPlayed answer = answer ≢ server_reply.NoMemory

either : (b : Bool) (p q : server_state.Played) → IsPlayed p.0 → IsPlayed q.0 → IsPlayed (cond {A = server_state.Played} b p q).0
either true p q first second = first
either false p q first second = second

attach_played : (m : Machine) (c : ConnNo) (x : Connection) (f : Frame) (o : Option Entry) → IsPlayed (attach m c x f o).0
attach_played m c x f None = λ q. cc
attach_played m c x f (Some e) = λ q. cc

join_played : (m : Machine) (c : ConnNo) (x : Connection) (f : Frame) (cookie : Cookie) (o : Option Unused) → IsPlayed (join m c x f cookie o).0
join_played m c x f cookie None = λ q. cc
join_played m c x f cookie (Some u) = λ q. cc

image_by_played : (m : Machine) (c : ConnNo) (x : Connection) (f : Frame) (cookie : Cookie) (u : Unused) (o : Option Entry) → IsPlayed (image_by m c x f cookie u o).0
image_by_played m c x f cookie u None = λ q. cc
image_by_played m c x f cookie u (Some e) = λ q. cc

image_played : (m : Machine) (c : ConnNo) (x : Connection) (f : Frame) (cookie : Cookie) (o : Option Unused) → IsPlayed (image m c x f cookie o).0
image_played m c x f cookie None = λ q. cc
image_played m c x f cookie (Some u) = image_by_played m c x f cookie u (next_entry m.journal u.pid (Request c f.number) op.Exec nothing_read)

fork_by_played : (m : Machine) (c : ConnNo) (x : Connection) (f : Frame) (salt : ℕ) (o : Option Entry) → IsPlayed (fork_by m c x f salt o).0
fork_by_played m c x f salt None = λ q. cc
fork_by_played m c x f salt (Some e) = λ q. cc

fork_played : (m : Machine) (c : ConnNo) (x : Connection) (f : Frame) (salt : ℕ) (o : Option Pid) → IsPlayed (fork m c x f salt o).0
fork_played m c x f salt None = λ q. cc
fork_played m c x f salt (Some pid) = fork_by_played m c x f salt (next_entry m.journal pid (Request c f.number) op.Fork nothing_read)

ready_played : (m : Machine) (c : ConnNo) (x : Connection) (f : Frame) (salt : ℕ) (o : Option Pid) → IsPlayed (ready m c x f salt o).0
ready_played m c x f salt None = λ q. cc
ready_played m c x f salt (Some pid) = λ q. cc

cancel_played : (m : Machine) (c : ConnNo) (x : Connection) (f : Frame) (cookie : Cookie) (o : Option Unused) → IsPlayed (cancel m c x f cookie o).0
cancel_played m c x f cookie None = λ q. cc
cancel_played m c x f cookie (Some u) = λ q. cc

refuse_played : (m : Machine) (c : ConnNo) (x : Connection) (f : Frame) (why : SpError) (o : Option ℕ) → IsPlayed (refuse m c x f why o).0
refuse_played m c x f why None = λ q. cc
refuse_played m c x f why (Some n) = λ q. cc

go_on_played : (m : Machine) (c : ConnNo) (x : Connection) (f : Frame) (next : OpenCall → OpenCall) (o : Option OpenCall) → IsPlayed (go_on m c x f next o).0
go_on_played m c x f next None = λ q. cc
go_on_played m c x f next (Some task) = λ q. cc

frame_by_played : (v : Verdict) (m : Machine) (c : ConnNo) (x : Connection) (f : Frame) (salt : ℕ) → IsPlayed (frame_by v m c x f salt).0
frame_by_played verdict.Closed m c x f salt = λ q. cc
frame_by_played verdict.Malformed m c x f salt = λ q. cc
frame_by_played (verdict.Refused why) m c x f salt = refuse_played m c x f why (answered_kind f.body)
frame_by_played verdict.Attach m c x f salt = attach_played m c x f (next_entry m.journal no_process (Request c f.number) op.Attach nothing_read)
frame_by_played (verdict.Join cookie) m c x f salt = join_played m c x f cookie (redeemable m.cookies cookie kind.Fork)
frame_by_played (verdict.Image cookie) m c x f salt = image_played m c x f cookie (redeemable m.cookies cookie kind.Exec)
frame_by_played verdict.Fork m c x f salt = fork_played m c x f salt (process_in x.condition)
frame_by_played verdict.Ready m c x f salt = ready_played m c x f salt (process_in x.condition)
frame_by_played (verdict.Cancel cookie) m c x f salt = cancel_played m c x f cookie (cancellable m.cookies cookie c)
frame_by_played (verdict.Task call) m c x f salt = λ q. cc
frame_by_played verdict.Copy m c x f salt = go_on_played m c x f (λ task. with_copy task (bytes_in f.body)) (get x.calls f.number.0)
frame_by_played (verdict.CopyFault why) m c x f salt = go_on_played m c x f (λ task. with_error task why) (get x.calls f.number.0)

frame_played : (m : Machine) (c : ConnNo) (f : Frame) (salt : ℕ) (o : Option Connection) → IsPlayed (frame_at m c f salt o).0
frame_played m c f salt None = λ q. cc
frame_played m c f salt (Some x) = frame_by_played (verdict_of (state_after m.journal) m.cookies c x f) m c x f salt

performed_played : (memory : Bool) (m : Machine) (c : ConnNo) (x : Connection) (r : ReqNo) (o : Option Entry) → IsPlayed (performed memory m c x r o).0
performed_played memory m c x r None = λ q. cc
performed_played true m c x r (Some e) = λ q. cc
performed_played false m c x r (Some e) = λ q. cc

perform_played : (memory : Bool) (m : Machine) (c : ConnNo) (x : Connection) (r : ReqNo) (call : Call) (ins : Ins) (o : Option Pid) → IsPlayed (perform memory m c x r call ins o).0
perform_played memory m c x r call ins None = λ q. cc
perform_played memory m c x r call ins (Some pid) = performed_played memory m c x r (next_entry m.journal pid (Request c r) (op.Sys call) ins)

gather_played : (memory : Bool) (m : Machine) (c : ConnNo) (x : Connection) (r : ReqNo) (call : Call) (got : List (List ℕ)) (o : Option Need) → IsPlayed (gather memory m c x r call got o).0
gather_played memory m c x r call got None = perform_played memory m c x r call (Given got) (process_in x.condition)
gather_played memory m c x r call got (Some need) = λ q. cc

call_played : (memory : Bool) (m : Machine) (c : ConnNo) (x : Connection) (r : ReqNo) (task : OpenCall) → IsPlayed (work_call memory m c x r task).0
call_played memory m c x r (open_call.Gathers call got true) = λ q. cc
call_played memory m c x r (open_call.Gathers call got false) = gather_played memory m c x r call got (slice_get (needs_of call) (length got))
call_played memory m c x r (open_call.Fails call why) = perform_played memory m c x r call (Fault why) (process_in x.condition)
call_played memory m c x r open_call.Answers = λ q. cc

number_played : (memory : Bool) (m : Machine) (c : ConnNo) (x : Connection) (r : ReqNo) (o : Option OpenCall) → IsPlayed (work_number memory m c x r o).0
number_played memory m c x r None = λ q. cc
number_played memory m c x r (Some task) = call_played memory m c x r task

work_played : (memory : Bool) (m : Machine) (c : ConnNo) (r : ReqNo) (o : Option Connection) → IsPlayed (work_at memory m c r o).0
work_played memory m c r None = λ q. cc
work_played memory m c r (Some x) = number_played memory m c x r (get x.calls r.0)

taken_played : (m : Machine) (c : ConnNo) (x : Connection) (how : Condition) (queue : List Frame) → IsPlayed (take_from m c x how queue).0
taken_played m c x condition.Draining [] = λ q. cc
taken_played m c x condition.Draining (f ∷ queue) = λ q. cc
taken_played m c x _ [] = λ q. cc
taken_played m c x _ (f ∷ queue) = λ q. cc

take_played : (m : Machine) (c : ConnNo) (o : Option Connection) → IsPlayed (take_at m c o).0
take_played m c None = λ q. cc
take_played m c (Some x) = taken_played m c x x.condition x.queue

end_by_played : (m : Machine) (c : ConnNo) (x : Connection) (how : Condition) (finished : Finish) → IsPlayed (end_by m c x how finished).0
end_by_played m c x (condition.Live pid) (finish.Bad fault) = λ q. cc
end_by_played m c x (condition.Live pid) finish.Clean = λ q. cc
end_by_played m c x (condition.Live pid) finish.Inside = λ q. cc
end_by_played m c x _ finished = λ q. cc

end_played : (m : Machine) (c : ConnNo) (finished : Finish) (o : Option Connection) → IsPlayed (end_at m c finished o).0
end_played m c finished None = λ q. cc
end_played m c finished (Some x) = end_by_played m c x x.condition finished

lose_played : (m : Machine) (c : ConnNo) (o : Option Connection) → IsPlayed (lose_at m c o).0
lose_played m c None = λ q. cc
lose_played m c (Some x) = λ q. cc

running_played : (memory : Bool) (m : Machine) (e : ServerEvent) → IsPlayed (server.played_running memory m e).0
running_played memory m (server_event.Opened c) = either (is_new m.opened c.0) _ (server_reply.Closed, m) (λ q. cc) (λ q. cc)
running_played memory m (server_event.Frame c f salt) = frame_played m c f salt (get m.connections c.0)
running_played memory m (server_event.Work c r) = work_played memory m c r (get m.connections c.0)
running_played memory m (server_event.Take c) = take_played m c (get m.connections c.0)
running_played memory m (server_event.Ended c finished) = end_played m c finished (get m.connections c.0)
running_played memory m (server_event.Lost c) = lose_played m c (get m.connections c.0)
running_played memory m server_event.Halt = either (any_speaks m) (server_reply.NotQuiet, m) _ (λ q. cc) (λ q. cc)

-- the server's machine never answers that memory is wanted
pub server_never_wants : (memory : Bool) (m : Machine) (e : ServerEvent) → (server.played memory m e).0 ≢ server_reply.NoMemory
server_never_wants memory m e = either m.halted (server_reply.Closed, m) (server.played_running memory m e) (λ q. cc) (running_played memory m e)

-- where the server answers that memory is wanted, it is as it was
pub server_kept : (m m' : Machine) (e : ServerEvent) → server.Plays m e server_reply.NoMemory m' → m' ≡ m
server_kept m m' e (inl (memory, same)) = absurd (server_never_wants memory m e (sym (ap (λ (p : server_state.Played). p.0) same)))
server_kept m m' e (inr stays) = stays.keeps

-- where it answers something else, its machine plays the event
pub server_plays : (m m' : Machine) (e : ServerEvent) (answer : ServerReply) → server.Plays m e answer m' → answer ≢ server_reply.NoMemory → (memory : Bool) × ((answer, m') ≡ server.played memory m e)
server_plays m m' e answer (inl p) other = p
server_plays m m' e answer (inr stays) other = absurd (other stays.answers)

-- ---- a client

-- the reply isn't that memory is wanted
abbrev IsAnswered : client_state.Played → Type 0
IsAnswered p = (mem : List Part) → p.0 ≢ client_reply.NoMemory mem

over_answered : (k : Client) (e : Ending) (mem : List Part) → IsAnswered (over e mem, k)
over_answered k ending.Gone mem = λ back q. cc
over_answered k ending.Broken mem = λ back q. cc

start_answered : (k : Client) (what : Asks) (says : Body) (mem : List Part) → IsAnswered (start_by k what says mem k.ending)
start_answered k what says mem = start_cases IsAnswered k what says mem (record {
  over = λ e is. over_answered k e mem;
  not_yet = λ back q. cc;
  busy = λ back q. cc;
  starts = λ back q. cc;
})

collected_answered : (k : Client) (what : Response) (d : Delivery) → IsAnswered (collected what d, k)
collected_answered k (response.Joined pid) d = λ back q. cc
collected_answered k (response.Imaged pid place) d = λ back q. cc
collected_answered k (response.Answered answer) d = λ back q. cc
collected_answered k (response.Forked cookie place pid) d = λ back q. cc
collected_answered k response.Cancelled d = λ back q. cc
collected_answered k (response.ExecReady cookie) d = λ back q. cc
collected_answered k (response.Refused why) d = λ back q. cc

event_answered : (k : Client) (e : ClientEvent) → IsAnswered (client.played k e)
event_answered k (client_event.Start caller call mem) = start_answered k (asks.Call call) (call_body call) mem
event_answered k (client_event.Prefork caller want) = start_answered k (wanted want) (want_body want) []
event_answered k (client_event.Preexec caller) = start_answered k asks.Preexec body.Preexec []
event_answered k (client_event.Frame f) = frame_cases IsAnswered k f (record { nothing = λ back q. cc; bad = λ whole back q. cc; fits = λ x at may whole back q. cc })
event_answered k (client_event.Collect r) = collect_cases IsAnswered k r (record {
  unknown = λ back q. cc;
  not_yet = λ back q. cc;
  over = λ x e at. over_answered k e x.delivery.mem;
  done = λ x what at has. collected_answered k what x.delivery;
})
event_answered k client_event.Take = take_cases IsAnswered k (record { nothing = λ back q. cc; out = λ f queue is back q. cc })
event_answered k client_event.Gone = gone_cases IsAnswered k (record { nothing = λ back q. cc; gone = λ is back q. cc })

-- a client's machine never answers that memory is wanted
pub client_never_wants : (k : Client) (e : ClientEvent) (mem : List Part) → (client.played k e).0 ≢ client_reply.NoMemory mem
client_never_wants k e = event_answered k e

-- where a client answers that memory is wanted, it is as it was
pub client_kept : (k k' : Client) (e : ClientEvent) (mem : List Part) → client.Plays k e (client_reply.NoMemory mem) k' → k' ≡ k
client_kept k k' e mem (inl same) = absurd (client_never_wants k e mem (sym (ap (λ (p : client_state.Played). p.0) same)))
client_kept k k' e mem (inr stays) = stays.keeps

-- where it answers something else, its machine plays the event
pub client_plays : (k k' : Client) (e : ClientEvent) (answer : ClientReply) → client.Plays k e answer k' → ((mem : List Part) → answer ≢ client_reply.NoMemory mem) → (answer, k') ≡ client.played k e
client_plays k k' e answer (inl same) other = same
client_plays k k' e answer (inr stays) other = absurd (other _ stays.answers)
