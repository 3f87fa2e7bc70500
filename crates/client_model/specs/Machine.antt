-- The client's machine: what it answers to an event, and what it is after it.
use Rattle.std.specs.Prelude.{◌≡◌, ◌⊎◌, Bool, true, false, IsTrue, List, [], ◌∷◌, Option, None, Some}
use Rattle.std.specs.FinMap.{get}
use Rattle.sp_copy.specs.declared.part.Part.{Part}
use Rattle.sp_frames.specs.declared.frame.Body.{Body}
use Rattle.sp_frames.specs.declared.frame.Body.TheVariants as body
use Rattle.sp_frames.specs.declared.frame.Frame.{Frame}
use Rattle.client_model.specs.Asks.{goes_on}
use Rattle.client_model.specs.Fitness.{may_come}
use Rattle.client_model.specs.Requests.{start_by, call_body, wanted, want_body, collect_at}
use Rattle.client_model.specs.State.{Open, Client, Played}
use Rattle.client_model.specs.declared.event.Event.{Event}
use Rattle.client_model.specs.declared.event.Event.TheVariants as event
use Rattle.client_model.specs.declared.event.Reply.{Reply}
use Rattle.client_model.specs.declared.event.Reply.TheVariants as reply
use Rattle.client_model.specs.declared.request.Ending.{Ending}
use Rattle.client_model.specs.declared.request.Ending.TheVariants as ending
use Rattle.client_model.specs.declared.request.Request.TheVariants as request

-- a frame does what it does, for the open request that it names
abbrev pub take_in : Client → Frame → Option Open → Played
take_in k f None = (reply.Nothing, k)
take_in k f (Some x) = (reply.Nothing, goes_on k f.number x f.body)

-- a frame comes that the server may send, or the talk with the server is over
abbrev pub frame_if : Client → Frame → Bool → Played
frame_if k f true = take_in k f (get k.requests f.number.0)
frame_if k f false = (reply.BadServer f, record k { ending = Some ending.Broken })

-- a frame comes, where the talk with the server goes on
abbrev pub frame_by : Client → Frame → Option Ending → Played
frame_by k f (Some over) = (reply.Nothing, k)
frame_by k f None = frame_if k f (may_come (get k.requests f.number.0) f.body)

-- the oldest frame is taken off the queue
abbrev pub take_from : Client → List Frame → Played
take_from k [] = (reply.Nothing, k)
take_from k (f ∷ queue) = (reply.Out f, record k { queue = queue })

-- the link is gone; what ended the talk before it decides
abbrev pub gone_by : Client → Option Ending → Client
gone_by k (Some over) = k
gone_by k None = record k { ending = Some ending.Gone }

-- an event happens
abbrev pub played : Client → Event → Played
played k (event.Start caller call mem) = start_by k (request.Call call) (call_body call) mem k.ending
played k (event.Prefork caller want) = start_by k (wanted want) (want_body want) [] k.ending
played k (event.Preexec caller) = start_by k request.Preexec body.Preexec [] k.ending
played k (event.Frame f) = frame_by k f k.ending
played k (event.Collect r) = collect_at k r (get k.requests r.0)
played k event.Take = take_from k k.queue
played k event.Gone = (reply.Nothing, gone_by k k.ending)

-- an answer that the client makes takes memory: a request starts
abbrev pub start_takes : Reply → Bool
start_takes (reply.Started r) = true
start_takes _ = false

-- a frame takes memory: a copy is read, and queued
abbrev pub is_ask : Body → Bool
is_ask (body.AskBytes index addr len) = true
is_ask (body.AskText index addr most) = true
is_ask _ = false

-- the reply to a frame of this body takes memory
abbrev pub frame_takes : Body → Reply → Bool
frame_takes what reply.Nothing = is_ask what
frame_takes what _ = false

-- an event's reply takes memory, without which it is NoMemory and nothing changes
abbrev pub takes_memory : Event → Reply → Bool
takes_memory (event.Start caller call mem) answer = start_takes answer
takes_memory (event.Prefork caller want) answer = start_takes answer
takes_memory (event.Preexec caller) answer = start_takes answer
takes_memory (event.Frame f) answer = frame_takes f.body answer
takes_memory _ answer = false

-- the memory that an event lends, which comes back where the event is refused
abbrev pub lent : Event → List Part
lent (event.Start caller call mem) = mem
lent _ = []

-- memory is wanted for a reply that takes some, and the machine stays as it was
pub record StaysWanting (old : Client) (event : Event) (answer : Reply) (new : Client) : Type 0 where
  pub takes_some : IsTrue (takes_memory event (played old event).0)
  pub answers : answer ≡ reply.NoMemory (lent event)
  pub keeps : new ≡ old

-- the machine plays an event, or memory is wanted
abbrev pub Plays : Client → Event → Reply → Client → Type 0
Plays old event answer new = ((answer, new) ≡ played old event) ⊎ StaysWanting old event answer new
