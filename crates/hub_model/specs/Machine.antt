-- The server's machine: what it answers to an event, and what it is after it.
use Rattle.std.specs.Prelude.{◌≡◌, ◌⊎◌, ℕ, nat_lt, Bool, true, false, IsTrue, Option, None, Some, if◌then◌else◌}
use Rattle.std.specs.FinMap.{get, entries}
use Rattle.std.specs.List.{list_any}
use Rattle.sp_base.specs.declared.names.ConnNo.{ConnNo}
use Rattle.sp_base.specs.declared.names.SpError.{SpError}
use Rattle.sp_base.specs.declared.names.SpError.TheVariants as error
use Rattle.hub_model.specs.Ends.{end_at, lose_at}
use Rattle.hub_model.specs.Requests.{frame_at}
use Rattle.hub_model.specs.State.{Machine, Played, fresh_connection, with_connection, speaks}
use Rattle.hub_model.specs.Work.{work_at, take_at}
use Rattle.hub_model.specs.declared.event.Event.{Event}
use Rattle.hub_model.specs.declared.event.Event.TheVariants.{Opened, Frame, Work, Take, Ended, Lost, Halt}
use Rattle.hub_model.specs.declared.event.Reply.{Reply}
use Rattle.hub_model.specs.declared.event.Reply.TheVariants as reply

-- a number is above every one that was opened
abbrev pub is_new : Option ℕ → ℕ → Bool
is_new None c = true
is_new (Some highest) c = nat_lt highest c

-- a connection opens, where its number is above every number that was opened before
abbrev pub open_new : Machine → ConnNo → Played
open_new m c =
    if is_new m.opened c.0
    then (reply.Nothing, with_connection (record m { opened = Some c.0 }) c fresh_connection)
    else (reply.Closed, m)

-- some client may still send something
abbrev pub any_speaks : Machine → Bool
any_speaks m = list_any (λ e. speaks e.1.condition) (entries m.connections)

-- the server halts, where no client may send anything any more
abbrev pub halt : Machine → Played
halt m = if any_speaks m then (reply.NotQuiet, m) else (reply.Closed, record m { halted = true })

-- an event happens while the server hasn't halted; whether there is memory matters where a call would be performed
abbrev pub played_running : Bool → Machine → Event → Played
played_running memory m (Opened c) = open_new m c
played_running memory m (Frame c f salt) = frame_at m c f salt (get m.connections c.0)
played_running memory m (Work c r) = work_at memory m c r (get m.connections c.0)
played_running memory m (Take c) = take_at m c (get m.connections c.0)
played_running memory m (Ended c finish) = end_at m c finish (get m.connections c.0)
played_running memory m (Lost c) = lose_at m c (get m.connections c.0)
played_running memory m Halt = halt m

-- an event happens; once the server has halted, each event is answered Closed and changes nothing
abbrev pub played : Bool → Machine → Event → Played
played memory m event = if m.halted then (reply.Closed, m) else played_running memory m event

-- an error that is queued in memory of its own: any but the last one of a connection
abbrev pub refusal_takes : SpError → Bool
refusal_takes error.Malformed = false
refusal_takes _ = true

-- the replies to a frame that take memory: an operation is performed, a call is open or goes on, an error is queued
abbrev pub frame_takes : Reply → Bool
frame_takes (reply.Task r) = true
frame_takes reply.Done = true
frame_takes (reply.Refused why) = refusal_takes why
frame_takes _ = false

-- the reply to the opening of a connection that takes memory: it is open
abbrev pub open_takes : Reply → Bool
open_takes reply.Nothing = true
open_takes _ = false

-- the reply to work that may want memory: the next of what a call reads is asked for
abbrev pub work_takes : Reply → Bool
work_takes reply.Asked = true
work_takes _ = false

-- an event's reply takes memory, without which it is NoMemory and nothing changes
abbrev pub takes_memory : Event → Reply → Bool
takes_memory (Opened c) answer = open_takes answer
takes_memory (Frame c f salt) answer = frame_takes answer
takes_memory (Work c r) answer = work_takes answer
takes_memory _ answer = false

-- memory is wanted for a reply that takes some, and the machine stays as it was
pub record StaysWanting (old : Machine) (event : Event) (answer : Reply) (new : Machine) : Type 0 where
  pub takes_some : IsTrue (takes_memory event (played true old event).0)
  pub answers : answer ≡ reply.NoMemory
  pub keeps : new ≡ old

-- the machine plays an event: with memory, or with none for the call that would be performed; or memory is wanted
abbrev pub Plays : Machine → Event → Reply → Machine → Type 0
Plays old event answer new =
    ((memory : Bool) × ((answer, new) ≡ played memory old event)) ⊎ StaysWanting old event answer new
