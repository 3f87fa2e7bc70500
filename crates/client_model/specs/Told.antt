-- What can be told of the client's replies.
use Rattle.std.specs.Prelude.{ℕ, ◌||◌, Bool, true, false, List, [], ◌∷◌, ◌++◌, Option, None, Some}
use Rattle.std.specs.List.{list_any}
use Rattle.sp_base.specs.Needs.{outs_of}
use Rattle.sp_base.specs.declared.call.Call.{Call}
use Rattle.sp_base.specs.declared.names.Caller.{Caller}
use Rattle.sp_base.specs.declared.names.ReqNo.{ReqNo}
use Rattle.sp_copy.specs.Parts.{in_range}
use Rattle.sp_copy.specs.declared.part.Part.{Part}
use Rattle.client_model.specs.Machine.{Plays}
use Rattle.client_model.specs.Requests.{wanted}
use Rattle.client_model.specs.Run.{Exchange, Runs}
use Rattle.client_model.specs.State.{Client}
use Rattle.client_model.specs.declared.event.Event.{Event}
use Rattle.client_model.specs.declared.event.Event.TheVariants as event
use Rattle.client_model.specs.declared.event.Reply.{Reply}
use Rattle.client_model.specs.declared.event.Reply.TheVariants as reply
use Rattle.client_model.specs.declared.request.Request.{Request}
use Rattle.client_model.specs.declared.request.Request.TheVariants as request

-- the number that a reply gives to a request
abbrev pub number_given : Reply → List ℕ
number_given (reply.Started r) = r.0 ∷ []
number_given _ = []

-- the numbers that requests were given, in order
abbrev pub numbers_given : List Exchange → List ℕ
numbers_given [] = []
numbers_given (exchange ∷ exchanges) = number_given exchange.reply ++ numbers_given exchanges

-- the reply says that nothing was done
abbrev pub is_refusal : Reply → Bool
is_refusal (reply.NotYet mem) = true
is_refusal (reply.Busy mem) = true
is_refusal reply.Unknown = true
is_refusal (reply.NoMemory mem) = true
is_refusal _ = false

-- the memory that comes back with a reply
abbrev pub memory_back : Reply → Option (List Part)
memory_back (reply.Busy mem) = Some mem
memory_back (reply.Got answer mem) = Some mem
memory_back (reply.Refused why mem) = Some mem
memory_back (reply.Lost mem) = Some mem
memory_back (reply.Broken mem) = Some mem
memory_back (reply.NotYet mem) = Some mem
memory_back (reply.NoMemory mem) = Some mem
memory_back _ = None

-- the address is in a range that a call may write
abbrev pub is_allowed : Call → ℕ → Bool
is_allowed call a = list_any (λ range. in_range range.addr range.len a) (outs_of call)

-- an event was played that started a request of this number, and then the client came to be as it is now
pub record WasGiven (asks : Event) (r : ReqNo) (now : Client) : Type 0 where
  pub before : Client
  pub after : Client
  pub starts : Plays before asks (reply.Started r) after
  pub exchanges : List Exchange
  pub runs : Runs after exchanges now

-- some caller started a call with this memory, which was given this number
abbrev pub WasStarted : Call → List Part → ReqNo → Client → Type 0
WasStarted call mem r now = (caller : Caller) × WasGiven (event.Start caller call mem) r now

-- what an event asks, where it starts a request
abbrev pub asked_in : Event → Option Request
asked_in (event.Start caller call mem) = Some (request.Call call)
asked_in (event.Prefork caller want) = Some (wanted want)
asked_in (event.Preexec caller) = Some request.Preexec
asked_in _ = None

-- the reply answers what was asked
abbrev pub is_answer_to : Request → Reply → Bool
is_answer_to request.Attach (reply.Joined pid None) = true
is_answer_to request.Join (reply.Joined pid None) = true
is_answer_to request.Image (reply.Joined pid (Some place)) = true
is_answer_to (request.Call call) (reply.Got answer mem) = true
is_answer_to request.Prefork (reply.Forked cookie place pid) = true
is_answer_to request.Cancel reply.Cancelled = true
is_answer_to request.Preexec (reply.ExecReady cookie) = true
is_answer_to _ _ = false

-- the reply answers nothing that was asked: it is an error, the talk with the server is over, or nothing was done
abbrev pub answers_nothing : Reply → Bool
answers_nothing (reply.Refused why mem) = true
answers_nothing (reply.Lost mem) = true
answers_nothing (reply.Broken mem) = true
answers_nothing other = is_refusal other

-- who collects what was asked may get this reply
abbrev pub is_in_kind : Request → Reply → Bool
is_in_kind asks answer = answers_nothing answer || is_answer_to asks answer
