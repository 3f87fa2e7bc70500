-- Runs of the client's machine, and what can be told of it at any time.
use Rattle.std.specs.Prelude.{◌≡◌, ◌&&◌, not, Bool, true, false, List, [], ◌∷◌, Option, None, Some, is_some}
use Rattle.std.specs.FinMap.{get, entries}
use Rattle.std.specs.List.{list_any}
use Rattle.sp_base.specs.declared.names.ReqNo.{ReqNo}
use Rattle.client_model.specs.Machine.{Plays}
use Rattle.client_model.specs.State.{Open, Client}
use Rattle.client_model.specs.declared.event.Event.{Event}
use Rattle.client_model.specs.declared.event.Reply.{Reply}

-- a request has its response
abbrev pub has_response : Open → Bool
has_response x = is_some x.response

-- there is a request, and it has its response
abbrev pub is_answered_in : Option Open → Bool
is_answered_in None = false
is_answered_in (Some x) = has_response x

-- the request of a number is open and has its response
abbrev pub is_answered : Client → ReqNo → Bool
is_answered k r = is_answered_in (get k.requests r.0)

-- no frame is queued
abbrev pub has_no_frame : {X : Type 0} → List X → Bool
has_no_frame [] = true
has_no_frame (x ∷ xs) = false

-- no frame is queued, and no open request has its response
abbrev pub is_still : Client → Bool
is_still k = has_no_frame k.queue && not (list_any (λ e. has_response e.1) (entries k.requests))

-- an event, and what was answered to it
pub record Exchange : Type 0 where
  pub event : Event
  pub reply : Reply

-- the machine goes from one state to another by these exchanges, in order
abbrev pub Runs : Client → List Exchange → Client → Type 0
Runs old [] new = new ≡ old
Runs old (exchange ∷ exchanges) new =
    (next : Client) × Plays old exchange.event exchange.reply next × Runs next exchanges new
