-- What the log says of a request: what was asked under its number, and what was collected.
use Rattle.std.specs.Prelude.{◌≡◌, ◌⊎◌, ◌&&◌, ℕ, ◌==◌, Bool, true, false, List, [], ◌∷◌, ◌++◌, Option, None, Some, if◌then◌else◌}
use Rattle.sp_base.specs.declared.names.ConnNo.{ConnNo}
use Rattle.sp_copy.specs.declared.part.Part.{Part}
use Rattle.hub_model.specs.declared.event.Reply.TheVariants as server_reply
use Rattle.client_model.specs.Requests.{wanted}
use Rattle.client_model.specs.State.{asked_by}
use Rattle.client_model.specs.declared.event.Reply.{Reply as ClientReply}
use Rattle.client_model.specs.declared.event.Reply.TheVariants as client_reply
use Rattle.client_model.specs.declared.request.Request.{Request}
use Rattle.client_model.specs.declared.request.Request.TheVariants as request
use Rattle.world_model.specs.Run.{Item}
use Rattle.world_model.specs.declared.event.Event.{Event}
use Rattle.world_model.specs.declared.event.Event.TheVariants as event
use Rattle.world_model.specs.declared.event.Reply.{Reply}
use Rattle.world_model.specs.declared.event.Reply.TheVariants as reply

-- what was asked, and the memory that was lent for it
pub record Ask : Type 0 where
  pub what : Request
  pub mem : List Part

-- a request of a connection and a number is this one
abbrev pub is_key : ConnNo → ℕ → ConnNo → ℕ → Bool
is_key c n d m = (d.0 == c.0) && (m == n)

-- what is asked for under a number, where it is this one
abbrev pub asked_if : ConnNo → ℕ → ConnNo → ℕ → Ask → List Ask
asked_if c n d m ask = if is_key c n d m then ask ∷ [] else []

-- what a client's reply to an ask gave a number to
abbrev pub started : ConnNo → ℕ → ConnNo → Ask → ClientReply → List Ask
started c n d ask (client_reply.Started r) = asked_if c n d r.0 ask
started c n d ask _ = []

-- the same, where the client was there
abbrev pub started_by : ConnNo → ℕ → ConnNo → Ask → Reply → List Ask
started_by c n d ask (reply.Client answer) = started c n d ask answer
started_by c n d ask _ = []

-- a handshake is the request of number 1, where its connection opened
abbrev pub greeted : ConnNo → ℕ → ConnNo → Ask → Reply → List Ask
greeted c n d ask (reply.Server server_reply.Nothing) = asked_if c n d 1 ask
greeted c n d ask _ = []

-- what an event asked for under a number
abbrev pub asks : ConnNo → ℕ → Event → Reply → List Ask
asks c n (event.Connect d hello) answer = greeted c n d (record { what = asked_by hello; mem = [] }) answer
asks c n (event.Start d caller call mem) answer = started_by c n d (record { what = request.Call call; mem = mem }) answer
asks c n (event.Prefork d caller want) answer = started_by c n d (record { what = wanted want; mem = [] }) answer
asks c n (event.Preexec d caller) answer = started_by c n d (record { what = request.Preexec; mem = [] }) answer
asks c n _ answer = []

-- all that was ever asked for under a number, the newest first
abbrev pub asked : ConnNo → ℕ → List Item → List Ask
asked c n [] = []
asked c n (item ∷ log) = asks c n item.event item.reply ++ asked c n log

-- a reply to who collects closes the request
abbrev pub is_closing : ClientReply → Bool
is_closing (client_reply.NotYet mem) = false
is_closing client_reply.Unknown = false
is_closing _ = true

-- the reply that closed a request, if it did
abbrev pub closing : ClientReply → List ClientReply
closing answer = if is_closing answer then answer ∷ [] else []

-- the same, where the client was there
abbrev pub closing_in : Reply → List ClientReply
closing_in (reply.Client answer) = closing answer
closing_in _ = []

-- what an event told who collected the request of a number
abbrev pub tells : ConnNo → ℕ → Event → Reply → List ClientReply
tells c n (event.Collect d r) answer = if is_key c n d r.0 then closing_in answer else []
tells c n _ answer = []

-- all that was ever told of the request of a number, the newest first
abbrev pub told : ConnNo → ℕ → List Item → List ClientReply
told c n [] = []
told c n (item ∷ log) = tells c n item.event item.reply ++ told c n log

-- something is in a list
abbrev pub IsIn : {X : Type 0} → X → List X → Type 0
IsIn x [] = ⊥
IsIn x (y ∷ ys) = (y ≡ x) ⊎ IsIn x ys
