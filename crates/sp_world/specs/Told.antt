-- What is told of a world: what it holds, and what happened in it.
use Rattle.std.specs.Prelude.{◌≡◌, ◌⊎◌, ℕ, ◌+◌, ◌<◌, ◌==◌, not, Bool, true, false, List, [], ◌∷◌, ◌++◌, length, Option, None, Some, if◌then◌else◌}
use Rattle.std.specs.List.{AllByRecursion, list_any}
use Rattle.sp_base.specs.declared.names.ReqNo.{ReqNo}
use Rattle.sp_frames.specs.declared.version.Version.TheVariants.{Four}
use Rattle.client_model.specs.Requests.{is_busy}
use Rattle.client_model.specs.Run.{is_answered}
use Rattle.client_model.specs.State.{Client}
use Rattle.world_model.specs.Machine.{played}
use Rattle.world_model.specs.Run.{History, Move, fresh_history, run}
use Rattle.world_model.specs.State.{World, fresh_world}
use Rattle.world_model.specs.declared.event.Event.{Event}
use Rattle.world_model.specs.declared.event.Reply.{Reply}
use Rattle.world_model.specs.declared.event.Reply.TheVariants as reply
use Rattle.sp_world.specs.Happens.{IsPaired, IsWithin, refuses_memory}

-- what a world holds; the events that happened, the oldest first; and the indexes of those that were refused for want of memory, rising
pub record Told : Type 0 where
  pub world : World
  pub events : List Event
  pub refused : List ℕ

-- an index is among these
abbrev pub is_among : List ℕ → ℕ → Bool
is_among indexes i = list_any (λ j. j == i) indexes

-- the moves of events whose first has this index: each with memory but where its index is among the refused ones
abbrev pub moves_from : ℕ → List ℕ → List Event → List Move
moves_from i refused [] = []
moves_from i refused (happens ∷ events) = record { happens = happens; memory = not (is_among refused i) } ∷ moves_from (i + 1) refused events

-- the moves that were made
abbrev pub moves_of : Told → List Move
moves_of t = moves_from 0 t.refused t.events

-- all that happened in a world, from its beginning on
abbrev pub history_of : Told → History
history_of t = run (fresh_history Four) (moves_of t)

-- nothing was told yet
abbrev pub nothing_told : Told
nothing_told = record { world = fresh_world Four; events = []; refused = [] }

-- the answer tells that memory was refused
abbrev pub is_wanting : Reply → Bool
is_wanting reply.NoMemory = true
is_wanting _ = false

-- an event happened, and is the last of the log; its index is the last of those that were refused where its answer says so
pub record IsLogged (old : Told) (happens : Event) (answer : Reply) (new : Told) : Type 0 where
  pub plays : (answer, new.world) ≡ played (not (refuses_memory happens answer)) old.world happens
  pub events : new.events ≡ old.events ++ happens ∷ []
  pub refused : new.refused ≡ old.refused ++ (if refuses_memory happens answer then length old.events ∷ [] else [])

-- memory was refused, and nothing changed
pub record IsUntold (old : Told) (answer : Reply) (new : Told) : Type 0 where
  pub answers : answer ≡ reply.NoMemory
  pub keeps : new ≡ old

-- an event is logged, or memory was refused and nothing changed
abbrev pub Tells : Told → Event → Reply → Told → Type 0
Tells old happens answer new = IsLogged old happens answer new ⊎ IsUntold old answer new

-- what is told is what a run of the log leaves
pub record IsRun (t : Told) : Type 0 where
  pub world : t.world ≡ (history_of t).world
  pub below : AllByRecursion (λ i. i < length t.events) t.refused
  pub paired : IsPaired t.world
  pub within : IsWithin (length t.events) t.world

-- the client's word on whether a request has its answer, where there is a client
abbrev pub is_answered_in : Option Client → ReqNo → Bool
is_answered_in None r = false
is_answered_in (Some k) r = is_answered k r

-- the client's word on whether it is busy, where there is a client
abbrev pub is_busy_in : Option Client → Bool
is_busy_in None = false
is_busy_in (Some k) = is_busy k
