-- What happened in a world, from its beginning on.
use Rattle.std.specs.Prelude.{◌≡◌, ⊤, ℕ, Bool, true, false, List, [], ◌∷◌, ◌++◌, Option, None, Some}
use Rattle.std.specs.FinMap.{get}
use Rattle.sp_base.specs.Call.{call_number, IsProper}
use Rattle.sp_base.specs.declared.names.ConnNo.{ConnNo}
use Rattle.sp_frames.specs.declared.frame.Frame.{Frame}
use Rattle.sp_frames.specs.declared.version.Version.{Version}
use Rattle.hub_model.specs.Machine as server
use Rattle.hub_model.specs.Run.{Exchange}
use Rattle.hub_model.specs.Verdict.{is_later_call}
use Rattle.hub_model.specs.declared.event.Event.{Event as ServerEvent}
use Rattle.hub_model.specs.declared.event.Event.TheVariants as server_event
use Rattle.hub_model.specs.declared.event.Finish.TheVariants.{Clean}
use Rattle.client_model.specs.State.{Client, HasName}
use Rattle.world_model.specs.Machine.{played}
use Rattle.world_model.specs.State.{Link, Played, World, fresh_world}
use Rattle.world_model.specs.declared.event.Event.{Event}
use Rattle.world_model.specs.declared.event.Event.TheVariants as event
use Rattle.world_model.specs.declared.event.Reply.{Reply}

-- an event that happens, and whether there is memory to perform a call
pub record Move : Type 0 where
  pub happens : Event
  pub memory : Bool

-- an event that happened, and what was answered
pub record Item : Type 0 where
  pub event : Event
  pub reply : Reply

-- a world; what happened in it, the newest first; and what the server played of that, the oldest first
pub record History : Type 0 where
  pub world : World
  pub log : List Item
  pub exchanges : List Exchange

-- the frame that comes to the server, where one is under way
abbrev pub frame_to_server : ConnNo → ℕ → List Frame → Option ServerEvent
frame_to_server c salt [] = None
frame_to_server c salt (f ∷ frames) = Some (server_event.Frame c f salt)

-- what the server plays, where an event is of a connection that is there
abbrev pub server_part : ConnNo → Link → Event → Option ServerEvent
server_part c l (event.ToServer d salt) = frame_to_server c salt l.up
server_part c l (event.FromServer d) = Some (server_event.Take c)
server_part c l (event.Work d r) = Some (server_event.Work c r)
server_part c l (event.Cut d) = Some (server_event.Lost c)
server_part c l (event.Ends d) = Some (server_event.Ended c Clean)
server_part c l _ = None

abbrev pub server_part_at : ConnNo → Event → Option Client → Option Link → Option ServerEvent
server_part_at c happens (Some k) (Some l) = server_part c l happens
server_part_at c happens (Some k) None = None
server_part_at c happens None l = None

abbrev pub server_part_of : World → ConnNo → Event → Option ServerEvent
server_part_of w c happens = server_part_at c happens (get w.clients c.0) (get w.links c.0)

-- what the server plays of an event, if it plays anything
abbrev pub to_be_served : World → Event → Option ServerEvent
to_be_served w (event.Connect c hello) = Some (server_event.Opened c)
to_be_served w (event.ToServer c salt) = server_part_of w c (event.ToServer c salt)
to_be_served w (event.FromServer c) = server_part_of w c (event.FromServer c)
to_be_served w (event.Work c r) = server_part_of w c (event.Work c r)
to_be_served w (event.Cut c) = server_part_of w c (event.Cut c)
to_be_served w (event.Ends c) = server_part_of w c (event.Ends c)
to_be_served w event.Halt = Some server_event.Halt
to_be_served w _ = None

-- whether there is memory matters for work alone
abbrev pub memory_for : Bool → ServerEvent → Bool
memory_for memory (server_event.Work c r) = memory
memory_for memory _ = true

-- what the server plays, and what it answers
abbrev pub exchanged : Bool → World → Option ServerEvent → List Exchange
exchanged memory w None = []
exchanged memory w (Some e) = record { event = e; reply = (server.played (memory_for memory e) w.rump e).0 } ∷ []

-- a move is made
abbrev pub step : History → Move → History
step h move = record {
  world = (played move.memory h.world move.happens).1;
  log = record { event = move.happens; reply = (played move.memory h.world move.happens).0 } ∷ h.log;
  exchanges = h.exchanges ++ exchanged move.memory h.world (to_be_served h.world move.happens);
}

-- moves are made one after another
abbrev pub run : History → List Move → History
run h [] = h
run h (move ∷ moves) = run (step h move) moves

-- nothing happened yet
abbrev pub fresh_history : Version → History
fresh_history version = record { world = fresh_world version; log = []; exchanges = [] }

-- what a guest may do: it greets under a name that a frame can carry, and asks for calls that the server takes by now
abbrev pub IsFitEvent : Event → Type 0
IsFitEvent (event.Connect c hello) = HasName hello
IsFitEvent (event.Start c caller call mem) = IsProper call × (is_later_call (call_number call) ≡ false)
IsFitEvent _ = ⊤

abbrev pub IsFit : Move → Type 0
IsFit move = IsFitEvent move.happens
