-- What moves over the link between a client and the server.
use Rattle.std.specs.Prelude.{◌≡◌, ◌⊎◌, ℕ, Bool, true, List, [], ◌∷◌, ◌++◌, Option, None, Some, IsSome}
use Rattle.std.specs.FinMap.{get, insert}
use Rattle.sp_base.specs.declared.names.ConnNo.{ConnNo}
use Rattle.sp_frames.specs.declared.frame.Frame.{Frame}
use Rattle.hub_model.specs.Machine as server
use Rattle.hub_model.specs.State.{Machine}
use Rattle.hub_model.specs.declared.event.Event.TheVariants as server_event
use Rattle.hub_model.specs.declared.event.Reply.{Reply as ServerReply}
use Rattle.hub_model.specs.declared.event.Reply.TheVariants as server_reply
use Rattle.client_model.specs.Machine as client
use Rattle.client_model.specs.State.{Client}
use Rattle.client_model.specs.declared.event.Event.{Event as ClientEvent}
use Rattle.client_model.specs.declared.event.Event.TheVariants as client_event
use Rattle.client_model.specs.declared.event.Reply.{Reply as ClientReply}
use Rattle.client_model.specs.declared.event.Reply.TheVariants as client_reply
use Rattle.world_model.specs.Machine.{client_plays, connection_at}
use Rattle.world_model.specs.State.{Link, Played, World}
use Rattle.world_model.specs.declared.event.Event.{Event}
use Rattle.world_model.specs.declared.event.Reply.{Reply}
use Rattle.world_model.specs.declared.event.Reply.TheVariants as reply
use Rattle.sp_world.specs.Happens.{Gives}

-- what is answered, with the link and what is at one end of it then
abbrev pub Moved : Type 0 → Type 0
Moved X = Reply × (Link × X)

-- something moves, or memory was refused and nothing changed
abbrev pub Moves : {X : Type 0} → Moved X → Reply → Link → Link → X → X → Type 0
Moves moved answer l l' x x' = ((answer, (l', x')) ≡ moved) ⊎ ((answer ≡ reply.NoMemory) × (l' ≡ l) × (x' ≡ x))

-- the client hands out its oldest frame, which is then under way to the server
abbrev pub sent_up_by : Link → Client → ClientReply → Client → Moved Client
sent_up_by l k (client_reply.Out f) k' = (reply.Moved, (record l { up = l.up ++ f ∷ [] }, k'))
sent_up_by l k _ k' = (reply.Nothing, (l, k))

abbrev pub sent_up : Link → Client → Moved Client
sent_up l k = sent_up_by l k (client.played k client_event.Take).0 (client.played k client_event.Take).1

-- the server hands out its oldest frame for a connection, which is then under way to the client
abbrev pub sent_down_by : Link → Machine → ServerReply → Machine → Moved Machine
sent_down_by l m (server_reply.Out f) m' = (reply.Moved, (record l { down = l.down ++ f ∷ [] }, m'))
sent_down_by l m _ m' = (reply.Nothing, (l, m))

abbrev pub sent_down : Link → Machine → ConnNo → Moved Machine
sent_down l m c = sent_down_by l m (server.played true m (server_event.Take c)).0 (server.played true m (server_event.Take c)).1

-- the oldest frame under way to the server comes there
abbrev pub brought_up_by : Link → Machine → ConnNo → ℕ → List Frame → Moved Machine
brought_up_by l m c salt [] = (reply.Nothing, (l, m))
brought_up_by l m c salt (f ∷ frames) = (
  reply.Server (server.played true m (server_event.Frame c f salt)).0,
  (record l { up = frames }, (server.played true m (server_event.Frame c f salt)).1),
)

abbrev pub brought_up : Link → Machine → ConnNo → ℕ → Moved Machine
brought_up l m c salt = brought_up_by l m c salt l.up

-- the oldest frame under way to the client comes there
abbrev pub brought_down_by : Link → Client → List Frame → Moved Client
brought_down_by l k [] = (reply.Nothing, (l, k))
brought_down_by l k (f ∷ frames) = (
  reply.Client (client.played k (client_event.Frame f)).0,
  (record l { down = frames }, (client.played k (client_event.Frame f)).1),
)

abbrev pub brought_down : Link → Client → Moved Client
brought_down l k = brought_down_by l k l.down

-- a connection is there, with its client and its link
pub record IsThere (w : World) (c : ConnNo) : Type 0 where
  pub client : IsSome (get w.clients c.0)
  pub link : IsSome (get w.links c.0)

-- a connection isn't there: whatever happens to it is answered Closed, and changes nothing
abbrev pub IsAbsent : World → ConnNo → Type 0
IsAbsent w c = (memory : Bool) (happens : Event)
    → connection_at memory w c happens (get w.clients c.0) (get w.links c.0) ≡ (reply.Closed, w)

-- the client and the link of a connection were taken out: something else stands in their places until they are put back
pub record TakesOut (old : World) (c : ConnNo) (k : Client) (l : Link) (new : World) : Type 0 where
  pub client : get old.clients c.0 ≡ Some k
  pub link : get old.links c.0 ≡ Some l
  pub stays : new ≡ record old { clients = new.clients; links = new.links }
  pub has_client : IsSome (get new.clients c.0)
  pub has_link : IsSome (get new.links c.0)
  pub clients : (k' : Client) → insert new.clients c.0 k' ≡ insert old.clients c.0 k'
  pub links : (l' : Link) → insert new.links c.0 l' ≡ insert old.links c.0 l'
  pub client_back : insert old.clients c.0 k ≡ old.clients
  pub link_back : insert old.links c.0 l ≡ old.links

-- the world's reply where a client answers
abbrev pub of_client : ClientReply → Reply
of_client (client_reply.NoMemory mem) = reply.NoMemory
of_client answer = reply.Client answer

-- the world's reply where the server answers
abbrev pub of_server : ServerReply → Reply
of_server server_reply.NoMemory = reply.NoMemory
of_server answer = reply.Server answer

-- the client of a connection plays an event, where the connection is there
abbrev pub asked_at : World → ConnNo → ClientEvent → Option Client → Option Link → Played
asked_at w c e (Some k) (Some l) = client_plays w c (client.played k e)
asked_at w c e (Some k) None = (reply.Closed, w)
asked_at w c e None l = (reply.Closed, w)

-- the client of a connection plays an event, or memory was refused
abbrev pub Asks : World → ConnNo → ClientEvent → Reply → World → Type 0
Asks old c e answer new = Gives old (asked_at old c e (get old.clients c.0) (get old.links c.0)) answer new
