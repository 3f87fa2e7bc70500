-- The machine of the world: what is answered to an event, and what the world is after it.
use Rattle.std.specs.Prelude.{ℕ, ◌+◌, Bool, true, false, List, [], ◌∷◌, ◌++◌, Option, None, Some, if◌then◌else◌}
use Rattle.std.specs.FinMap.{get, insert, remove}
use Rattle.sp_base.specs.declared.names.ConnNo.{ConnNo}
use Rattle.sp_base.specs.declared.names.ReqNo.{ReqNo}
use Rattle.sp_frames.specs.declared.frame.Frame.{Frame}
use Rattle.hub_model.specs.Machine as server
use Rattle.hub_model.specs.State as server_state
use Rattle.hub_model.specs.declared.event.Event.TheVariants as server_event
use Rattle.hub_model.specs.declared.event.Finish.TheVariants.{Clean}
use Rattle.hub_model.specs.declared.event.Reply.{Reply as ServerReply}
use Rattle.hub_model.specs.declared.event.Reply.TheVariants as server_reply
use Rattle.client_model.specs.Machine as client
use Rattle.client_model.specs.State.{Client, fresh_client}
use Rattle.client_model.specs.State as client_state
use Rattle.client_model.specs.declared.event.Event.{Event as ClientEvent}
use Rattle.client_model.specs.declared.event.Event.TheVariants as client_event
use Rattle.client_model.specs.declared.event.Hello.{Hello}
use Rattle.client_model.specs.declared.event.Reply.{Reply as ClientReply}
use Rattle.client_model.specs.declared.event.Reply.TheVariants as client_reply
use Rattle.world_model.specs.Host.{host_if, may_ask}
use Rattle.world_model.specs.State.{Link, Played, World, fresh_link, with_client, with_link}
use Rattle.world_model.specs.Still.{is_still}
use Rattle.world_model.specs.declared.event.Event.{Event}
use Rattle.world_model.specs.declared.event.Event.TheVariants as event
use Rattle.world_model.specs.declared.event.Reply.TheVariants as reply

-- ---- what opens and ends

-- the server lets a connection open, or not
abbrev pub connect_by : World → ConnNo → Hello → ServerReply → World
connect_by w c hello server_reply.Nothing = with_link (with_client w c (fresh_client w.rump.version hello)) c fresh_link
connect_by w c hello _ = w

-- a connection opens where the server says so
abbrev pub connect : World → ConnNo → Hello → server_state.Played → Played
connect w c hello p = (reply.Server p.0, connect_by (record w { rump = p.1 }) c hello p.0)

-- a broken link has no frames under way, and one fault more
abbrev pub cut_link : Link → Link
cut_link l = record { up = []; down = []; faults = l.faults + 1 }

-- the link of a connection breaks: the server and the client learn of it
abbrev pub cut : World → ConnNo → Client → Link → Played
cut w c k l = (
  reply.Moved,
  with_link (with_client (record w { rump = (server.played true w.rump (server_event.Lost c)).1 }) c (client.played k client_event.Gone).1) c (cut_link l),
)

-- a link over which nothing goes any more
abbrev pub emptied : Link → Link
emptied l = record l { up = []; down = [] }

-- a guest closes its connection: it is there no more
abbrev pub close : World → ConnNo → Link → server_state.Played → Played
close w c l p = (reply.Server p.0, with_link (record w { rump = p.1; clients = remove w.clients c.0 }) c (emptied l))

-- ---- what a client plays

-- the client plays an event
abbrev pub client_plays : World → ConnNo → client_state.Played → Played
client_plays w c p = (reply.Client p.0, with_client w c p.1)

-- ---- how frames move

-- the client hands out its oldest frame, which is then under way to the server
abbrev pub from_client_by : World → ConnNo → Link → Client → ClientReply → Played
from_client_by w c l k (client_reply.Out f) = (reply.Moved, with_link (with_client w c k) c (record l { up = l.up ++ f ∷ [] }))
from_client_by w c l k _ = (reply.Nothing, w)

abbrev pub from_client : World → ConnNo → Link → client_state.Played → Played
from_client w c l p = from_client_by w c l p.1 p.0

-- the server hands out its oldest frame for a connection, which is then under way to the client
abbrev pub from_server_by : World → ConnNo → Link → server_state.Machine → ServerReply → Played
from_server_by w c l m (server_reply.Out f) = (reply.Moved, with_link (record w { rump = m }) c (record l { down = l.down ++ f ∷ [] }))
from_server_by w c l m _ = (reply.Nothing, w)

abbrev pub from_server : World → ConnNo → Link → server_state.Played → Played
from_server w c l p = from_server_by w c l p.1 p.0

-- the server plays an event
abbrev pub server_plays : World → server_state.Played → Played
server_plays w p = (reply.Server p.0, record w { rump = p.1 })

-- the oldest frame under way to the server comes there
abbrev pub to_server : World → ConnNo → ℕ → Link → List Frame → Played
to_server w c salt l [] = (reply.Nothing, w)
to_server w c salt l (f ∷ frames) = server_plays (with_link w c (record l { up = frames })) (server.played true w.rump (server_event.Frame c f salt))

-- the oldest frame under way to the client comes there
abbrev pub to_client : World → ConnNo → Client → Link → List Frame → Played
to_client w c k l [] = (reply.Nothing, w)
to_client w c k l (f ∷ frames) = client_plays (with_link w c (record l { down = frames })) c (client.played k (client_event.Frame f))

-- ---- every event

-- an event of a connection that is there, with its client and its link; whether there is memory matters where a call would be performed
abbrev pub connection_plays : Bool → World → ConnNo → Client → Link → Event → Played
connection_plays memory w c k l (event.Start d caller call mem) = client_plays w c (client.played k (client_event.Start caller call mem))
connection_plays memory w c k l (event.Prefork d caller want) = client_plays w c (client.played k (client_event.Prefork caller want))
connection_plays memory w c k l (event.Preexec d caller) = client_plays w c (client.played k (client_event.Preexec caller))
connection_plays memory w c k l (event.Collect d r) = client_plays w c (client.played k (client_event.Collect r))
connection_plays memory w c k l (event.FromClient d) = from_client w c l (client.played k client_event.Take)
connection_plays memory w c k l (event.ToServer d salt) = to_server w c salt l l.up
connection_plays memory w c k l (event.Work d r) = server_plays w (server.played memory w.rump (server_event.Work c r))
connection_plays memory w c k l (event.FromServer d) = from_server w c l (server.played true w.rump (server_event.Take c))
connection_plays memory w c k l (event.ToClient d) = to_client w c k l l.down
connection_plays memory w c k l (event.Cut d) = cut w c k l
connection_plays memory w c k l (event.Ends d) = close w c l (server.played true w.rump (server_event.Ended c Clean))
connection_plays memory w c k l _ = (reply.Nothing, w)

-- an event of a connection, which must be there
abbrev pub connection_at : Bool → World → ConnNo → Event → Option Client → Option Link → Played
connection_at memory w c happens (Some k) (Some l) = connection_plays memory w c k l happens
connection_at memory w c happens (Some k) None = (reply.Closed, w)
connection_at memory w c happens None l = (reply.Closed, w)

-- an event of a connection
abbrev pub of_connection : Bool → World → ConnNo → Event → Played
of_connection memory w c happens = connection_at memory w c happens (get w.clients c.0) (get w.links c.0)

-- an event happens
abbrev pub played : Bool → World → Event → Played
played memory w (event.Connect c hello) = connect w c hello (server.played true w.rump (server_event.Opened c))
played memory w (event.Start c caller call mem) = of_connection memory w c (event.Start c caller call mem)
played memory w (event.Prefork c caller want) = of_connection memory w c (event.Prefork c caller want)
played memory w (event.Preexec c caller) = of_connection memory w c (event.Preexec c caller)
played memory w (event.Collect c r) = of_connection memory w c (event.Collect c r)
played memory w (event.ToServer c salt) = of_connection memory w c (event.ToServer c salt)
played memory w (event.FromServer c) = of_connection memory w c (event.FromServer c)
played memory w (event.ToClient c) = of_connection memory w c (event.ToClient c)
played memory w (event.FromClient c) = of_connection memory w c (event.FromClient c)
played memory w (event.Work c r) = of_connection memory w c (event.Work c r)
played memory w (event.Cut c) = of_connection memory w c (event.Cut c)
played memory w (event.Ends c) = of_connection memory w c (event.Ends c)
played memory w (event.Host guest caller pid op mem) = host_if w guest caller pid op mem (may_ask w pid op)
played memory w event.GiveUp = (if is_still w then reply.Still else reply.NotStill, w)
played memory w event.Halt = server_plays w (server.played true w.rump server_event.Halt)
