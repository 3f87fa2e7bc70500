-- A client and a server in one process, as a link.
use Rattle.std.specs.Prelude.{◌≡◌, ◌+◌, Bool}
use Rattle.sp_base.specs.declared.names.ConnNo.{ConnNo}
use Rattle.sp_base.specs.declared.names.ReqNo.{ReqNo}
use Rattle.hub_model.specs.Machine as server
use Rattle.hub_model.specs.declared.event.Event.TheVariants as server_event
use Rattle.hub_model.specs.declared.event.Reply.{Reply as ServerReply}
use Rattle.client_model.specs.Machine as client
use Rattle.client_model.specs.declared.event.Event.{Event as ClientEvent}
use Rattle.client_model.specs.declared.event.Reply.{Reply as ClientReply}
use Rattle.link_model.specs.Link.{Link}
use Rattle.guest_run.specs.declared.joined.Joined.{Joined}

-- the number of the first connection
abbrev pub first_connection : ConnNo
first_connection = record { 0 = 0 }

-- the number behind that of a connection
abbrev pub next_connection : ConnNo → ConnNo
next_connection conn = record { 0 = conn.0 + 1 }

-- the link of a client and a server in one process
abbrev pub link_of : Joined → Link
link_of joined = record { client = joined.client; server = joined.hub; conn = joined.conn }

-- the server works a call, with memory for it or with none, and the client and the connection stay as they are
pub record IsWorked (old : Joined) (r : ReqNo) (answer : ServerReply) (new : Joined) : Type 0 where
  pub memory : Bool
  pub server : (answer, new.hub) ≡ server.played memory old.hub (server_event.Work old.conn r)
  pub client : new.client ≡ old.client
  pub conn : new.conn ≡ old.conn

-- the client plays an event, and the server and the connection stay as they are
pub record IsPlayed (old : Joined) (event : ClientEvent) (answer : ClientReply) (new : Joined) : Type 0 where
  pub client : (answer, new.client) ≡ client.played old.client event
  pub server : new.hub ≡ old.hub
  pub conn : new.conn ≡ old.conn
