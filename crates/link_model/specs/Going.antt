-- A process that goes on as its next program, over a new connection.
use Rattle.std.specs.Prelude.{◌≡◌, ◌≢◌, ℕ, ◌+◌, true, false, None, Some, List, [], ◌∷◌, ◌++◌}
use Rattle.std.specs.FinMap.{get, empty}
use Rattle.sp_base.specs.declared.names.Caller.{Caller}
use Rattle.sp_base.specs.declared.names.ConnNo.{ConnNo}
use Rattle.sp_base.specs.declared.names.Cookie.{Cookie}
use Rattle.sp_base.specs.declared.names.ReqNo.{ReqNo}
use Rattle.sp_fork.specs.Jar.{is_full}
use Rattle.sp_frames.specs.declared.version.Version.{Version}
use Rattle.kern_model.specs.Journal.{next_entry}
use Rattle.kern_model.specs.declared.journal.Entry.{Entry}
use Rattle.kern_model.specs.declared.journal.Who.TheVariants.{Request}
use Rattle.kern_model.specs.declared.operation.Op.TheVariants.{Exec}
use Rattle.hub_model.specs.Cookies.{next_cookie}
use Rattle.hub_model.specs.Journal.{nothing_read}
use Rattle.hub_model.specs.Machine as server
use Rattle.hub_model.specs.Machine.{is_new}
use Rattle.hub_model.specs.declared.event.Event.TheVariants as server_event
use Rattle.hub_model.specs.declared.event.Finish.TheVariants.{Clean}
use Rattle.client_model.specs.Machine as client
use Rattle.client_model.specs.State.{Played, fresh_client}
use Rattle.client_model.specs.declared.event.Event.TheVariants as client_event
use Rattle.client_model.specs.declared.event.Hello.TheVariants.{Image}
use Rattle.link_model.specs.Asked.{IsWhole}
use Rattle.link_model.specs.Link.{Link, carried, sent}
use Rattle.link_model.specs.declared.moves.Move.TheVariants.{ToClient, ToServer}

-- a process that is to go on as its next program, under a name and over a connection of a new number: its link is whole, no cookie is
-- unused, and one can be made, with a salt
pub record Going : Type 0 where
  pub link : Link
  pub whole : IsWhole link
  pub unused : link.server.cookies.unused ≡ empty
  pub room : is_full link.server.cookies ≡ false
  pub caller : Caller
  pub salt : ℕ
  pub version : Version
  pub name : List ℕ
  pub conn : ConnNo
  pub new : is_new link.server.opened conn.0 ≡ true
  pub apart : link.conn.0 ≢ conn.0

-- the number of the request for the cookie
abbrev pub asking_number : Going → ReqNo
asking_number going = record { 0 = going.link.client.last + 1 }

-- the number of the handshake
abbrev pub first_number : ReqNo
first_number = record { 0 = 1 }

-- what the client answers as it asks for the cookie, and the client then
abbrev pub asking : Going → Played
asking going = client.played going.link.client (client_event.Preexec going.caller)

-- the link after the request came to the server, with the salt, and the response to the client
abbrev pub readied : Going → Link
readied going = carried (sent (record going.link { client = (asking going).1 }) going.salt).link (ToClient ∷ [])

-- what the client answers to who collects the cookie, and the client then
abbrev pub collecting_cookie : Going → Played
collecting_cookie going = client.played (readied going).client (client_event.Collect (asking_number going))

-- the cookie
abbrev pub cookie_of : Going → Cookie
cookie_of going = next_cookie going.link.server.cookies going.salt

-- the link over the new connection as it has opened and the next program's client begins
abbrev pub opened : Going → Link
opened going = record {
  client = fresh_client going.version (Image (cookie_of going) going.name);
  server = (server.played true (readied going).server (server_event.Opened going.conn)).1;
  conn = going.conn;
}

-- the link after its handshake came to the server, and the response to the client
abbrev pub greeted : Going → Link
greeted going = carried (opened going) (ToServer ∷ ToClient ∷ [])

-- what the client answers to who collects its handshake, and the client then
abbrev pub collecting_process : Going → Played
collecting_process going = client.played (greeted going).client (client_event.Collect first_number)

-- the link once the handshake was collected and the connection that was left has ended
abbrev pub gone_on : Going → Link
gone_on going = record {
  client = (collecting_process going).1;
  server = (server.played true (greeted going).server (server_event.Ended going.link.conn Clean)).1;
  conn = going.conn;
}

-- the link is whole, for the same process, and its client gave the number 1; the journal has one entry more, the process's exec for
-- the handshake; one cookie more was given, and none is unused; and the connection that was left is over
pub record HasGoneOn (going : Going) (link : Link) : Type 0 where
  pub whole : IsWhole link
  pub process : whole.pid ≡ going.whole.pid
  pub last : link.client.last ≡ 1
  pub entry : Entry
  pub next : next_entry going.link.server.journal going.whole.pid (Request going.conn first_number) Exec nothing_read ≡ Some entry
  pub grown : link.server.journal ≡ going.link.server.journal ++ entry ∷ []
  pub unused : link.server.cookies.unused ≡ empty
  pub given : link.server.cookies.given ≡ going.link.server.cookies.given + 1
  pub opened : link.server.opened ≡ Some going.conn.0
  pub over : get link.server.connections going.link.conn.0 ≡ None
