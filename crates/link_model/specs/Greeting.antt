-- A guest that greets a server over a connection that has just opened.
use Rattle.std.specs.Prelude.{◌≡◌, ℕ, true, false, IsSome, List, [], ◌∷◌, ◌++◌, Some}
use Rattle.sp_base.specs.Table.{lowest_unused}
use Rattle.sp_base.specs.declared.limits.TheConstants.{FIRST_PROCESS}
use Rattle.sp_base.specs.declared.names.ConnNo.{ConnNo}
use Rattle.sp_frames.specs.declared.version.Version.{Version}
use Rattle.kern_model.specs.Journal.{state_after, next_entry}
use Rattle.kern_model.specs.declared.journal.Entry.{Entry}
use Rattle.kern_model.specs.declared.journal.Who.TheVariants.{Request}
use Rattle.kern_model.specs.declared.operation.Op.TheVariants.{Attach}
use Rattle.hub_model.specs.Journal.{nothing_read}
use Rattle.hub_model.specs.Machine as server
use Rattle.hub_model.specs.Machine.{is_new}
use Rattle.hub_model.specs.Requests.{no_process}
use Rattle.hub_model.specs.State.{Machine}
use Rattle.hub_model.specs.declared.event.Event.TheVariants as server_event
use Rattle.client_model.specs.State.{fresh_client}
use Rattle.client_model.specs.declared.event.Hello.TheVariants.{Guest}
use Rattle.link_model.specs.Asked.{IsWhole}
use Rattle.link_model.specs.Link.{Link}

-- a guest's greeting of a server that hasn't halted and has room for a process, over a connection of a new number
pub record Greeting : Type 0 where
  pub version : Version
  pub name : List ℕ
  pub server : Machine
  pub serves : server.halted ≡ false
  pub conn : ConnNo
  pub new : is_new server.opened conn.0 ≡ true
  pub room : IsSome (lowest_unused (state_after server.journal).processes FIRST_PROCESS)

-- the link as the connection has opened and the client begins
abbrev pub opened : Greeting → Link
opened greeting = record {
  client = fresh_client greeting.version (Guest greeting.name);
  server = (server.played true greeting.server (server_event.Opened greeting.conn)).1;
  conn = greeting.conn;
}

-- the link is whole, for the process that the greeting's one entry made, its connection is the last one that opened, the server's
-- cookies are as they were, and the client gave the number 1
pub record IsGreeted (greeting : Greeting) (link : Link) : Type 0 where
  pub whole : IsWhole link
  pub entry : Entry
  pub next : next_entry greeting.server.journal no_process (Request greeting.conn (record { 0 = 1 })) Attach nothing_read ≡ Some entry
  pub grown : link.server.journal ≡ greeting.server.journal ++ entry ∷ []
  pub process : whole.pid.0 ≡ entry.outcome.ret0
  pub conn : link.conn ≡ greeting.conn
  pub opened : link.server.opened ≡ Some greeting.conn.0
  pub cookies : link.server.cookies ≡ greeting.server.cookies
  pub last : link.client.last ≡ 1
