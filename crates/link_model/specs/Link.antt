-- A link between a client and a server, and the moves that are made on it.
use Rattle.std.specs.Prelude.{ℕ, true, List, [], ◌∷◌, Option, None, Some}
use Rattle.sp_base.specs.declared.names.ConnNo.{ConnNo}
use Rattle.hub_model.specs.Machine as server
use Rattle.hub_model.specs.State.{Machine}
use Rattle.hub_model.specs.State as server_state
use Rattle.hub_model.specs.declared.event.Event.TheVariants as server_event
use Rattle.hub_model.specs.declared.event.Reply.{Reply as ServerReply}
use Rattle.hub_model.specs.declared.event.Reply.TheVariants as server_reply
use Rattle.client_model.specs.Machine as client
use Rattle.client_model.specs.State.{Client}
use Rattle.client_model.specs.State as client_state
use Rattle.client_model.specs.declared.event.Event.TheVariants as client_event
use Rattle.client_model.specs.declared.event.Reply.{Reply as ClientReply}
use Rattle.client_model.specs.declared.event.Reply.TheVariants as client_reply
use Rattle.link_model.specs.declared.moves.Move.{Move}
use Rattle.link_model.specs.declared.moves.Move.TheVariants.{ToServer, ToClient, Work}

-- a client, a server, and the number of the connection between them
pub record Link : Type 0 where
  pub client : Client
  pub server : Machine
  pub conn : ConnNo

-- a link after a move, and what the side answered that the move came to, if it came to one
pub record Made : Type 0 where
  pub link : Link
  pub server : Option ServerReply
  pub client : Option ClientReply

-- the server plays an event
abbrev pub server_plays : Link → server_state.Played → Made
server_plays link p = record { link = record link { server = p.1 }; server = Some p.0; client = None }

-- the client plays an event
abbrev pub client_plays : Link → client_state.Played → Made
client_plays link p = record { link = record link { client = p.1 }; server = None; client = Some p.0 }

-- what the client handed out comes to the server, with a salt for the cookie that it makes; nothing comes where it handed out no frame
abbrev pub to_server_with : Link → ℕ → ClientReply → Made
to_server_with link salt (client_reply.Out f) = server_plays link (server.played true link.server (server_event.Frame link.conn f salt))
to_server_with link salt _ = record { link = link; server = None; client = None }

-- what the server handed out comes to the client; nothing comes where it handed out no frame
abbrev pub to_client : Link → ServerReply → Made
to_client link (server_reply.Out f) = client_plays link (client.played link.client (client_event.Frame f))
to_client link _ = record { link = link; server = None; client = None }

-- the client hands out its oldest frame, which comes to the server with a salt
abbrev pub client_hands_with : Link → ℕ → client_state.Played → Made
client_hands_with link salt p = to_server_with (record link { client = p.1 }) salt p.0

-- the server hands out the oldest frame of the connection
abbrev pub server_hands : Link → server_state.Played → Made
server_hands link p = to_client (record link { server = p.1 }) p.0

-- the client's oldest frame goes to the server, with a salt for the cookie that it makes
abbrev pub sent : Link → ℕ → Made
sent link salt = client_hands_with link salt (client.played link.client client_event.Take)

-- what the client handed out comes to the server; a frame that makes no cookie uses no salt
abbrev pub to_server : Link → ClientReply → Made
to_server link answer = to_server_with link 0 answer

-- the client hands out its oldest frame
abbrev pub client_hands : Link → client_state.Played → Made
client_hands link p = client_hands_with link 0 p

-- a move is made
abbrev pub made : Link → Move → Made
made link ToServer = sent link 0
made link ToClient = server_hands link (server.played true link.server (server_event.Take link.conn))
made link (Work r) = server_plays link (server.played true link.server (server_event.Work link.conn r))

-- moves are made one after another
abbrev pub carried : Link → List Move → Link
carried link [] = link
carried link (move ∷ moves) = carried (made link move).link moves
