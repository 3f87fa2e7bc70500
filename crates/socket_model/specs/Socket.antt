-- Sockets by number, with the channels between them.
use Rattle.std.specs.Prelude.{ℕ, Bool, true, false, List, [], ◌∷◌, Option, None, Some, slice_set}
use Rattle.sp_base.specs.Table.{at}
use Rattle.socket_model.specs.declared.address.Address.{Address}
use Rattle.socket_model.specs.declared.address.Address.TheVariants.{Unnamed, Path, Inet}
use Rattle.socket_model.specs.declared.address.Family.{Family}
use Rattle.socket_model.specs.declared.address.Family.TheVariants.{Local}
use Rattle.socket_model.specs.declared.address.SockKind.{SockKind}
use Rattle.socket_model.specs.declared.address.SockKind.TheVariants.{Stream, Datagram}
use Rattle.socket_model.specs.Channel.{Channel}

-- a socket: its address, `Unnamed` where it isn't bound; its peer's address where it is connected; how many connections
-- may wait where it listens, and the sockets that wait to be accepted, the oldest first; the channel that it reads from
-- and the one that it writes to, each until that end is shut
pub record Socket : Type 0 where
  pub family : Family
  pub kind : SockKind
  pub address : Address
  pub peer : Option Address
  pub backlog : Option ℕ
  pub queue : List ℕ
  pub reads : Option ℕ
  pub writes : Option ℕ

-- the sockets and the channels by number. A number is how many were made before, so that no number comes again: the
-- next one is the length of the table
pub record Sockets : Type 0 where
  pub sockets : List (Option Socket)
  pub channels : List (Option Channel)

-- a socket that is neither bound, connected nor listening, and has no channel
abbrev pub new_socket : Family → SockKind → Socket
new_socket family kind = record { family = family; kind = kind; address = Unnamed; peer = None; backlog = None; queue = []; reads = None; writes = None }

-- a socket, a new one where there is none
abbrev pub socket_in : Option Socket → Socket
socket_in None = new_socket Local Stream
socket_in (Some x) = x

-- the socket of a number
abbrev pub socket_of : Sockets → ℕ → Socket
socket_of s i = socket_in (at s.sockets i)

-- the sockets with another one at a number
abbrev pub with_socket : Sockets → ℕ → Socket → Sockets
with_socket s i x = record s { sockets = slice_set s.sockets i (Some x) }

-- a kind is a stream's
abbrev pub is_stream : SockKind → Bool
is_stream Stream = true
is_stream Datagram = false

-- an address is that of a bound socket
abbrev pub is_bound : Address → Bool
is_bound Unnamed = false
is_bound (Path path) = true
is_bound (Inet bytes port) = true

-- an address as an accepted socket has it: an inet one is 127.0.0.1's
abbrev pub accepted_address : Address → Address
accepted_address Unnamed = Unnamed
accepted_address (Path path) = Path path
accepted_address (Inet bytes port) = Inet (127 ∷ 0 ∷ 0 ∷ 1 ∷ []) port
