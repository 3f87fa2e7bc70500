-- Sockets that are named.
use Rattle.std.specs.Prelude.{ℕ, List, Option, None, Some, IsSome, Result, Ok, Err}
use Rattle.sp_base.specs.Table.{at}
use Rattle.socket_model.specs.declared.numbers.SockNo.{SockNo}
use Rattle.socket_model.specs.declared.ruling.SockFault.{SockFault}
use Rattle.socket_model.specs.Socket.{Socket, Sockets}
use Rattle.socket_model.specs.Does.{Does, Tells}

-- the number of a socket, where one is named
abbrev pub number_of : Option SockNo → Option ℕ
number_of None = None
number_of (Some s) = Some s.0

-- a socket that is named is there
abbrev pub IsThere : List (Option Socket) → Option SockNo → Type 0
IsThere sockets None = Unit {0}
IsThere sockets (Some s) = IsSome (at sockets s.0)

-- a function that gives a socket tells what the call does, which answers the socket's number
abbrev pub TellsNumber : Result SockNo SockFault → Does ℕ → Sockets → Sockets → Type 0
TellsNumber (Ok s) does old new = Tells (Ok s.0) does old new
TellsNumber (Err fault) does old new = Tells (Err fault) does old new
