-- What is true of sockets and their channels at every moment.
use Rattle.std.specs.Prelude.{◌≡◌, ℕ, false, List, Option, None, Some}
use Rattle.sp_base.specs.Table.{at}
use Rattle.socket_model.specs.declared.address.SockKind.{SockKind}
use Rattle.socket_model.specs.declared.address.SockKind.TheVariants.{Stream, Datagram}
use Rattle.socket_model.specs.Channel.{Channel, Bytes, Letters, IsLetters}
use Rattle.socket_model.specs.Socket.{Socket}

-- there is a channel of bytes, and its reading end is open
abbrev pub IsOpenToRead : Option Channel → Type 0
IsOpenToRead None = ⊥
IsOpenToRead (Some (Bytes t)) = t.reading_shut ≡ false
IsOpenToRead (Some (Letters t)) = ⊥

-- there is a channel of bytes, and its writing end is open
abbrev pub IsOpenToWrite : Option Channel → Type 0
IsOpenToWrite None = ⊥
IsOpenToWrite (Some (Bytes t)) = t.writing_shut ≡ false
IsOpenToWrite (Some (Letters t)) = ⊥

-- what a socket reads from: a stream from an open end, a datagram socket from its own letters
abbrev pub ReadsFrom : List (Option Channel) → SockKind → Option ℕ → Type 0
ReadsFrom channels kind None = Unit {0}
ReadsFrom channels Stream (Some c) = IsOpenToRead (at channels c)
ReadsFrom channels Datagram (Some c) = IsLetters (at channels c)

-- what a socket writes to: a stream to an open end; a datagram socket to any channel, which may be gone
abbrev pub WritesTo : List (Option Channel) → SockKind → Option ℕ → Type 0
WritesTo channels kind None = Unit {0}
WritesTo channels Stream (Some c) = IsOpenToWrite (at channels c)
WritesTo channels Datagram (Some c) = Unit {0}

-- the ends that a socket of a kind has: the channel that it reads from, and the one that it writes to
pub record Ends : Type 0 where
  pub kind : SockKind
  pub reads : Option ℕ
  pub writes : Option ℕ

-- the ends of a socket
abbrev pub ends_in : Option Socket → Option Ends
ends_in None = None
ends_in (Some x) = Some (record { kind = x.kind; reads = x.reads; writes = x.writes })

-- the ends of the socket of a number
abbrev pub ends_at : List (Option Socket) → ℕ → Option Ends
ends_at sockets i = ends_in (at sockets i)

-- ends are there
pub record IsLinked (channels : List (Option Channel)) (ends : Ends) : Type 0 where
  pub reads : ReadsFrom channels ends.kind ends.reads
  pub writes : WritesTo channels ends.kind ends.writes

-- ends, where a socket has some, are there
abbrev pub LinkedAt : List (Option Channel) → Option Ends → Type 0
LinkedAt channels None = Unit {0}
LinkedAt channels (Some ends) = IsLinked channels ends

-- the channel that is read from
abbrev pub reads_of : Option Ends → Option ℕ
reads_of None = None
reads_of (Some ends) = ends.reads

-- the channel that a socket of a kind writes to, if it is a stream; many datagram sockets may write to one
abbrev pub stream_writes : SockKind → Option ℕ → Option ℕ
stream_writes Stream writes = writes
stream_writes Datagram writes = None

-- the channel that a stream writes to
abbrev pub writes_of : Option Ends → Option ℕ
writes_of None = None
writes_of (Some ends) = stream_writes ends.kind ends.writes

-- the ends of each socket are there, no two sockets read from one channel, and no two streams write to one
pub record IsSound (ends : ℕ → Option Ends) (channels : List (Option Channel)) : Type 0 where
  pub linked : (i : ℕ) → LinkedAt channels (ends i)
  pub one_reader : (i j c : ℕ) → reads_of (ends i) ≡ Some c → reads_of (ends j) ≡ Some c → i ≡ j
  pub one_writer : (i j c : ℕ) → writes_of (ends i) ≡ Some c → writes_of (ends j) ≡ Some c → i ≡ j
