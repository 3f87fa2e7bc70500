-- What a call on a socket comes to, and what a poll tells of it.
use Rattle.std.specs.Prelude.{ℕ, ◌==◌, nat_le, nat_lt, Bool, true, false, not, ◌&&◌, ◌||◌, List, length, Option, None, Some, is_some, is_none, if◌then◌else◌}
use Rattle.sp_base.specs.Table.{at}
use Rattle.sp_base.specs.declared.errno.Errno.{Errno}
use Rattle.sp_base.specs.declared.errno.Errno.TheVariants.{Einval, Epipe, Edestaddrreq, Emsgsize, Eprototype, Eopnotsupp, Eisconn, Enotconn, Econnrefused}
use Rattle.socket_model.specs.declared.address.SockKind.{SockKind}
use Rattle.socket_model.specs.declared.address.SockKind.TheVariants.{Stream, Datagram}
use Rattle.socket_model.specs.declared.limits.TheConstants.{LETTER_BYTES}
use Rattle.socket_model.specs.declared.ruling.Ready.{Ready}
use Rattle.socket_model.specs.declared.ruling.Ruling.{Ruling}
use Rattle.socket_model.specs.declared.ruling.Ruling.TheVariants.{Refused, Waits, Goes}
use Rattle.socket_model.specs.Channel.{Channel, Bytes, Letters, held, room, bytes_in, letters_in}
use Rattle.socket_model.specs.Rulings.{by_refusal, put_ruling, least_of_stream, take_ruling, post_ruling, fetch_ruling}
use Rattle.socket_model.specs.Socket.{Socket, Sockets, socket_in, is_stream, is_bound}

-- ---- sending

-- why a stream doesn't send, whatever its channel; an address may be named
unfoldable pub stream_refusal : Socket → Bool → Option Errno
stream_refusal x named =
    if named && is_some x.peer then Some Eisconn
    else if is_none x.peer then Some Enotconn
    else None

-- why a letter of n bytes isn't sent, whatever its target; an address may be named
unfoldable pub letter_refusal : Socket → Bool → ℕ → Option Errno
letter_refusal x named n =
    if named && is_some x.peer then Some Eisconn
    else if not named && is_none x.peer then Some Edestaddrreq
    else if nat_lt LETTER_BYTES n then Some Emsgsize
    else None

-- why n bytes aren't sent, whatever the target; an address may be named
abbrev pub send_refusal : Socket → Bool → ℕ → Option Errno
send_refusal x named n = if is_stream x.kind then stream_refusal x named else letter_refusal x named n

-- n bytes are to go through a connected stream
abbrev pub stream_ruling : List (Option Channel) → Option ℕ → Bool → ℕ → Ruling
stream_ruling channels None may_wait n = Refused Epipe
stream_ruling channels (Some c) may_wait n =
    let t = bytes_in (at channels c) in
    put_ruling t.reading_shut (room t) (least_of_stream may_wait n) n

-- how many bytes fit through a connected stream, none where its writing end is shut
abbrev pub stream_room : List (Option Channel) → Option ℕ → ℕ
stream_room channels None = 0
stream_room channels (Some c) = room (bytes_in (at channels c))

-- the channel of a letter: its target's, or, where no address is named, that of the socket that it is connected to
abbrev pub letter_channel : List (Option Socket) → Socket → Option ℕ → Option ℕ
letter_channel sockets x None = x.writes
letter_channel sockets x (Some to) = (socket_in (at sockets to)).reads

-- a letter of n bytes is to go to a channel, which is gone where its socket was closed
abbrev pub letter_into : Option Channel → ℕ → Ruling
letter_into None n = Refused Econnrefused
letter_into (Some (Bytes t)) n = Refused Econnrefused
letter_into (Some (Letters t)) n = post_ruling (length (held t)) n

-- a letter of n bytes is to go to the channel of a number
abbrev pub letter_through : List (Option Channel) → Option ℕ → ℕ → Ruling
letter_through channels None n = Refused Econnrefused
letter_through channels (Some c) n = letter_into (at channels c) n

-- the target that is named is a stream
abbrev pub is_to_stream : List (Option Socket) → Option ℕ → Bool
is_to_stream sockets None = false
is_to_stream sockets (Some to) = is_stream (socket_in (at sockets to)).kind

-- a letter of n bytes is to go to a target
unfoldable pub letter_ruling : Sockets → Socket → Option ℕ → ℕ → Ruling
letter_ruling s x to n =
    if is_to_stream s.sockets to then Refused Eprototype
    else letter_through s.channels (letter_channel s.sockets x to) n

-- n bytes are to be sent by a socket, to another one where an address is named
abbrev pub send_ruling : Sockets → Socket → Option ℕ → Bool → ℕ → Ruling
send_ruling s x to may_wait n =
    by_refusal (send_refusal x (is_some to) n)
    (if is_stream x.kind then stream_ruling s.channels x.writes may_wait n else letter_ruling s x to n)

-- ---- receiving

-- at most n bytes are to come through a connected stream
abbrev pub bytes_ruling : List (Option Channel) → Option ℕ → ℕ → Ruling
bytes_ruling channels None n = Goes 0
bytes_ruling channels (Some c) n =
    let t = bytes_in (at channels c) in
    take_ruling (length (held t)) t.writing_shut n

-- a letter is to come
abbrev pub letters_ruling : List (Option Channel) → Option ℕ → Ruling
letters_ruling channels None = Goes 0
letters_ruling channels (Some c) = fetch_ruling (length (held (letters_in (at channels c))))

-- a stream is to receive at most n bytes
unfoldable pub stream_receive_ruling : List (Option Channel) → Socket → ℕ → Ruling
stream_receive_ruling channels x n =
    if is_none x.peer then Refused Enotconn
    else bytes_ruling channels x.reads n

-- a socket is to receive at most n bytes, or a letter
abbrev pub receive_ruling : List (Option Channel) → Socket → ℕ → Ruling
receive_ruling channels x n = if is_stream x.kind then stream_receive_ruling channels x n else letters_ruling channels x.reads

-- ---- connections

-- a socket is to listen
unfoldable pub listen_ruling : Socket → Ruling
listen_ruling x =
    if not (is_stream x.kind) then Refused Eopnotsupp
    else if not (is_bound x.address) then Refused Edestaddrreq
    else if is_some x.peer then Refused Einval
    else Goes 0

-- a connection is to be accepted
unfoldable pub accept_ruling : Socket → Ruling
accept_ruling x =
    if not (is_stream x.kind) then Refused Eopnotsupp
    else if is_none x.backlog then Refused Einval
    else if length x.queue == 0 then Waits
    else Goes 0

-- why a socket isn't connected, whatever the target
unfoldable pub connect_refusal : Socket → Option Errno
connect_refusal x =
    if is_some x.backlog then Some Eopnotsupp
    else if is_stream x.kind && is_some x.peer then Some Eisconn
    else None

-- another connection is to wait where so many do
abbrev pub backlog_ruling : Option ℕ → ℕ → Ruling
backlog_ruling None count = Refused Econnrefused
backlog_ruling (Some most) count = if nat_le most count then Refused Econnrefused else Goes 0

-- a socket of a kind is to be connected to a target
unfoldable pub target_ruling : SockKind → Socket → Ruling
target_ruling Stream y = if not (is_stream y.kind) then Refused Eprototype else backlog_ruling y.backlog (length y.queue)
target_ruling Datagram y = if is_stream y.kind then Refused Eprototype else Goes 0

-- a socket is to be connected to another one
abbrev pub connect_ruling : Socket → Socket → Ruling
connect_ruling x y = by_refusal (connect_refusal x) (target_ruling x.kind y)

-- an end of a socket, or both, are to be shut
unfoldable pub shutdown_ruling : Socket → Ruling
shutdown_ruling x =
    if not (is_stream x.kind) then Refused Eopnotsupp
    else if is_none x.peer then Refused Enotconn
    else Goes 0

-- ---- poll

-- there are bytes to read, or reading has ended
abbrev pub is_readable : List (Option Channel) → Option ℕ → Bool
is_readable channels None = true
is_readable channels (Some c) =
    let t = bytes_in (at channels c) in
    not (length (held t) == 0) || t.writing_shut

-- a byte fits, or writing has ended
abbrev pub is_writable : List (Option Channel) → Option ℕ → Bool
is_writable channels None = true
is_writable channels (Some c) =
    let t = bytes_in (at channels c) in
    not (room t == 0) || t.reading_shut

-- a letter waits
abbrev pub has_letter : List (Option Channel) → Option ℕ → Bool
has_letter channels None = false
has_letter channels (Some c) = not (length (held (letters_in (at channels c))) == 0)

-- what a poll tells of a stream: a listening one is readable with a connection that waits, one that isn't connected is
-- ready for nothing
unfoldable pub stream_ready : List (Option Channel) → Socket → Ready
stream_ready channels x =
    if is_some x.backlog then record { readable = not (length x.queue == 0); writable = false; error = false; hangup = false }
    else if is_some x.peer then record { readable = is_readable channels x.reads; writable = is_writable channels x.writes; error = false; hangup = false }
    else record { readable = false; writable = false; error = false; hangup = false }

-- what a poll tells of a socket
abbrev pub socket_ready : List (Option Channel) → Socket → Ready
socket_ready channels x =
    if is_stream x.kind then stream_ready channels x
    else record { readable = has_letter channels x.reads; writable = true; error = false; hangup = false }
