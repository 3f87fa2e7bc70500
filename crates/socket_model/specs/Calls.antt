-- What each call on sockets does.
use Rattle.std.specs.Prelude.{ℕ, ◌+◌, Bool, List, [], ◌∷◌, ◌++◌, length, take, min, max, Option, None, Some, slice_set}
use Rattle.sp_base.specs.Table.{at}
use Rattle.socket_model.specs.declared.address.Address.TheVariants.{Unnamed}
use Rattle.socket_model.specs.declared.address.Family.{Family}
use Rattle.socket_model.specs.declared.address.Family.TheVariants.{Local}
use Rattle.socket_model.specs.declared.address.SockKind.{SockKind}
use Rattle.socket_model.specs.declared.address.SockKind.TheVariants.{Stream, Datagram}
use Rattle.socket_model.specs.declared.letter.Letter.{Letter}
use Rattle.socket_model.specs.declared.limits.TheConstants.{BACKLOG}
use Rattle.socket_model.specs.declared.ruling.How.{How}
use Rattle.socket_model.specs.declared.ruling.How.TheVariants.{Reading, Writing, Both}
use Rattle.socket_model.specs.Channel.{Channel, Bytes, Letters, fresh_track, held, with_put, with_taken, bytes_in, letters_in, set_bytes, set_letters, with_bytes, with_letters, shut_end}
use Rattle.socket_model.specs.Socket.{Socket, Sockets, new_socket, socket_of, with_socket, accepted_address}
use Rattle.socket_model.specs.SocketRulings.{send_ruling, letter_channel, receive_ruling, listen_ruling, accept_ruling, connect_ruling, shutdown_ruling}
use Rattle.socket_model.specs.Does.{Does, Waiting, Answers, by_ruling}

-- ---- making

-- the sockets with one more, whose number is the length of the table before
abbrev pub add_socket : Sockets → Socket → Sockets
add_socket s x = record s { sockets = s.sockets ++ Some x ∷ [] }

-- the sockets with a new one; a datagram socket has a channel of its own
abbrev pub make_socket : Sockets → Family → SockKind → Sockets
make_socket s family Stream = add_socket s (new_socket family Stream)
make_socket s family Datagram =
    add_socket (record s { channels = with_letters s.channels }) (record (new_socket family Datagram) { reads = Some (length s.channels) })

-- a local socket that is connected to an unnamed one
abbrev pub paired_socket : SockKind → ℕ → ℕ → Socket
paired_socket kind reads writes = record (new_socket Local kind) { peer = Some Unnamed; reads = Some reads; writes = Some writes }

-- a new channel for sockets of a kind
abbrev pub new_channel : SockKind → Channel
new_channel Stream = Bytes fresh_track
new_channel Datagram = Letters fresh_track

-- the channels with two new ones
abbrev pub two_channels : SockKind → List (Option Channel) → List (Option Channel)
two_channels kind channels = (channels ++ Some (new_channel kind) ∷ []) ++ Some (new_channel kind) ∷ []

-- the sockets with two new ones that are connected to each other
abbrev pub make_pair : Sockets → SockKind → Sockets
make_pair s kind =
    let c = length s.channels in
    add_socket (add_socket (record s { channels = two_channels kind s.channels }) (paired_socket kind c (c + 1))) (paired_socket kind (c + 1) c)

-- ---- sending and receiving

-- the first n bytes went through a stream
abbrev pub sent_bytes : Sockets → Option ℕ → List ℕ → ℕ → Does ℕ
sent_bytes s None bytes n = Answers n s
sent_bytes s (Some c) bytes n = Answers n (record s { channels = set_bytes s.channels c (with_put (bytes_in (at s.channels c)) (take n bytes)) })

-- a letter went to a channel
abbrev pub sent_letter : Sockets → Option ℕ → Letter → ℕ → Does ℕ
sent_letter s None letter n = Answers n s
sent_letter s (Some c) letter n = Answers n (record s { channels = set_letters s.channels c (with_put (letters_in (at s.channels c)) (letter ∷ [])) })

-- n bytes were sent by a socket
abbrev pub sent : Sockets → Socket → SockKind → Option ℕ → List ℕ → ℕ → Does ℕ
sent s x Stream to bytes n = sent_bytes s x.writes bytes n
sent s x Datagram to bytes n = sent_letter s (letter_channel s.sockets x to) (record { sender = x.address; bytes = bytes }) n

-- a send of bytes by a socket, to another one where an address is named
abbrev pub send : Sockets → ℕ → List ℕ → Option ℕ → Bool → Does ℕ
send s i bytes to may_wait =
    let x = socket_of s i in
    by_ruling (send_ruling s x to may_wait (length bytes)) (sent s x x.kind to bytes)

-- the oldest n bytes of a stream's channel were read; they have no sender
abbrev pub received_bytes : Sockets → Option ℕ → ℕ → Does Letter
received_bytes s None n = Answers (record { sender = Unnamed; bytes = [] }) s
received_bytes s (Some c) n =
    let bytes = take n (held (bytes_in (at s.channels c))) in
    Answers (record { sender = Unnamed; bytes = bytes }) (record s { channels = set_bytes s.channels c (with_taken (bytes_in (at s.channels c)) (length bytes)) })

-- the oldest of some letters was taken, its bytes cut to `most` and the rest lost
abbrev pub fetched : Sockets → ℕ → ℕ → List Letter → Does Letter
fetched s c most [] = Waiting
fetched s c most (letter ∷ more) =
    Answers (record letter { bytes = take most letter.bytes }) (record s { channels = set_letters s.channels c (with_taken (letters_in (at s.channels c)) 1) })

-- a letter was taken from a socket's channel
abbrev pub received_letter : Sockets → Option ℕ → ℕ → Does Letter
received_letter s None most = Answers (record { sender = Unnamed; bytes = [] }) s
received_letter s (Some c) most = fetched s c most (take 1 (held (letters_in (at s.channels c))))

-- n bytes, or a letter of which at most `most` bytes stay, were received by a socket
abbrev pub received : Sockets → Socket → SockKind → ℕ → ℕ → Does Letter
received s x Stream most n = received_bytes s x.reads n
received s x Datagram most n = received_letter s x.reads most

-- a receive of at most so many bytes
abbrev pub receive : Sockets → ℕ → ℕ → Does Letter
receive s i most =
    let x = socket_of s i in
    by_ruling (receive_ruling s.channels x most) (received s x x.kind most)

-- ---- connections

-- how many connections may wait, for what a listen asks
abbrev pub backlog_of : ℕ → ℕ
backlog_of asked = max 1 (min asked BACKLOG)

-- a listen
abbrev pub listen : Sockets → ℕ → ℕ → Does (Unit {0})
listen s i asked =
    let x = socket_of s i in
    by_ruling (listen_ruling x) (λ n. Answers tt (with_socket s i (record x { backlog = Some (backlog_of asked) })))

-- the oldest of the connections that wait is taken
abbrev pub accepted : Sockets → ℕ → Socket → List ℕ → Does ℕ
accepted s i x [] = Waiting
accepted s i x (j ∷ queue) = Answers j (with_socket s i (record x { queue = queue }))

-- an accept
abbrev pub accept : Sockets → ℕ → Does ℕ
accept s i =
    let x = socket_of s i in
    by_ruling (accept_ruling x) (λ n. accepted s i x x.queue)

-- the socket that a connection from x to the listening y waits as
abbrev pub accepted_socket : Socket → Socket → ℕ → ℕ → Socket
accepted_socket x y reads writes =
    record (new_socket y.family Stream) { address = accepted_address y.address; peer = Some x.address; reads = Some reads; writes = Some writes }

-- a stream was connected: there are two channels more, and a socket that waits to be accepted
abbrev pub connected_stream : Sockets → ℕ → Socket → ℕ → Socket → Sockets
connected_stream s i x j y =
    let c = length s.channels in
    let added = add_socket (record s { channels = with_bytes (with_bytes s.channels) }) (accepted_socket x y c (c + 1)) in
    let waiting = with_socket added j (record y { queue = y.queue ++ length s.sockets ∷ [] }) in
    with_socket waiting i (record x { peer = Some y.address; reads = Some (c + 1); writes = Some c })

-- a socket was connected
abbrev pub connected : Sockets → ℕ → Socket → SockKind → ℕ → Socket → Sockets
connected s i x Stream j y = connected_stream s i x j y
connected s i x Datagram j y = with_socket s i (record x { peer = Some y.address; writes = y.reads })

-- a connect to another socket
abbrev pub connect : Sockets → ℕ → ℕ → Does (Unit {0})
connect s i j =
    let x = socket_of s i in
    let y = socket_of s j in
    by_ruling (connect_ruling x y) (λ n. Answers tt (connected s i x x.kind j y))

-- ---- ending

-- the channels after an end, or both, of the one that a socket has, if it has one
abbrev pub shut_link : List (Option Channel) → Option ℕ → How → List (Option Channel)
shut_link channels None how = channels
shut_link channels (Some c) how = shut_end channels c how

-- a stream no longer reads
abbrev pub without_reading : Sockets → ℕ → Sockets
without_reading s i =
    let x = socket_of s i in
    with_socket (record s { channels = shut_link s.channels x.reads Reading }) i (record x { reads = None })

-- a stream no longer writes
abbrev pub without_writing : Sockets → ℕ → Sockets
without_writing s i =
    let x = socket_of s i in
    with_socket (record s { channels = shut_link s.channels x.writes Writing }) i (record x { writes = None })

-- the sockets after an end of one, or both, were shut
abbrev pub without_end : Sockets → ℕ → How → Sockets
without_end s i Reading = without_reading s i
without_end s i Writing = without_writing s i
without_end s i Both = without_writing (without_reading s i) i

-- a shutdown
abbrev pub shutdown : Sockets → ℕ → How → Does (Unit {0})
shutdown s i how = by_ruling (shutdown_ruling (socket_of s i)) (λ n. Answers tt (without_end s i how))

-- the channels that a socket leaves: a stream shuts its ends of two, a datagram socket takes its own away
abbrev pub left_channels : List (Option Channel) → SockKind → Option ℕ → Option ℕ → List (Option Channel)
left_channels channels Stream reads writes = shut_link (shut_link channels reads Reading) writes Writing
left_channels channels Datagram reads writes = shut_link channels reads Both

-- the sockets without one
abbrev pub without_socket : Sockets → ℕ → Option Socket → Sockets
without_socket s i None = s
without_socket s i (Some x) = record { sockets = slice_set s.sockets i None; channels = left_channels s.channels x.kind x.reads x.writes }

-- the sockets without some, one after the other
unfoldable pub close_all : Sockets → List ℕ → Sockets
close_all s [] = s
close_all s (i ∷ is) = close_all (without_socket s i (at s.sockets i)) is

-- the sockets after a close, which also closes the connections that wait to be accepted
abbrev pub close : Sockets → ℕ → Sockets
close s i = close_all s (i ∷ (socket_of s i).queue)
