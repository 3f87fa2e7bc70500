-- What a call does, by the kind of its socket.
use Rattle.std.proofs.Common.{◌≡◌, ℕ, List, Option, None, Some, Bool, is_some, length, refl}
use Rattle.std.specs.Prelude.{Result, if◌then◌else◌}
use Rattle.sp_base.specs.Table.{at}
use Rattle.sp_base.specs.declared.errno.Errno.TheVariants.{Eprototype}
use Rattle.socket_model.specs.declared.address.SockKind.TheVariants.{Stream, Datagram}
use Rattle.socket_model.specs.declared.numbers.SockNo.{SockNo}
use Rattle.socket_model.specs.declared.ruling.Ruling.TheVariants.{Refused}
use Rattle.socket_model.specs.declared.ruling.SockFault.{SockFault}
use Rattle.socket_model.specs.Channel.{Channel}
use Rattle.socket_model.specs.Rulings.{by_refusal}
use Rattle.socket_model.specs.Socket.{Socket, Sockets}
use Rattle.socket_model.specs.SocketRulings.{stream_refusal, letter_refusal, stream_ruling, letter_ruling, letter_through, letter_channel, is_to_stream}
use Rattle.socket_model.specs.Does.{by_ruling, Tells}
use Rattle.socket_model.specs.Calls.{send, sent_bytes, sent_letter}
use Rattle.kern_local.specs.SocketNumbers.{number_of}

pub named_number : (to : Option SockNo) → is_some (number_of to) ≡ is_some to
named_number None = refl
named_number (Some s) = refl

module _ (ss : List (Option Socket)) (cs : List (Option Channel)) (i : ℕ) (x : Socket) (bytes : List ℕ) (to : Option SockNo) (may_wait : Bool) (r : Result ℕ SockFault) (old new : Sockets) where
  -- a send by a stream
  pub stream_tells : at ss i ≡ Some x → x.kind ≡ Stream
      → Tells r (by_ruling (by_refusal (stream_refusal x (is_some to)) (stream_ruling cs x.writes may_wait (length bytes))) (sent_bytes (record { sockets = ss; channels = cs }) x.writes bytes)) old new
      → Tells r (send (record { sockets = ss; channels = cs }) i bytes (number_of to) may_wait) old new
  unfolding stream_refusal
  stream_tells h k t = rw (h, k, named_number to) t

  -- a send by a datagram socket
  pub letter_tells : at ss i ≡ Some x → x.kind ≡ Datagram
      → Tells r (by_ruling (by_refusal (letter_refusal x (is_some to) (length bytes)) (if is_to_stream ss (number_of to) then Refused Eprototype else letter_through cs (letter_channel ss x (number_of to)) (length bytes)))
      (sent_letter (record { sockets = ss; channels = cs }) (letter_channel ss x (number_of to)) (record { sender = x.address; bytes = bytes }))) old new
      → Tells r (send (record { sockets = ss; channels = cs }) i bytes (number_of to) may_wait) old new
  unfolding letter_ruling letter_refusal
  letter_tells h k t = rw (h, k, named_number to) t
