use Rattle.std.proofs.Common.{◌≡◌, ◌∙◌, Some, sym, ap}
use Rattle.std.specs.Option.{option_copied}
use Rattle.sp_base.specs.Table.{at}
use Rattle.socket_model.specs.Socket.{Socket}
use Rattle.kern_local.proofs.SocketLemmas.{stream_tells, letter_tells}
use Rattle.kern_local.proofs.socks.send.send_in.Goals as goal

pub returns-in-Stream-clause-tells : goal.returns-in-Stream-clause-tells
returns-in-Stream-clause-tells c =
    let here : at c.args.socks.now.items c.args.s.0 ≡ Some c.in-Some.sock.now = sym c.get.ensures ∙ ap option_copied c.in-Some.is in
    stream_tells c.args.socks.now.items c.args.chans.now c.args.s.0 c.in-Some.sock.now c.args.bytes.now c.args.to c.args.may_wait _ _ _ here (ap (λ (x : Socket). x.kind) (sym c.sock.view_is) ∙ c.in-Stream.is) (rw c.is_some.ensures at (c.send_bytes.ensures.tells c.args.socks.now.items))

pub returns-in-Datagram-clause-tells : goal.returns-in-Datagram-clause-tells
returns-in-Datagram-clause-tells c =
    let here : at c.args.socks.now.items c.args.s.0 ≡ Some c.in-Some.sock.now = sym c.get.ensures ∙ ap option_copied c.in-Some.is in
    let told = c.send_letter.ensures.tells c.args.socks.now.items in
    letter_tells c.args.socks.now.items c.args.chans.now c.args.s.0 c.in-Some.sock.now c.args.bytes.now c.args.to c.args.may_wait _ _ _ here (ap (λ (x : Socket). x.kind) (sym c.sock.view_is) ∙ c.in-Datagram.is)
    (rw (c.is_some-in-Datagram.ensures, c.target-to_stream.ensures.stream, c.target-to_stream.ensures.channel) at told)
