use Rattle.std.proofs.Common.{◌≡◌, Some, IsSome, ap, sym, subst}
use Rattle.sp_base.specs.Table.{at}
use Rattle.socket_model.specs.declared.address.SockKind.TheVariants.{Stream}
use Rattle.socket_model.specs.Socket.{Socket, Sockets, socket_of}
use Rattle.socket_model.specs.Sound.{ends_in}
use Rattle.kern_local.specs.Listed.{Listed}
use Rattle.kern_local.proofs.JoinLemmas.{sound_connected_at}
use Rattle.kern_local.proofs.socks.Socks.connect_stream.Goals as goal

pub invariant_of-self-2 : goal.invariant_of-self-2
invariant_of-self-2 c =
    let live = subst (λ (v : Sockets). IsSome (at v.sockets c.args.s.0)) (sym c.self.view_is) c.requires.live in
    let kind = subst (λ (v : Sockets). (socket_of v c.args.s.0).kind ≡ Stream) (sym c.self.view_is) c.requires.kind in
    sound_connected_at c.self.inside.socks.items _ _ c.self.inside.chans _ c.args.s.0 c.args.to.0 c.value_mut-2.result.now c.value_mut.result.now c.set_ends.new.self c.queue_up.new.self c.open.new.self
    c.in_ok-c.c.0 c.in_ok-c.d.0
    (ap (λ (l : Listed Socket). l.items) c.in_ok-reserve.ensures.ok) (ap (λ (l : Listed Socket). l.items) c.add-waiting.ensures.added)
    c.in_ok-c.ensures.made c.in_ok-c.ensures.numbers.0 c.in_ok-c.ensures.numbers.1
    (ap (λ (x : Socket). ends_in (Some x)) c.set_ends.ensures) (ap (λ (x : Socket). x.kind) c.in_ok-accepted.ensures)
    (ap (λ (x : Socket). ends_in (Some x)) c.queue_up.ensures) (ap (λ (x : Socket). ends_in (Some x)) c.open.ensures)
    live kind c.value_mut.ensures.value c.value_mut-2.ensures.value c.self.invariant
