use Rattle.std.proofs.Common.{◌≡◌, ◌∙◌, ap, sym, subst}
use Rattle.socket_model.specs.declared.address.SockKind.TheVariants.{Datagram}
use Rattle.socket_model.specs.Socket.{Socket, Sockets, socket_of}
use Rattle.kern_local.proofs.JoinLemmas.{sound_writes, kind_here}
use Rattle.kern_local.proofs.socks.Socks.connect_letters.Goals as goal

pub invariant_of-self : goal.invariant_of-self
invariant_of-self c =
    let kind : c.value_mut.result.now.kind ≡ Datagram = kind_here _ c.args.s.0 _ _ c.value_mut.ensures.value (subst (λ (v : Sockets). (socket_of v c.args.s.0).kind ≡ Datagram) (sym c.self.view_is) c.requires.kind) in
    sound_writes _ _ c.args.s.0 c.value_mut.result.now c.send_to.new.self c.value_mut.ensures.value kind
    (ap (λ (x : Socket). x.kind) c.send_to.ensures ∙ kind) (ap (λ (x : Socket). x.reads) c.send_to.ensures) c.self.invariant
