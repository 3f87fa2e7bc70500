use Rattle.std.proofs.Common.{◌≡◌, sym, subst}
use Rattle.socket_model.specs.declared.address.SockKind.TheVariants.{Stream}
use Rattle.socket_model.specs.Socket.{Sockets, socket_of}
use Rattle.kern_local.proofs.JoinLemmas.{kind_here}
use Rattle.kern_local.proofs.EndLemmas.{sound_stopped_writing}
use Rattle.kern_local.proofs.socks.Socks.stop_writing.Goals as goal

pub invariant_of-self : goal.invariant_of-self
invariant_of-self c =
    let kind : c.value_mut.result.now.kind ≡ Stream = kind_here _ c.args.s.0 _ _ c.value_mut.ensures.value (subst (λ (v : Sockets). (socket_of v c.args.s.0).kind ≡ Stream) (sym c.self.view_is) c.requires.stream) in
    sound_stopped_writing _ _ _ c.args.s.0 c.value_mut.result.now _ _ c.value_mut.ensures.value kind c.stop_writing-link.ensures.stopped c.stop_writing-link.ensures.link c.shut_link.ensures c.self.invariant
