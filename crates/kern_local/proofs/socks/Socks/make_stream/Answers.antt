use Rattle.std.proofs.Common.{ap}
use Rattle.socket_model.specs.Socket.{Socket}
use Rattle.kern_local.specs.Listed.{Listed}
use Rattle.kern_local.proofs.JoinLemmas.{sound_stream}
use Rattle.kern_local.proofs.socks.Socks.make_stream.Goals as goal

pub invariant_of-self-2 : goal.invariant_of-self-2
invariant_of-self-2 c =
    sound_stream _ _ _ _ _ c.args.family (ap (λ (l : Listed Socket). l.items) c.in_ok-reserve.ensures.ok) (ap (λ (l : Listed Socket). l.items) c.add.ensures.added) c.in_ok-sock.ensures c.self.invariant
