use Rattle.std.proofs.Common.{◌∙◌, sym, ap}
use Rattle.socket_model.specs.Socket.{Socket}
use Rattle.kern_local.specs.Listed.{Listed}
use Rattle.kern_local.proofs.EndLemmas.{sound_closed}
use Rattle.kern_local.proofs.socks.Socks.close_one.Goals as goal

pub invariant_of-self : goal.invariant_of-self
invariant_of-self c =
    rw (ap (λ (l : Listed Socket). l.items) c.take.ensures.taken)
    (sound_closed _ _ _ c.args.s c.in-Some.sock (sym c.in-Some.is ∙ c.take.ensures.value) c.leave.ensures c.self.invariant)
