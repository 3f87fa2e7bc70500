use Rattle.std.proofs.Common.{◌∙◌, sym, ap}
use Rattle.socket_model.specs.Socket.{Socket, Sockets}
use Rattle.socket_model.specs.Calls.{close}
use Rattle.kern_local.specs.Listed.{Listed}
use Rattle.kern_local.proofs.EndLemmas.{sound_closed, close_is}
use Rattle.kern_local.proofs.socks.Socks.close.Goals as goal

pub invariant_of-self : goal.invariant_of-self
invariant_of-self c =
    rw (ap (λ (l : Listed Socket). l.items) c.take.ensures.taken)
    (sound_closed _ _ _ c.args.s.0 c.in-Some.sock (sym c.in-Some.is ∙ c.take.ensures.value) c.leave.ensures c.self.invariant)

pub returns : goal.returns
returns c =
    close_is (record { sockets = c.self.inside.socks.items; channels = c.self.inside.chans }) _ _ _ c.args.s.0 c.in-Some.sock _
    (sym c.in-Some.is ∙ c.take.ensures.value) (ap (λ (l : Listed Socket). l.items) c.take.ensures.taken) c.leave.ensures (ap (λ (x : Socket). x.queue) c.sock.view_is) c.close_waiting.ensures
    ∙ ap (λ (v : Sockets). close v c.args.s.0) c.self.view_is
