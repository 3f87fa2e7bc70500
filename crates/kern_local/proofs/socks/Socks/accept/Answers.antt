use Rattle.std.proofs.Common.{Some, ap}
use Rattle.socket_model.specs.Socket.{Socket}
use Rattle.socket_model.specs.Sound.{ends_in}
use Rattle.kern_local.proofs.SoundLemmas.{sound_set}
use Rattle.kern_local.proofs.socks.Socks.accept.Goals as goal

pub invariant_of-self : goal.invariant_of-self
invariant_of-self c = sound_set _ _ c.args.s.0 c.value_mut.result.now _ c.value_mut.ensures.value (ap (λ (x : Socket). ends_in (Some x)) c.take_waiting.ensures.others) c.self.invariant
