use Rattle.kern_local.proofs.EndLemmas.{sound_stopped_reading}
use Rattle.kern_local.proofs.socks.Socks.stop_reading.Goals as goal

pub invariant_of-self : goal.invariant_of-self
invariant_of-self c =
    sound_stopped_reading _ _ _ c.args.s.0 c.value_mut.result.now _ _ c.value_mut.ensures.value c.stop_reading-link.ensures.stopped c.stop_reading-link.ensures.link c.shut_link.ensures c.self.invariant
