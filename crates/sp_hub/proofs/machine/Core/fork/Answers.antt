use Rattle.std.proofs.Common.{IsSome, sym, subst, ◌∙◌}
use Rattle.sp_base.specs.Table.{at}
use Rattle.kern_model.specs.Journal.{state_after}
use Rattle.hub_model.specs.State.{Machine}
use Rattle.sp_hub.proofs.At.{live_at}
use Rattle.sp_hub.proofs.machine.Core.fork.Goals as goal

pub fork-result-requires-clause-live : goal.fork-result-requires-clause-live
fork-result-requires-clause-live c =
    let live = live_at c.args.self.now c.args.no.0 c.in-Some.condition c.requires.sound (sym c.condition.ensures ∙ c.in-Some.is) c.in-Some-process_in.pid (sym c.process_in.ensures ∙ c.in-Some-process_in.is) in
    subst (λ (m : Machine). IsSome (at (state_after m.journal).processes c.in-Some-process_in.pid.0)) (sym c.self.view_is) live
