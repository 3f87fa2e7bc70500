use Rattle.std.proofs.Common.{◌≡◌, ◌∙◌, refl, sym, ap, subst}
use Rattle.sp_base.specs.Kept.{Room}
use Rattle.sp_base.specs.declared.names.Pid.{Pid}
use Rattle.kern_model.specs.declared.journal.Entry.{Entry}
use Rattle.kern_model.specs.State.{State}
use Rattle.kern_model.specs.Journal.{FitsPid, state_after}
use Rattle.kern_model.specs.Sound.{IsSound}
use Rattle.kern_model.proofs.SoundLaws.{journal_sound}
use Rattle.kern_calls.specs.Kernel.{Appends, Performs, process_of}
use Rattle.kern_calls.proofs.Kernels.{appended, performs, tried}
use Rattle.kern_calls.proofs.kernel.Kernel.try_act.Goals as goal

pub invariant_of-self : goal.invariant_of-self
invariant_of-self c =
    let at_parts = ap (λ (r : Room Entry). state_after r.items) (sym c.self.view_is) ∙ c.self.invariant.1 in
    let process = subst (λ (s : State). FitsPid s (process_of c.args.op c.args.pid).0 c.args.op) at_parts c.requires.process in
    let fits = rw (← c.process_of-pid.ensures) at process in
    appended c.self.inside.journal c.perform_steady.new.journal c.self.inside.parts c.perform_steady.new.parts c.process_of-pid.result c.args.who c.args.op c.args.ins _ _
    c.self.invariant fits c.requires.ins c.perform_steady.ensures

pub invariant_of-self-2 : goal.invariant_of-self-2
invariant_of-self-2 c =
    let at_parts = ap (λ (r : Room Entry). state_after r.items) (sym c.self.view_is) ∙ c.self.invariant.1 in
    let process = subst (λ (s : State). FitsPid s (process_of c.args.op c.args.pid).0 c.args.op) at_parts c.requires.process in
    let fits = rw (← c.process_of-pid.ensures) at process in
    tried c.self.inside.journal c.perform.new.journal c.self.inside.parts c.perform.new.parts c.process_of-pid.result c.args.who c.args.op c.args.ins c.perform.result
    c.self.invariant fits c.requires.ins c.perform.ensures.done c.perform.ensures.waits c.perform.ensures.no_memory

pub returns-clause-done : goal.returns-clause-done
returns-clause-done c place done =
    let kept = sym (rw c.spare.ensures at (c.is_provided.ensures.other c.if-is_provided.false)) in
    subst (λ (old : Room Entry). Performs old c.args.pid c.args.who c.args.op c.args.ins place.0 c.perform.new.journal) c.self.view_is
    (performs c.self.inside.journal c.perform.new.journal c.self.inside.parts c.perform.new.parts c.args.pid c.args.who c.args.op c.args.ins place.0 _ c.self.invariant kept
    (subst (λ (p : Pid). Appends c.self.inside.parts c.self.inside.journal p c.args.who c.args.op c.args.ins place.0 c.perform.new.parts c.perform.new.journal c.self.inside.journal.spare) c.process_of-pid.ensures (c.perform.ensures.done place done)))

pub perform_steady-requires-clause-sound : goal.perform_steady-requires-clause-sound
perform_steady-requires-clause-sound c = subst (λ (s : State). IsSound s) c.self.invariant.1 (journal_sound c.self.inside.journal.items)

pub perform-requires-clause-sound : goal.perform-requires-clause-sound
perform-requires-clause-sound c = subst (λ (s : State). IsSound s) c.self.invariant.1 (journal_sound c.self.inside.journal.items)
