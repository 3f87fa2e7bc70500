use Rattle.std.proofs.Common.{◌≡◌, ◌∙◌, sym, ap}
use Rattle.std.specs.Prelude.{is_some}
use Rattle.kern_model.specs.declared.operation.Ins.{Ins}
use Rattle.kern_model.specs.Act.{act}
use Rattle.kern_model.specs.Journal.{state_after}
use Rattle.kern_calls.specs.Kernel.{process_of}
use Rattle.kern_calls.proofs.ReadyLaws.{ready}
use Rattle.kern_calls.proofs.kernel.Kernel.ready.Goals as goal

pub returns-in-Given : goal.returns-in-Given
returns-in-Given c =
    let s = state_after c.args.self.now.items in
    let pid = (process_of c.args.op.now c.args.pid).0 in
    let same = ap (λ (ins : Ins). is_some (act s pid c.args.op.now ins)) c.in-Given.is ∙ ready s pid c.args.op.now c.in-Given.field-0 ∙ sym c.is_built.ensures in
    (λ h. same ∙ h, λ h. sym same ∙ h)
