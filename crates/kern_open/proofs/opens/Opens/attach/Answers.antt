use Rattle.std.proofs.Common.{◌≡◌, ◌↔◌, ℕ, List, Option, None, Some, Result, Ok, Err, ap, sym, ◌∙◌, subst}
use Rattle.std.proofs.lemmas.Result.{err_from_is_err_and}
use Rattle.kern_model.specs.State.{Process}
use Rattle.kern_proc.specs.Processes.{process_in}
use Rattle.sp_base.specs.declared.names.Pid.{Pid}
use Rattle.kern_proc.specs.declared.fault.ProcFault.{ProcFault}
use Rattle.kern_proc.specs.declared.fault.ProcFault.TheVariants.{Full}
use Rattle.kern_open.specs.Counted.{tables_of, IsCounted}
use Rattle.kern_open.proofs.Changes.{set_process_is}
use Rattle.kern_open.proofs.Lives.{counted_attach, unused_process_is}
use Rattle.kern_open.proofs.opens.Opens.attach.Goals as goal

pub returns-in_err-pid-clause-full : goal.returns-in_err-pid-clause-full
returns-in_err-pid-clause-full c =
    let p = err_from_is_err_and c.from_residual.result c.from_residual.ensures.1 in
    rw (p.1, p.2) (subst (λ (o : Option ℕ). (◌≡◌ {A = Result Pid ProcFault} (Err c.in_err-pid.field-0.0) (Err Full)) ↔ (o ≡ None)) (unused_process_is c.self.inside.procs c.self.inside.files c.args.self.now c.self.view_is) c.in_err-pid.ensures.full)

pub invariant_of-self-2 : goal.invariant_of-self-2
invariant_of-self-2 c =
    subst (λ (ps : List (Option Process)). IsCounted ps c.self.inside.files) (sym c.in_ok-pid.ensures.made)
    (counted_attach c.self.inside.procs c.self.inside.files c.in_ok-pid.pid.0 c.self.invariant c.in_ok-pid.ensures.number)

pub returns-clause-number : goal.returns-clause-number
returns-clause-number c = sym (unused_process_is c.self.inside.procs c.self.inside.files c.args.self.now c.self.view_is) ∙ c.in_ok-pid.ensures.number

pub returns-clause-made : goal.returns-clause-made
returns-clause-made c =
    ap (λ (ps : List (Option Process)). tables_of ps c.self.inside.files) c.in_ok-pid.ensures.made
    ∙ set_process_is c.self.inside.procs c.self.inside.files c.args.self.now c.in_ok-pid.pid.0 (Some (process_in 1)) c.self.view_is

pub returns-clause-full : goal.returns-clause-full
returns-clause-full c =
    subst (λ (o : Option ℕ). (Ok c.in_ok-pid.pid ≡ Err Full) ↔ (o ≡ None)) (unused_process_is c.self.inside.procs c.self.inside.files c.args.self.now c.self.view_is) c.in_ok-pid.ensures.full
