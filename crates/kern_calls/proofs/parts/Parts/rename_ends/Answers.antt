use Rattle.std.specs.Prelude.{is_some}
use Rattle.std.proofs.Common.{◌≡◌, ◌==◌, Result, Err, cond, not, ◌&&◌, ◌||◌, Bool, true, false, Option, None, Some, ◌∙◌, ◌⊎◌, inl, inr, sym, ap, subst}
use Rattle.std.specs.Result.{IsErrAnd}
use Rattle.sp_base.specs.declared.errno.Errno.{Errno}
use Rattle.sp_base.specs.declared.errno.Errno.TheVariants.{Ebusy, Einval}
use Rattle.kern_model.specs.State.{State, root, is_directory, is_working_directory}
use Rattle.kern_model.specs.Step.{failed}
use Rattle.kern_model.specs.Walk.{walk}
use Rattle.kern_names.specs.declared.walk.Last.{Last}
use Rattle.kern_calls.proofs.RenameLaws.{as_found, as_missing, with_last, rename_free_may, rename_free_refused, one_of_nodes, two_nodes, rename_taken_may, rename_unnamed, rename_taken_refused, rename_busy, rename_unnamed_taken}
use Rattle.kern_calls.proofs.parts.Parts.rename_ends.Goals as goal
use Rattle.kern_calls.proofs.parts.Parts.rename_ends.Goals.{in_default-2-via-in-Some+in_default, in_default-2-via-in_default, else-to-via-then-to+else-not-is_directory, else-to-via-else-to, else-ne-via-then-ne+else-is_directory_of_some, else-ne-via-else-ne}

error_of : {T : Type 0} (r : Result T Errno) (error : Errno) (P : Errno → Type 0) → IsErrAnd r P → r ≡ Err error → P error
error_of r error P h e = subst (λ (x : Result _ Errno). IsErrAnd x P) e h

pub returns-in_err-found-clause-err : goal.returns-in_err-found-clause-err
returns-in_err-found-clause-err c error e =
    let same : c.in_err-found.field-0.0 ≡ error = sym (error_of c.from_residual.result error _ c.from_residual.ensures.1 e) in
    c.found.ensures.err c.in_err-found.field-0.0 c.in_err-found.was _ ∙ ap (λ (x : Errno). failed x c.args.self.now) same

pub returns-in_default-clause-err : goal.returns-in_default-clause-err
returns-in_default-clause-err c error e =
    let fits : (c.in-Missing.to.slash && not (is_directory c.args.self.now c.in_ok-found.found.node.0)) ≡ false = elim c.else-to.branch [
      | else-to-via-then-to+else-not-is_directory w ↦ (λ i. w.if-to.true i && not (sym w.if-not-is_directory.ensures i))
      | else-to-via-else-to w ↦ ap (λ b. b && not (is_directory c.args.self.now c.in_ok-found.found.node.0)) w.if-to.false
    ] in
    let n = as_missing c.args.self.now c.args.new.now (walk c.args.self.now c.args.pid.0 c.args.new.now) c.walk.result c.in-Missing.to c.walk.ensures c.in-Missing.is in
    let same : c.unnamed_error.result ≡ error = cc in
    rename_unnamed c.args.self.now c.args.pid.0 c.in_ok-found.found.node.0 c.args.old.now c.args.new.now c.in_ok-found.found.last c.in-Missing.to error c.requires.sound.tree c.in_ok-found.ensures.ok n fits c.in_default.is
    (sym same ∙ c.unnamed_error.ensures)

pub returns-else-eq-clause-err : goal.returns-else-eq-clause-err
returns-else-eq-clause-err c error e =
    let both : (is_some c.in_ok-found.found.last && is_some c.in-Found.last) ≡ false = elim c.in_default-2.branch [
      | in_default-2-via-in-Some+in_default w ↦ (λ i. is_some (w.in_default-2.is-0 i) && is_some (w.in_default-2.is-1 i))
      | in_default-2-via-in_default w ↦ ap (λ (l : Option Last). is_some l && is_some c.in-Found.last) w.in_default-2.is-0
    ] in
    let same : c.unnamed_error-else-eq.result ≡ error = cc in
    let other : (c.in_ok-found.found.node.0 == root) ≡ false = sym c.eq.ensures ∙ c.if-eq.false in
    rename_unnamed_taken c.args.self.now c.args.pid.0 c.in_ok-found.found.node.0 c.in-Found.node.0 c.args.old.now c.args.new.now c.in_ok-found.found.last c.in-Found.last error c.requires.sound.tree c.in_ok-found.ensures.ok
    (as_found c.args.self.now c.args.new.now (walk c.args.self.now c.args.pid.0 c.args.new.now) c.walk.result c.in-Found.node c.in-Found.last c.walk.ensures c.in-Found.is) both
    (sym same ∙ c.unnamed_error-else-eq.ensures ∙ ap (λ b. cond (b || (c.in-Found.node.0 == root)) Ebusy Einval) (sym other))

pub returns-in-Some-rename_fault-2-clause-err : goal.returns-in-Some-rename_fault-2-clause-err
returns-in-Some-rename_fault-2-clause-err c error e =
    let m = with_last c.args.self.now c.args.old.now (walk c.args.self.now c.args.pid.0 c.args.old.now) c.in_ok-found.found.node.0 c.in_ok-found.found.last c.in-Some-Some.from c.in_ok-found.ensures.ok c.in-Some-Some.is-0 in
    let n = with_last c.args.self.now c.args.new.now (walk c.args.self.now c.args.pid.0 c.args.new.now) c.in-Found.node.0 c.in-Found.last c.in-Some-Some.to
    (as_found c.args.self.now c.args.new.now (walk c.args.self.now c.args.pid.0 c.args.new.now) c.walk.result c.in-Found.node c.in-Found.last c.walk.ensures c.in-Found.is) c.in-Some-Some.is-1 in
    let same : c.in-Some-rename_fault-2.error ≡ error = cc in
    rename_taken_refused c.args.self.now c.args.pid.0 c.in_ok-found.found.node.0 c.in-Found.node.0 c.args.old.now c.args.new.now c.in-Some-Some.from c.in-Some-Some.to error m n
    (ap (λ (x : Errno). Some x) (sym same) ∙ sym c.in-Some-rename_fault-2.is ∙ c.rename_fault-in-Found.ensures m.path n.path m.named n.named)

pub returns-then-is_directory_of_some-clause-err : goal.returns-then-is_directory_of_some-clause-err
returns-then-is_directory_of_some-clause-err c error e =
    let m = with_last c.args.self.now c.args.old.now (walk c.args.self.now c.args.pid.0 c.args.old.now) c.in_ok-found.found.node.0 c.in_ok-found.found.last c.in-Some-Some.from c.in_ok-found.ensures.ok c.in-Some-Some.is-0 in
    let n = with_last c.args.self.now c.args.new.now (walk c.args.self.now c.args.pid.0 c.args.new.now) c.in-Found.node.0 c.in-Found.last c.in-Some-Some.to
    (as_found c.args.self.now c.args.new.now (walk c.args.self.now c.args.pid.0 c.args.new.now) c.walk.result c.in-Found.node c.in-Found.last c.walk.ensures c.in-Found.is) c.in-Some-Some.is-1 in
    let same : Ebusy ≡ error = cc in
    let other : (c.in_ok-found.found.node.0 == c.in-Found.node.0) ≡ false = two_nodes c.ne.result (c.in_ok-found.found.node.0 == c.in-Found.node.0) c.ne.ensures c.if-ne.true in
    let busy : is_working_directory c.args.self.now c.in-Found.node.0 ≡ true = ap (λ (s : State). is_working_directory s c.in-Found.node.0) (sym c.self.view_is) ∙ sym c.is_directory_of_some.ensures ∙ c.if-is_directory_of_some.true in
    rename_busy c.args.self.now c.args.pid.0 c.in_ok-found.found.node.0 c.in-Found.node.0 c.args.old.now c.args.new.now c.in-Some-Some.from c.in-Some-Some.to m n
    (sym c.in_default-rename_fault.is ∙ c.rename_fault-in-Found.ensures m.path n.path m.named n.named) other busy
    ∙ ap (λ (x : Errno). failed x c.args.self.now) same

pub returns-in-Some-rename_fault-clause-err : goal.returns-in-Some-rename_fault-clause-err
returns-in-Some-rename_fault-clause-err c error e =
    let fits : (c.in-Missing.to.slash && not (is_directory c.args.self.now c.in_ok-found.found.node.0)) ≡ false = elim c.else-to.branch [
      | else-to-via-then-to+else-not-is_directory w ↦ (λ i. w.if-to.true i && not (sym w.if-not-is_directory.ensures i))
      | else-to-via-else-to w ↦ ap (λ b. b && not (is_directory c.args.self.now c.in_ok-found.found.node.0)) w.if-to.false
    ] in
    let m = with_last c.args.self.now c.args.old.now (walk c.args.self.now c.args.pid.0 c.args.old.now) c.in_ok-found.found.node.0 c.in_ok-found.found.last c.in-Some.from c.in_ok-found.ensures.ok c.in-Some.is in
    let n = as_missing c.args.self.now c.args.new.now (walk c.args.self.now c.args.pid.0 c.args.new.now) c.walk.result c.in-Missing.to c.walk.ensures c.in-Missing.is in
    let same : c.in-Some-rename_fault.error ≡ error = cc in
    rename_free_refused c.args.self.now c.args.pid.0 c.in_ok-found.found.node.0 c.args.old.now c.args.new.now c.in-Some.from c.in-Missing.to error m n fits
    (ap (λ (x : Errno). Some x) (sym same) ∙ sym c.in-Some-rename_fault.is ∙ c.rename_fault.ensures m.path n.path m.named n.named)

pub returns-in-None-clause-ok : goal.returns-in-None-clause-ok
returns-in-None-clause-ok c =
    let fits : (c.in-Missing.to.slash && not (is_directory c.args.self.now c.in_ok-found.found.node.0)) ≡ false = elim c.else-to.branch [
      | else-to-via-then-to+else-not-is_directory w ↦ (λ i. w.if-to.true i && not (sym w.if-not-is_directory.ensures i))
      | else-to-via-else-to w ↦ ap (λ b. b && not (is_directory c.args.self.now c.in_ok-found.found.node.0)) w.if-to.false
    ] in
    let m = with_last c.args.self.now c.args.old.now (walk c.args.self.now c.args.pid.0 c.args.old.now) c.in_ok-found.found.node.0 c.in_ok-found.found.last c.in-Some.from c.in_ok-found.ensures.ok c.in-Some.is in
    let n = as_missing c.args.self.now c.args.new.now (walk c.args.self.now c.args.pid.0 c.args.new.now) c.walk.result c.in-Missing.to c.walk.ensures c.in-Missing.is in
    rename_free_may c.args.self.now c.args.pid.0 c.in_ok-found.found.node.0 c.args.old.now c.args.new.now c.in-Some.from c.in-Missing.to m n fits
    (sym c.in-None.is ∙ c.rename_fault.ensures m.path n.path m.named n.named)

pub returns-else-ne-clause-ok : goal.returns-else-ne-clause-ok
returns-else-ne-clause-ok c =
    let idle : ((c.in_ok-found.found.node.0 == c.in-Found.node.0) ≡ true) ⊎ (is_working_directory c.args.self.now c.in-Found.node.0 ≡ false) = elim c.else-ne.branch [
      | else-ne-via-then-ne+else-is_directory_of_some w ↦ inr (ap (λ (s : State). is_working_directory s c.in-Found.node.0) (sym c.self.view_is) ∙ sym w.is_directory_of_some.ensures ∙ w.if-is_directory_of_some.false)
      | else-ne-via-else-ne w ↦ inl (one_of_nodes c.ne.result (c.in_ok-found.found.node.0 == c.in-Found.node.0) c.ne.ensures w.if-ne.false)
    ] in
    let m = with_last c.args.self.now c.args.old.now (walk c.args.self.now c.args.pid.0 c.args.old.now) c.in_ok-found.found.node.0 c.in_ok-found.found.last c.in-Some-Some.from c.in_ok-found.ensures.ok c.in-Some-Some.is-0 in
    let n = with_last c.args.self.now c.args.new.now (walk c.args.self.now c.args.pid.0 c.args.new.now) c.in-Found.node.0 c.in-Found.last c.in-Some-Some.to
    (as_found c.args.self.now c.args.new.now (walk c.args.self.now c.args.pid.0 c.args.new.now) c.walk.result c.in-Found.node c.in-Found.last c.walk.ensures c.in-Found.is) c.in-Some-Some.is-1 in
    rename_taken_may c.args.self.now c.args.pid.0 c.in_ok-found.found.node.0 c.in-Found.node.0 c.args.old.now c.args.new.now c.in-Some-Some.from c.in-Some-Some.to m n
    (sym c.in_default-rename_fault.is ∙ c.rename_fault-in-Found.ensures m.path n.path m.named n.named) idle
