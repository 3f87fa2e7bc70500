use Rattle.std.proofs.Common.{◌≡◌, ◌∷◌, ◌∙◌, Some, Err, sym, ap}
use Rattle.kern_nodes.specs.TreeFault.{error_in}
use Rattle.kern_model.specs.declared.node.NodeKind.TheVariants.{Directory}
use Rattle.kern_model.specs.Outcome.{failure}
use Rattle.kern_calls.specs.Joined.{joined}
use Rattle.kern_calls.proofs.MakeLaws.{made_holders, missing_in, mkdir_full}
use Rattle.kern_calls.proofs.parts.Parts.mkdir.Goals as goal

pub returns-in-Err-clause-ok : goal.returns-in-Err-clause-ok
returns-in-Err-clause-ok c = c.missing.ensures.err c.in-Err.error c.in-Err.is _ ∙ (λ i. Some (sym c.failed.ensures i, c.args.self.now))

pub invariant_of-self : goal.invariant_of-self
invariant_of-self c =
    let m = missing_in c.self.inside.opens c.self.inside.tree c.args.self.now c.args.pid.0 c.args.text.now c.in-Ok.last c.self.view_is c.in-Ok.ensures.ok in
    made_holders c.self.inside.opens c.self.inside.tree c.create.new.self (c.name_in-name.result.now ∷ m.named.above) Directory c.self.invariant (c.in-Ok-create.ensures.ok m.named.above m.named.stands)

pub returns-in-Err-Errno-clause-ok : goal.returns-in-Err-Errno-clause-ok
returns-in-Err-Errno-clause-ok c =
    let stays = ap (joined c.self.inside.opens) c.in-Err-Errno.ensures.err ∙ c.self.view_is in
    let a = c.failed-in-Err-Errno.ensures in
    let b = c.in-Err-Errno.error-is in
    let outcome : failure c.in-Err-Errno.error ≡ c.failed-in-Err-Errno.result = cc in
    mkdir_full c.self.inside.opens c.self.inside.tree c.args.self.now c.args.pid.0 c.args.text.now c.name_in-name.result.now c.in-Ok.last c.in-Err-Errno.error c.self.view_is c.in-Ok.ensures.ok c.name_in-name.ensures
    (λ path e. sym (ap error_in (c.in-Err-Errno.is ∙ ap Err c.in-Err-Errno.field-0-is)) ∙ c.create.ensures.error path e)
    ∙ (λ i. Some (outcome i, sym stays i))
