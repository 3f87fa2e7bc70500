use Rattle.std.proofs.Common.{◌≡◌, ◌∙◌, Some, Err, sym, ap}
use Rattle.kern_nodes.specs.TreeFault.{error_in}
use Rattle.kern_model.specs.Outcome.{failure}
use Rattle.kern_calls.specs.Joined.{joined}
use Rattle.kern_calls.proofs.LinkLaws.{link_file, link_refused}
use Rattle.kern_calls.proofs.parts.Parts.link.Goals as goal

pub returns-in-Err-clause-ok : goal.returns-in-Err-clause-ok
returns-in-Err-clause-ok c = c.found.ensures.err c.in-Err.error c.in-Err.is _ ∙ (λ i. Some (sym c.failed.ensures i, c.args.self.now))

pub returns-in-Err-missing-clause-ok : goal.returns-in-Err-missing-clause-ok
returns-in-Err-missing-clause-ok c =
    link_file c.args.self.now c.args.pid.0 c.in-Ok.found.node.0 c.args.old.now c.args.new.now c.in-Ok.found.last c.in-Ok.ensures.ok (sym c.is_directory.ensures ∙ c.if-is_directory.false)
    ∙ c.missing.ensures.err c.in-Err-missing.error c.in-Err-missing.is _ ∙ (λ i. Some (sym c.failed-in-Err-missing.ensures i, c.args.self.now))

pub returns-in-Err-Errno-clause-ok : goal.returns-in-Err-Errno-clause-ok
returns-in-Err-Errno-clause-ok c =
    let stays = ap (joined c.self.inside.opens) c.in-Err-Errno.ensures.err ∙ c.self.view_is in
    let a = c.failed-in-Err-Errno.ensures in
    let b = c.in-Err-Errno.error-is in
    let outcome : failure c.in-Err-Errno.error ≡ c.failed-in-Err-Errno.result = cc in
    link_refused c.self.inside.opens c.self.inside.tree c.args.self.now c.args.pid.0 c.in-Ok.found.node.0 c.args.old.now c.args.new.now c.name_in-name.result.now c.in-Ok.found.last c.in-Ok-missing.last c.in-Err-Errno.error
    c.self.view_is c.in-Ok.ensures.ok (sym c.is_directory.ensures ∙ c.if-is_directory.false) c.in-Ok-missing.ensures.ok c.if-last.false c.name_in-name.ensures
    (λ path e. sym (ap error_in (c.in-Err-Errno.is ∙ ap Err c.in-Err-Errno.field-0-is)) ∙ c.link.ensures.error path e)
    ∙ (λ i. Some (outcome i, sym stays i))
