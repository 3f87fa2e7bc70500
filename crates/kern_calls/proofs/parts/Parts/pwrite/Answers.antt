use Rattle.std.proofs.Common.{◌≡◌, ◌∙◌, Some, Err, sym, ap}
use Rattle.kern_calls.proofs.WriteLaws.{pwrite_is}
use Rattle.kern_calls.proofs.parts.Parts.pwrite.Goals as goal

pub returns-in-Ok-clause-ok : goal.returns-in-Ok-clause-ok
returns-in-Ok-clause-ok c =
    pwrite_is c.args.self.now c.args.pid.0 c.args.fd _ c.node-node.result c.args.offset c.in-Some.file c.args.bytes.now c.in-Some.ensures c.node-node.ensures (sym c.is_negative.ensures ∙ c.if-is_negative.false)
    ∙ c.in-Ok.ensures.ok c.in-Some.file (λ next end. next) (sym c.may_write.ensures ∙ c.if-not-may_write.false)
    ∙ (let a = c.done-in-Ok.ensures in let b = c.from.ensures in cc)

pub returns-in-Err-Errno-clause-ok : goal.returns-in-Err-Errno-clause-ok
returns-in-Err-Errno-clause-ok c =
    pwrite_is c.args.self.now c.args.pid.0 c.args.fd _ c.node-node.result c.args.offset c.in-Some.file c.args.bytes.now c.in-Some.ensures c.node-node.ensures (sym c.is_negative.ensures ∙ c.if-is_negative.false)
    ∙ c.put.ensures.refused c.in-Err-Errno.error (c.in-Err-Errno.is ∙ ap Err c.in-Err-Errno.field-0-is) c.in-Some.file (λ next end. next) (sym c.may_write.ensures ∙ c.if-not-may_write.false)
    ∙ (let a = c.failed-in-Err-Errno.ensures in let b = c.in-Err-Errno.error-is in let d = c.in-Err-Errno.ensures.err in cc)
