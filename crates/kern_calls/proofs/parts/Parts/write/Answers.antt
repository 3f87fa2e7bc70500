use Rattle.std.proofs.Common.{◌≡◌, ◌+◌, ◌∙◌, List, Option, Some, Err, sym, ap, subst}
use Rattle.std.specs.Prelude.{IsSome}
use Rattle.sp_base.specs.Table.{at}
use Rattle.kern_model.specs.declared.node.OpenFile.{OpenFile}
use Rattle.kern_model.specs.Outcome.{success}
use Rattle.kern_model.specs.State.{State, Process, rows_in, replace_file}
use Rattle.kern_calls.proofs.WriteLaws.{write_is, found_row}
use Rattle.kern_calls.proofs.parts.Parts.write.Goals as goal

pub set_file-requires-clause-there : goal.set_file-requires-clause-there
set_file-requires-clause-there c row e =
    subst (λ (files : List (Option OpenFile)). IsSome (at files row.file)) (sym c.put.ensures.files)
    (c.requires.sound.held.rows c.args.pid.0 c.args.fd row (ap (λ (ps : List (Option Process)). at (rows_in (at ps c.args.pid.0)) c.args.fd) (sym c.put.ensures.processes) ∙ e))

pub returns-in-Ok-clause-ok : goal.returns-in-Ok-clause-ok
returns-in-Ok-clause-ok c =
    let row = found_row c.args.self.now _ _ c.in-Some.file c.in-Some.ensures in
    let stands = ap (λ (ps : List (Option Process)). at (rows_in (at ps c.args.pid.0)) c.args.fd) c.put.ensures.processes ∙ row.1 in
    let moved = c.set_file.ensures row.0 stands in
    write_is c.args.self.now c.args.pid.0 c.args.fd c.in-Some.field-0-0 c.node-node.result c.write_start-start.result c.in-Some.file c.args.bytes.now c.in-Some.ensures c.node-node.ensures c.write_start-start.ensures
    ∙ c.in-Ok.ensures.ok c.in-Some.file (λ next end. replace_file next c.in-Some.field-0-0 (record c.in-Some.file { offset = end })) (sym c.may_write.ensures ∙ c.if-not-may_write.false)
    ∙ (let a = c.done-in-Ok.ensures in let b = c.from-in-Ok.ensures in let d = c.from.ensures in let f = c.at_offset.ensures in cc)

pub returns-in-Err-Errno-clause-ok : goal.returns-in-Err-Errno-clause-ok
returns-in-Err-Errno-clause-ok c =
    write_is c.args.self.now c.args.pid.0 c.args.fd c.in-Some.field-0-0 c.node-node.result c.write_start-start.result c.in-Some.file c.args.bytes.now c.in-Some.ensures c.node-node.ensures c.write_start-start.ensures
    ∙ c.put.ensures.refused c.in-Err-Errno.error (c.in-Err-Errno.is ∙ ap Err c.in-Err-Errno.field-0-is) c.in-Some.file (λ next end. replace_file next c.in-Some.field-0-0 (record c.in-Some.file { offset = end })) (sym c.may_write.ensures ∙ c.if-not-may_write.false)
    ∙ (let a = c.failed-in-Err-Errno.ensures in let b = c.in-Err-Errno.error-is in let d = c.in-Err-Errno.ensures.err in cc)
