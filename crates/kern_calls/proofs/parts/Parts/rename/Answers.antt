use Rattle.std.proofs.Common.{◌≡◌, ◌∙◌, None, Some, Err, sym, ap}
use Rattle.kern_nodes.specs.TreeFault.{error_in}
use Rattle.kern_files.specs.Files.{Files, holders_of}
use Rattle.kern_calls.specs.Joined.{joined}
use Rattle.kern_calls.proofs.RenameLaws.{no_fault, rename_done}
use Rattle.kern_calls.proofs.parts.Parts.rename.Goals as goal

pub invariant_of-self : goal.invariant_of-self
invariant_of-self c =
    (rename_done c.self.inside.opens c.self.inside.tree c.rename.new.self c.args.self.now c.args.pid.0 c.args.old.now c.args.new.now c.name_in-old_name.result.now c.name_in-new_name.result.now c.in-Ok.ends.0 c.in-Ok.ends.1
    c.self.view_is c.self.invariant c.in-Ok.ensures.ok c.name_in-old_name.ensures c.name_in-new_name.ensures c.in-Ok-rename.ensures.ok).1

pub invariant_of-self-in-Err-NoMemory : goal.invariant_of-self-in-Err-NoMemory
invariant_of-self-in-Err-NoMemory c node = ap (λ (f : Files). holders_of f node) c.in-Err-NoMemory.ensures.err ∙ c.self.invariant node

pub returns-in-Ok-rename-clause-ok : goal.returns-in-Ok-rename-clause-ok
returns-in-Ok-rename-clause-ok c =
    (rename_done c.self.inside.opens c.self.inside.tree c.rename.new.self c.args.self.now c.args.pid.0 c.args.old.now c.args.new.now c.name_in-old_name.result.now c.name_in-new_name.result.now c.in-Ok.ends.0 c.in-Ok.ends.1
    c.self.view_is c.self.invariant c.in-Ok.ensures.ok c.name_in-old_name.ensures c.name_in-new_name.ensures c.in-Ok-rename.ensures.ok).0
    ∙ (λ i. Some (sym c.done.ensures i, joined c.self.inside.opens c.rename.new.self))

pub unreachable-requires : goal.unreachable-requires
unreachable-requires c =
    let none = no_fault c.self.inside.opens c.self.inside.tree c.args.self.now c.args.pid.0 c.args.old.now c.args.new.now c.name_in-old_name.result.now c.name_in-new_name.result.now c.in-Ok.ends.0 c.in-Ok.ends.1 (error_in c.rename.result)
    c.self.view_is c.in-Ok.ensures.ok c.name_in-old_name.ensures c.name_in-new_name.ensures c.rename.ensures.error in
    let some : Some c.in-Err-Errno.field-0-0 ≡ None = sym (ap error_in (c.in-Err-Errno.is ∙ ap Err c.in-Err-Errno.field-0-is)) ∙ none in
    cc
