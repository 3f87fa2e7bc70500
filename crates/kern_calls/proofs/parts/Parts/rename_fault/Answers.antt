use Rattle.kern_calls.proofs.RenameLaws.{fault_is}
use Rattle.kern_calls.proofs.parts.Parts.rename_fault.Goals as goal

pub returns : goal.returns
returns c path above begins ends =
    fault_is c.self.inside.opens c.self.inside.tree c.args.self.now c.args.old.now c.args.new.now c.name_in-old_name.result.now c.name_in-new_name.result.now c.args.from c.args.to path above c.rename_fault.result
    c.self.view_is begins ends c.name_in-old_name.ensures c.name_in-new_name.ensures c.rename_fault.ensures
