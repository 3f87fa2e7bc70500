use Rattle.std.proofs.Common.{sym, ◌∙◌}
use Rattle.std.specs.FinMap.{get-from_sorted}
use Rattle.kern_model.specs.Name.{path_cmp}
use Rattle.kern_model.specs.NameMap.{list_of}
use Rattle.kern_model.proofs.name_map.NameMap.get.Goals as goal

pub returns : goal.returns
returns c = rw c.deref.ensures.value at c.find_node.ensures ∙ sym (rw (← c.self.view_is) (get-from_sorted path_cmp (list_of c.self.inside.names.items) c.args.path.now c.self.invariant))
