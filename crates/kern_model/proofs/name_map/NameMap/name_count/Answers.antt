use Rattle.std.proofs.Common.{sym, ◌∙◌}
use Rattle.kern_model.specs.NameMap.{list_of}
use Rattle.kern_model.proofs.NamesLaws.{entries_are, count_is}
use Rattle.kern_model.proofs.name_map.NameMap.name_count.Goals as goal

pub returns : goal.returns
returns c = rw c.deref.ensures.value at c.count_of.ensures ∙ sym (count_is c.args.self.now (list_of c.self.inside.names.items) c.args.node (entries_are (list_of c.self.inside.names.items) c.args.self.now c.self.view_is c.self.invariant))
