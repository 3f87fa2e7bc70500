use Rattle.std.proofs.Common.{sym, ◌∙◌}
use Rattle.kern_model.specs.NameMap.{list_of}
use Rattle.kern_model.proofs.NamesLaws.{entries_are, has_entries_is}
use Rattle.kern_model.proofs.name_map.NameMap.has_entries.Goals as goal

pub returns : goal.returns
returns c = rw c.deref.ensures.value at c.has_name_in.ensures ∙ sym (has_entries_is c.args.self.now (list_of c.self.inside.names.items) c.args.directory.now (entries_are (list_of c.self.inside.names.items) c.args.self.now c.self.view_is c.self.invariant))
