use Rattle.kern_model.specs.NameMap.{list_of}
use Rattle.kern_model.proofs.NamesLaws.{entries_are, path_is}
use Rattle.kern_model.proofs.name_map.NameMap.path_of.Goals as goal

pub returns : goal.returns
returns c = rw (path_is c.args.self.now (list_of c.self.inside.names.items) c.args.node (entries_are (list_of c.self.inside.names.items) c.args.self.now c.self.view_is c.self.invariant)) (rw c.deref.ensures.value at c.path_in.ensures)
