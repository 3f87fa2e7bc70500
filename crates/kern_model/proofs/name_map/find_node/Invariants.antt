use Rattle.std.proofs.Common.{◌≡◌, drop}
use Rattle.std.specs.FinMap.{find}
use Rattle.kern_model.specs.Name.{path_cmp}
use Rattle.kern_model.specs.NameMap.{list_of}
use Rattle.kern_model.proofs.name_map.find_node.Given as goal

abbrev pub invariant-loop-name : goal.invariant-loop-name
invariant-loop-name l = find path_cmp l.path (list_of (drop l.name-index l.names)) ≡ find path_cmp l.path (list_of l.names)
