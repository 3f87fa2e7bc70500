use Rattle.std.proofs.Common.{take}
use Rattle.std.specs.List.{AllByRecursion}
use Rattle.kern_model.specs.NameMap.{IsBefore}
use Rattle.kern_model.proofs.name_map.place_of.Given as goal

abbrev pub invariant-loop-i : goal.invariant-loop-i
invariant-loop-i l = AllByRecursion (IsBefore l.path) (take l.i l.names)
