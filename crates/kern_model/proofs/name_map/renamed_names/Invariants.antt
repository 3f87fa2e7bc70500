use Rattle.std.proofs.Common.{◌≡◌, drop}
use Rattle.std.specs.FinMap.{from_entries}
use Rattle.kern_model.specs.Name.{moved_entries}
use Rattle.kern_model.specs.NameMap.{list_of}
use Rattle.kern_model.proofs.name_map.renamed_names.Given as goal

abbrev pub invariant-loop-i : goal.invariant-loop-i
invariant-loop-i l = l.renamed ≡ from_entries (moved_entries l.old l.new (list_of (drop l.i l.names)))
