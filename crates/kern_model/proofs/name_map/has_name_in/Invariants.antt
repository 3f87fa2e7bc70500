use Rattle.std.proofs.Common.{◌≡◌, drop}
use Rattle.std.specs.List.{list_any}
use Rattle.kern_model.specs.Name.{is_in}
use Rattle.kern_model.specs.NameMap.{list_of}
use Rattle.kern_model.proofs.name_map.has_name_in.Given as goal

abbrev pub invariant-loop-name : goal.invariant-loop-name
invariant-loop-name l = list_any (λ e. is_in l.directory e.0) (list_of (drop l.name-index l.names)) ≡ list_any (λ e. is_in l.directory e.0) (list_of l.names)
