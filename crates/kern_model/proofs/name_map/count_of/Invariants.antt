use Rattle.std.proofs.Common.{◌≡◌, ◌+◌, ◌≤◌, length, drop}
use Rattle.std.specs.Prelude.{filter, ◌==◌}
use Rattle.kern_model.specs.NameMap.{list_of}
use Rattle.kern_model.proofs.name_map.count_of.Given as goal

abbrev pub invariant-loop-name : goal.invariant-loop-name
invariant-loop-name l = (l.count ≤ l.name-index) × (l.count + length (filter (λ e. e.1 == l.node) (list_of (drop l.name-index l.names))) ≡ length (filter (λ e. e.1 == l.node) (list_of l.names)))
