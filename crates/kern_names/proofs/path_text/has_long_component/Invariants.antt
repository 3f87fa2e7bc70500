use Rattle.std.proofs.Common.{◌≡◌, ◌-◌, ◌≤◌, drop, length}
use Rattle.kern_model.specs.Name.{components}
use Rattle.kern_model.specs.Walk.{has_long_component}
use Rattle.kern_names.proofs.path_text.has_long_component.Given as goal

abbrev pub invariant-loop-start : goal.invariant-loop-start
invariant-loop-start l = (l.from ≤ length l.text) × (has_long_component (components (drop l.from l.text)) ≡ has_long_component (components l.text))

abbrev pub decreases-loop-start : goal.decreases-loop-start
decreases-loop-start l = length l.text - l.from
