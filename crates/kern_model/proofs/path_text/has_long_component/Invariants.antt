use Rattle.std.proofs.Common.{◌≡◌, drop}
use Rattle.kern_model.specs.Walk.{has_long_component}
use Rattle.kern_model.proofs.path_text.has_long_component.Given as goal

abbrev pub invariant-loop-component : goal.invariant-loop-component
invariant-loop-component l = has_long_component (drop l.component-index l.parts) ≡ has_long_component l.parts
