use Rattle.std.proofs.Common.{◌≡◌, drop}
use Rattle.std.specs.Prelude.{slice_range}
use Rattle.kern_model.specs.Name.{components}
use Rattle.kern_names.proofs.TextLaws.{components_after}
use Rattle.kern_names.proofs.path_text.component_end.Given as goal

abbrev pub invariant-loop-i : goal.invariant-loop-i
invariant-loop-i l = components_after (slice_range l.text l.from l.i) (drop l.i l.text) ≡ components (drop l.from l.text)
