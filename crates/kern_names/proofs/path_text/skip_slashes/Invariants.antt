use Rattle.std.proofs.Common.{◌≡◌, drop}
use Rattle.kern_model.specs.Name.{components}
use Rattle.kern_names.proofs.path_text.skip_slashes.Given as goal

abbrev pub invariant-loop-i : goal.invariant-loop-i
invariant-loop-i l = components (drop l.i l.text) ≡ components (drop l.from l.text)
