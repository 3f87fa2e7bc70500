use Rattle.std.proofs.Common.{◌≡◌, drop}
use Rattle.std.specs.List.{list_any}
use Rattle.kern_model.specs.State.{is_row_of}
use Rattle.kern_model.proofs.descriptors.has_row_of.Given as goal

abbrev pub invariant-loop-row : goal.invariant-loop-row
invariant-loop-row l = list_any (is_row_of l.file) (drop l.row-index l.rows) ≡ list_any (is_row_of l.file) l.rows
