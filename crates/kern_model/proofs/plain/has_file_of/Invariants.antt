use Rattle.std.proofs.Common.{◌≡◌, drop}
use Rattle.std.specs.List.{list_any}
use Rattle.kern_model.specs.State.{is_of_node}
use Rattle.kern_model.proofs.plain.has_file_of.Given as goal

abbrev pub invariant-loop-file : goal.invariant-loop-file
invariant-loop-file l = list_any (is_of_node l.node) (drop l.file-index l.files) ≡ list_any (is_of_node l.node) l.files
