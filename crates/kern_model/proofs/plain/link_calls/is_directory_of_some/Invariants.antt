use Rattle.std.proofs.Common.{◌≡◌, drop}
use Rattle.std.specs.List.{list_any}
use Rattle.kern_model.specs.State.{is_directory_of}
use Rattle.kern_model.proofs.plain.link_calls.is_directory_of_some.Given as goal

abbrev pub invariant-loop-process : goal.invariant-loop-process
invariant-loop-process l = list_any (is_directory_of l.node) (drop l.process-index l.processes) ≡ list_any (is_directory_of l.node) l.processes
