use Rattle.std.proofs.Common.{◌≡◌, drop}
use Rattle.std.specs.List.{list_any}
use Rattle.kern_model.specs.State.{is_row_of, rows_in}
use Rattle.kern_model.proofs.plain.is_held_in.Given as goal

abbrev pub invariant-loop-process : goal.invariant-loop-process
invariant-loop-process l = list_any (λ process. list_any (is_row_of l.file) (rows_in process)) (drop l.process-index l.processes) ≡ list_any (λ process. list_any (is_row_of l.file) (rows_in process)) l.processes
