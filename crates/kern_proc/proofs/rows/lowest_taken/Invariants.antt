use Rattle.std.proofs.Common.{◌≡◌, drop}
use Rattle.std.specs.List.{position_from}
use Rattle.kern_proc.specs.Processes.{is_taken, lowest_taken}
use Rattle.kern_proc.proofs.rows.lowest_taken.Given as goal

abbrev pub invariant-loop-fd : goal.invariant-loop-fd
invariant-loop-fd l = position_from (is_taken l.marked_only) l.fd (drop l.fd l.rows) ≡ lowest_taken l.marked_only l.rows
