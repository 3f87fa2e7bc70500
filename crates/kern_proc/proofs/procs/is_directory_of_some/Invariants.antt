use Rattle.std.proofs.Common.{◌≡◌, drop}
use Rattle.kern_proc.specs.Processes.{is_worked_in}
use Rattle.kern_proc.proofs.procs.is_directory_of_some.Given as goal

abbrev pub invariant-loop-process : goal.invariant-loop-process
invariant-loop-process l = is_worked_in (drop l.process-index l.processes) l.node ≡ is_worked_in l.processes l.node
