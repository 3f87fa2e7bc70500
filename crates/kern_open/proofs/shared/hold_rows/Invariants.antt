use Rattle.std.proofs.Common.{take}
use Rattle.kern_proc.specs.Processes.{rows_at}
use Rattle.kern_open.specs.Counted.{Holds}
use Rattle.kern_open.proofs.shared.hold_rows.Given as goal

abbrev pub invariant-loop-fd : goal.invariant-loop-fd
invariant-loop-fd l = Holds l.fn.files l.files (take l.fd (rows_at l.procs l.pid.0))
