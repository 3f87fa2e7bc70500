use Rattle.std.proofs.Common.{◌≡◌}
use Rattle.std.specs.Prelude.{IsSome}
use Rattle.sp_base.specs.Table.{at}
use Rattle.kern_model.specs.Sound.{IsHeld}
use Rattle.kern_model.specs.State.{close_rows}
use Rattle.kern_calls.proofs.rows.close_rows.Given as goal

abbrev pub invariant-loop-fd : goal.invariant-loop-fd
invariant-loop-fd l = (l.parts ≡ close_rows l.only_marked l.fn.parts l.pid.0 l.fd) × IsSome (at l.parts.processes l.pid.0) × IsHeld l.parts
