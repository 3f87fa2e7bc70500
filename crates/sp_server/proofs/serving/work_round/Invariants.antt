use Rattle.std.proofs.Common.{◌-◌}
use Rattle.std.specs.Prelude.{◌^◌}
use Rattle.sp_server.proofs.Rounds.{IsRoundSoFar}
use Rattle.sp_server.proofs.serving.work_round.Given as goal

abbrev pub invariant-loop-number : goal.invariant-loop-number
invariant-loop-number l = IsRoundSoFar l.fn.hub l.no l.hub l.above l.performed

abbrev pub decreases-loop-number : goal.decreases-loop-number
decreases-loop-number l = 2 ^ 64 - l.above.0
