use Rattle.std.proofs.Common.{◌+◌}
use Rattle.std.specs.Prelude.{if◌then◌else◌}
use Rattle.sp_server.specs.Waiting.{waiting}
use Rattle.sp_server.proofs.Rounds.{AreRoundsSoFar}
use Rattle.sp_server.proofs.serving.work_all.Given as goal

abbrev pub invariant-loop-again : goal.invariant-loop-again
invariant-loop-again l = AreRoundsSoFar l.fn.hub l.no l.hub l.again

abbrev pub decreases-loop-again : goal.decreases-loop-again
decreases-loop-again l = waiting l.hub l.no + (if l.again then 1 else 0)
