use Rattle.std.proofs.Common.{◌+◌}
use Rattle.std.specs.Prelude.{if◌then◌else◌}
use Rattle.sp_server.proofs.Shrinking.{queued}
use Rattle.sp_server.proofs.Rounds.{HandsOutSoFar}
use Rattle.sp_server.proofs.serving.hand_out.Given as goal

abbrev pub invariant-loop-more : goal.invariant-loop-more
invariant-loop-more l = HandsOutSoFar l.fn.hub l.no l.fn.text l.hub l.text l.more

abbrev pub decreases-loop-more : goal.decreases-loop-more
decreases-loop-more l = queued l.hub l.no + (if l.more then 1 else 0)
