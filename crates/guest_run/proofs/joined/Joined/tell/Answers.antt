use Rattle.std.proofs.Common.{arith}
use Rattle.guest_run.proofs.StepLaws.{none_told, one_told}
use Rattle.guest_run.proofs.joined.Joined.tell.Goals as goal

pub loop-init : goal.loop-init
loop-init c = none_told _ _

pub loop-preserved : goal.loop-preserved
loop-preserved c = one_told _ _ _ _ _ _ (omega arith) c.loop.invariant c.in_ok-to_client.ensures
