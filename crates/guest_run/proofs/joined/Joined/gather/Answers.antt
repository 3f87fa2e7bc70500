use Rattle.std.proofs.Common.{arith}
use Rattle.guest_run.proofs.StepLaws.{none_gathered, one_gathered, refused_after, round}
use Rattle.guest_run.proofs.joined.Joined.gather.Goals as goal

pub loop-init : goal.loop-init
loop-init c = none_gathered _ _ _

pub loop-preserved : goal.loop-preserved
loop-preserved c =
    let worked = rw c.if-not-branch.false at c.in_ok-works.ensures in
    one_gathered _ _ _ _ _ _ (omega arith) c.loop.invariant (round _ _ _ _ _ _ _ worked c.in_ok-to_client.ensures c.in_ok-to_server.ensures)

pub returns-then-not-branch : goal.returns-then-not-branch
returns-then-not-branch c = λ needs all.
    refused_after _ c.loop.invariant.moves _ _ _ c.loop.invariant.came (rw c.if-not-branch.true at c.in_ok-works.ensures)
