use Rattle.std.proofs.Common.{subst}
use Rattle.sp_server.proofs.Rounds.{AreRoundsSoFar, one_round, rounds_end, rounds_fewer}
use Rattle.sp_server.proofs.serving.work_all.Goals as goal

pub loop-again-smaller : goal.loop-again-smaller
loop-again-smaller c = rounds_fewer c.args.no c.loop-again.hub c.work_round.new.hub c.loop-again.again c.in_ok-again.again c.loop-again-test.true c.in_ok-again.ensures.fewer

pub loop-again-preserved : goal.loop-again-preserved
loop-again-preserved c =
    let so = subst (AreRoundsSoFar c.args.hub.now c.args.no c.loop-again.hub) c.loop-again-test.true c.loop-again.invariant in
    one_round c.args.hub.now c.args.no c.loop-again.hub c.work_round.new.hub c.in_ok-again.again c.in_ok-again.ensures.round so

pub returns : goal.returns
returns c =
    let so = subst (AreRoundsSoFar c.args.hub.now c.args.no c.loop-again.hub) c.loop-again-test.false c.loop-again.invariant in
    rounds_end c.args.hub.now c.args.no c.loop-again.hub so
