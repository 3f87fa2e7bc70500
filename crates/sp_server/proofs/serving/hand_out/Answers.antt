use Rattle.std.proofs.Common.{subst}
use Rattle.sp_server.proofs.Rounds.{HandsOutSoFar, one_handed}
use Rattle.sp_server.proofs.Shrinking.{hand_less}
use Rattle.sp_server.proofs.serving.hand_out.Goals as goal

pub loop-more-smaller : goal.loop-more-smaller
loop-more-smaller c = hand_less c.loop-more.hub c.hand_out_one.new.hub c.args.no c.loop-more.text c.hand_out_one.new.text c.loop-more.more c.in_ok-more.more c.loop-more-test.true c.in_ok-more.ensures

pub loop-more-preserved : goal.loop-more-preserved
loop-more-preserved c =
    let so = subst (HandsOutSoFar c.args.hub.now c.args.no c.args.text.now c.loop-more.hub c.loop-more.text) c.loop-more-test.true c.loop-more.invariant in
    one_handed c.args.hub.now c.args.no c.args.text.now c.loop-more.hub c.hand_out_one.new.hub c.loop-more.text c.hand_out_one.new.text c.in_ok-more.more c.in_ok-more.ensures so

pub returns : goal.returns
returns c = subst (HandsOutSoFar c.args.hub.now c.args.no c.args.text.now c.loop-more.hub c.loop-more.text) c.loop-more-test.false c.loop-more.invariant
