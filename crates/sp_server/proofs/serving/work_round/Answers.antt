use Rattle.std.proofs.Common.{refl}
use Rattle.hub_model.specs.Task.{open_calls}
use Rattle.sp_server.proofs.Rounds.{one_worked, none_lowest, round_ends}
use Rattle.sp_server.proofs.serving.work_round.Goals as goal

pub loop-number-preserved-then-performed : goal.loop-number-preserved-then-performed
loop-number-preserved-then-performed c =
    one_worked c.args.hub.now c.args.no c.loop-number.hub c.work.new.self c.loop-number.above c.in-Some.number c.work.result c.loop-number.performed c.loop-number.performed c.in_ok-done.done
    c.in-Some.ensures c.work.ensures.plays c.in_ok-done.ensures (rw (c.if-performed.true) refl) c.loop-number.invariant

pub loop-number-preserved : goal.loop-number-preserved
loop-number-preserved c =
    one_worked c.args.hub.now c.args.no c.loop-number.hub c.work.new.self c.loop-number.above c.in-Some.number c.work.result c.loop-number.performed c.in_ok-done.done c.in_ok-done.done
    c.in-Some.ensures c.work.ensures.plays c.in_ok-done.ensures (rw (c.if-performed.false) refl) c.loop-number.invariant

pub returns-clause-round : goal.returns-clause-round
returns-clause-round c =
    let none = none_lowest (open_calls c.loop-number.hub c.args.no) c.loop-number.above c.lowest_task.result c.in_default.not-Some c.lowest_task.ensures in
    round_ends c.args.hub.now c.args.no c.loop-number.hub c.loop-number.above c.loop-number.performed none c.loop-number.invariant
