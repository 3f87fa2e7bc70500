use Rattle.std.proofs.Common.{[], inl, refl, subst}
use Rattle.std.specs.Prelude.{take}
use Rattle.std.specs.List.{flat_map}
use Rattle.sp_frames.specs.Grammar.{spelling}
use Rattle.sp_server.specs.declared.session.Stop.TheVariants as stop
use Rattle.sp_server.proofs.Moves.{on_ok, at_err, both_err, appends_nothing}
use Rattle.sp_server.proofs.SessionLaws.{one_answered, answer_front, stops_front}
use Rattle.sp_server.proofs.AtOnce.{as_it_was, at_once_answered, at_once_front}
use Rattle.sp_server.proofs.session.answer.Goals as goal

pub returns-in-Some-clause-ok : goal.returns-in-Some-clause-ok
returns-in-Some-clause-ok g c =
    let s = c.in_ok-number.ensures.ok in
    on_ok c.put_response.result (λ held. (
      s.0,
      spelling c.in-Some.response,
      s.1,
      held,
      at_once_answered c.args.hub.now c.args.frame c.in-Some.response c.at_once.new.self s.0 c.in_ok-number.number s.2 s.3 c.in-Some.ensures.plays,
    )) c.put_response.ensures.ok

pub returns-in-Some-clause-err : goal.returns-in-Some-clause-err
returns-in-Some-clause-err g c =
    let s = c.in_ok-number.ensures.ok in
    both_err c.put_response.result (λ why other q. (
      s.0,
      take q.0 (spelling c.in-Some.response),
      s.1,
      q.1,
      stops_front why c.args.hub.now c.args.frame s.0 (take q.0 (spelling c.in-Some.response)) other
          (at_once_front c.args.hub.now c.args.frame c.in-Some.response c.at_once.new.self s.0 c.in_ok-number.number s.2 s.3 c.in-Some.ensures.plays q.0),
    )) c.put_response.ensures.unsalted c.put_response.ensures.err

pub returns-in_ok-work_all-in-None-clause-ok : goal.returns-in_ok-work_all-in-None-clause-ok
returns-in_ok-work_all-in-None-clause-ok g c =
    let s = c.in_ok-number.ensures.ok in
    on_ok c.put_queued.result (λ q. (
      s.0,
      flat_map spelling q.0,
      s.1,
      q.2,
      one_answered c.args.hub.now c.frame.new.self c.work_all.new.hub c.put_queued.new.hub c.args.frame s.0 c.in_ok-number.number c.frame.result q.0 s.2 s.3 (as_it_was c.args.hub.now c.at_once.new.self c.frame.new.self c.args.frame c.in_ok-number.number c.frame.result c.in-None.ensures.none c.frame.ensures.plays) c.in_ok-happened-in-None.ensures c.in_ok-work_all-in-None.ensures q.1,
    )) c.put_queued.ensures.ok

pub returns-in_ok-work_all-in-None-clause-err : goal.returns-in_ok-work_all-in-None-clause-err
returns-in_ok-work_all-in-None-clause-err g c =
    let s = c.in_ok-number.ensures.ok in
    both_err c.put_queued.result (λ why other q. (
      s.0,
      q.0,
      s.1,
      q.1,
      stops_front why c.args.hub.now c.args.frame s.0 q.0 other
          (answer_front c.args.hub.now c.frame.new.self c.work_all.new.hub c.args.frame s.0 c.in_ok-number.number c.frame.result q.0 s.2 s.3 (as_it_was c.args.hub.now c.at_once.new.self c.frame.new.self c.args.frame c.in_ok-number.number c.frame.result c.in-None.ensures.none c.frame.ensures.plays) c.in_ok-happened-in-None.ensures c.in_ok-work_all-in-None.ensures q.2),
    )) c.put_queued.ensures.unsalted c.put_queued.ensures.err

pub returns-in_err-happened-in-None-clause-err : goal.returns-in_err-happened-in-None-clause-err
returns-in_err-happened-in-None-clause-err g c =
    let s = c.in_ok-number.ensures.ok in
    at_err _ c.from_residual-in_err-happened-in-None.result stop.NoMemory c.from_residual-in_err-happened-in-None.ensures.1
    (s.0, [], s.1, appends_nothing (g.O.Sink.held c.args.sink.now), record { as_many = s.2; front = inl refl })

pub returns-in_err-work_all-in-None-clause-err : goal.returns-in_err-work_all-in-None-clause-err
returns-in_err-work_all-in-None-clause-err g c =
    let s = c.in_ok-number.ensures.ok in
    at_err _ c.from_residual-in_err-work_all-in-None.result stop.NoMemory c.from_residual-in_err-work_all-in-None.ensures.1
    (s.0, [], s.1, appends_nothing (g.O.Sink.held c.args.sink.now), record { as_many = s.2; front = inl refl })
