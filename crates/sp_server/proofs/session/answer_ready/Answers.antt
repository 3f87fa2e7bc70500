use Rattle.std.proofs.Common.{◌++◌, refl, ◌∙◌, sym, subst, arith}
use Rattle.sp_server.specs.Session.{IsBehind, IsAnsweredSoFar, IsStopText}
use Rattle.sp_server.proofs.Moves.{moves_nothing, moves_then, at_err}
use Rattle.sp_server.proofs.SessionLaws.{one_behind, all_behind, stop_answer}
use Rattle.sp_server.proofs.session.answer_ready.Goals as goal

pub loop-frame-init : goal.loop-frame-init
loop-frame-init g c =
    let held = g.O.Sink.held in
    let drawn = g.S.Salt.drawn in
    record {
      so = λ input before written is. moves_nothing (drawn c.args.salt.now) (held c.args.sink.now) (IsBehind c.args.framer.now c.args.hub.now input) before written is;
      rest = refl;
      stop = refl;
      later = omega arith;
      salted = omega arith;
      «open» = c.requires;
    }

pub loop-frame-preserved : goal.loop-frame-preserved
loop-frame-preserved g c =
    let held = g.O.Sink.held in
    let drawn = g.S.Salt.drawn in
    let a = c.in_ok-answer.ensures.ok in
    let later = c.in_ok-answer.ensures.cause.later in
    let before = c.loop-frame.invariant.later in
    let salted = c.in_ok-answer.ensures.salt.later in
    let salted_before = c.loop-frame.invariant.salted in
    record {
      so = λ input before written behind.
          let t = c.loop-frame.invariant.so input before written behind in
          moves_then (drawn c.args.salt.now) (drawn c.loop-frame.salt) (drawn c.answer.new.salt) (held c.args.sink.now) (held c.loop-frame.sink) (held c.answer.new.sink)
          _ (IsBehind c.next.new.self c.answer.new.hub input) before written t
          (a.0, a.1, a.2, a.3, one_behind c.loop-frame.framer c.next.new.self c.loop-frame.hub c.answer.new.hub input (before ++ t.0) (written ++ t.1) a.0 a.1 c.in-Some.frame c.in-Some.ensures.follows a.4 t.4);
      rest = c.in-Some.ensures.rest ∙ c.loop-frame.invariant.rest;
      stop = c.in-Some.ensures.stop ∙ c.loop-frame.invariant.stop;
      later = omega arith;
      salted = omega arith;
      «open» = c.in_ok-answer.ensures.open;
    }

pub returns-in_err-answer-clause-err : goal.returns-in_err-answer-clause-err
returns-in_err-answer-clause-err g c =
    let held = g.O.Sink.held in
    let drawn = g.S.Salt.drawn in
    let why = c.in_err-answer.field-0.0 in
    let e = c.in_err-answer.ensures.err in
    at_err _ c.from_residual.result why c.from_residual.ensures.1 (λ input before written behind.
    let t = c.loop-frame.invariant.so input before written behind in
    moves_then (drawn c.args.salt.now) (drawn c.loop-frame.salt) (drawn c.answer.new.salt) (held c.args.sink.now) (held c.loop-frame.sink) (held c.answer.new.sink)
    _ (IsStopText why input) before written t
    (e.0, e.1, e.2, e.3, stop_answer why c.loop-frame.framer c.next.new.self c.loop-frame.hub input (before ++ t.0) (written ++ t.1) e.0 e.1 c.in-Some.frame c.in-Some.ensures.follows c.in-Some.ensures.fits e.4 t.4))

pub returns-clause-ok : goal.returns-clause-ok
returns-clause-ok g c = λ input before written behind.
    let t = c.loop-frame.invariant.so input before written behind in (
      t.0,
      t.1,
      t.2,
      t.3,
      subst (λ rest. IsAnsweredSoFar input (before ++ t.0) (written ++ t.1) rest c.loop-frame.hub) (sym c.in_default.ensures.rest)
          (all_behind c.loop-frame.framer c.loop-frame.hub input (before ++ t.0) (written ++ t.1) c.in_default.ensures.next t.4),
    )
