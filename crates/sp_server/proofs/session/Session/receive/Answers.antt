use Rattle.std.proofs.Common.{◌≡◌, ◌-◌, ◌<◌, ◌++◌, None, length, take, ap, sym, subst, ◌∙◌, arith}
use Rattle.std.specs.Prelude.{min}
use Rattle.sp_server.specs.declared.stdio.StdioEnd.TheVariants as end
use Rattle.sp_server.specs.Stdio.{most_input}
use Rattle.sp_server.specs.Session.{IsAt, IsStopText, IsServedBy}
use Rattle.sp_server.proofs.Moves.{at_err, moves_then, moves_text}
use Rattle.sp_server.proofs.SessionLaws.{stop_part, take_most, whole_piece, too_much, broken_serves, much_serves, empty_slice, some_slice}
use Rattle.sp_server.proofs.session.Session.receive.Goals as goal

pub returns-in_err-fault-clause-err : goal.returns-in_err-fault-clause-err
returns-in_err-fault-clause-err g c =
    let why = c.in_err-fault.field-0.0 in
    at_err _ c.from_residual.result why c.from_residual.ensures.1 (λ input before written is.
    let piece = c.args.piece.now in
    let first = subst (λ front. take most_input (input ++ piece) ≡ input ++ front) (sym c.split_at.ensures.front) (take_most input piece c.min-room.result is.within (c.min-room.ensures ∙ ap (λ n. min (most_input - n) (length piece)) is.fed)) in
    let e = c.in_err-fault.ensures.err input before written is in
    (e.0, e.1, e.2, e.3, subst (λ input. IsStopText why input (before ++ e.0) (written ++ e.1)) (sym first) e.4))

pub break_off-requires-clause-at : goal.break_off-requires-clause-at
break_off-requires-clause-at g c =
    let input = c.requires.at.0 in
    let before = c.requires.at.1 in
    let written = c.requires.at.2 in
    let front = c.split_at.result.0.now in
    let t = c.in_ok-fault.ensures.ok input before written c.requires.at.3 in
    (input ++ front, before ++ t.0, written ++ t.1, subst (λ fault. IsAt c.feed.new.self fault (input ++ front) (before ++ t.0) (written ++ t.1)) c.in-Some.is t.4)

pub returns-in_err-offset-in-Some-clause-err : goal.returns-in_err-offset-in-Some-clause-err
returns-in_err-offset-in-Some-clause-err g c =
    let why = c.in_err-offset-in-Some.field-0.0 in
    at_err _ c.from_residual-in_err-offset-in-Some.result why c.from_residual-in_err-offset-in-Some.ensures.1 (λ input before written is.
    let held = g.O.Sink.held in
    let drawn = g.S.Salt.drawn in
    let piece = c.args.piece.now in
    let front = c.split_at.result.0.now in
    let t = c.in_ok-fault.ensures.ok input before written is in
    let at = subst (λ fault. IsAt c.feed.new.self fault (input ++ front) (before ++ t.0) (written ++ t.1)) c.in-Some.is t.4 in
    let first = subst (λ front. take most_input (input ++ piece) ≡ input ++ front) (sym c.split_at.ensures.front) (take_most input piece c.min-room.result is.within (c.min-room.ensures ∙ ap (λ n. min (most_input - n) (length piece)) is.fed)) in
    let e = c.in_err-offset-in-Some.ensures.err (input ++ front) (before ++ t.0) (written ++ t.1) at in
    let part = stop_part why (input ++ front) (before ++ t.0) ((written ++ t.1) ++ e.0) c.in_err-offset-in-Some.ensures.unsalted e.2 in
    let all = subst (λ input. IsStopText why input (before ++ t.0) ((written ++ t.1) ++ e.0)) (sym first) part in
    moves_then (drawn c.args.salt.now) (drawn c.feed.new.salt) (drawn c.feed.new.salt) (held c.args.sink.now) (held c.feed.new.sink) (held c.break_off.new.sink)
    _ (IsStopText why (take most_input (input ++ piece))) before written t
    (moves_text (drawn c.feed.new.salt) (held c.feed.new.sink) (held c.break_off.new.sink) (IsStopText why (take most_input (input ++ piece))) (before ++ t.0) (written ++ t.1) e.0 e.1 all))

pub returns-in_ok-offset-in-Some-clause-ends : goal.returns-in_ok-offset-in-Some-clause-ends
returns-in_ok-offset-in-Some-clause-ends g c = λ input before written is.
    let held = g.O.Sink.held in
    let drawn = g.S.Salt.drawn in
    let piece = c.args.piece.now in
    let front = c.split_at.result.0.now in
    let t = c.in_ok-fault.ensures.ok input before written is in
    let at = subst (λ fault. IsAt c.feed.new.self fault (input ++ front) (before ++ t.0) (written ++ t.1)) c.in-Some.is t.4 in
    let first = subst (λ front. take most_input (input ++ piece) ≡ input ++ front) (sym c.split_at.ensures.front) (take_most input piece c.min-room.result is.within (c.min-room.ensures ∙ ap (λ n. min (most_input - n) (length piece)) is.fed)) in
    let out = c.in_ok-offset-in-Some.ensures.ok (input ++ front) (before ++ t.0) (written ++ t.1) at in
    let offset = c.in_ok-offset-in-Some.offset in
    let serves = broken_serves offset c.in-Some.fault (input ++ piece) (input ++ front) (before ++ t.0) ((written ++ t.1) ++ out.0) first (out.2, out.3) in
    moves_then (drawn c.args.salt.now) (drawn c.feed.new.salt) (drawn c.feed.new.salt) (held c.args.sink.now) (held c.feed.new.sink) (held c.break_off.new.sink)
    _ (IsServedBy (end.BadAt offset) (input ++ piece)) before written t
    (moves_text (drawn c.feed.new.salt) (held c.feed.new.sink) (held c.break_off.new.sink) (IsServedBy (end.BadAt offset) (input ++ piece)) (before ++ t.0) (written ++ t.1) out.0 out.1 serves)

pub returns-in-None-clause-goes_on : goal.returns-in-None-clause-goes_on
returns-in-None-clause-goes_on g c = λ input before written is.
    let piece = c.args.piece.now in
    let front = c.split_at.result.0.now in
    let t = c.in_ok-fault.ensures.ok input before written is in
    let at = subst (λ fault. IsAt c.feed.new.self fault (input ++ front) (before ++ t.0) (written ++ t.1)) c.in-None.is t.4 in
    let same : front ≡ piece = c.split_at.ensures.front ∙ whole_piece piece c.min-room.result (sym c.split_at.ensures.back ∙ empty_slice c.split_at.result.1.now c.is_empty.result c.is_empty.ensures c.if-is_empty.true) in
    (t.0, t.1, t.2, t.3, subst (λ front. IsAt c.feed.new.self None (input ++ front) (before ++ t.0) (written ++ t.1)) same at)

pub returns-in-None-2-clause-ends : goal.returns-in-None-2-clause-ends
returns-in-None-2-clause-ends g c = λ input before written is.
    let piece = c.args.piece.now in
    let room = c.min-room.result in
    let front = c.split_at.result.0.now in
    let t = c.in_ok-fault.ensures.ok input before written is in
    let some = some_slice c.split_at.result.1.now c.is_empty.result c.is_empty.ensures c.if-is_empty.false in
    let back = c.split_at.ensures.back_len in
    let within : room < length piece = omega arith in
    let at = subst (λ fault. IsAt c.feed.new.self fault (input ++ front) (before ++ t.0) (written ++ t.1)) c.in-None-2.is t.4 in
    let first = subst (λ front. take most_input (input ++ piece) ≡ input ++ front) (sym c.split_at.ensures.front) (take_most input piece room is.within (c.min-room.ensures ∙ ap (λ n. min (most_input - n) (length piece)) is.fed)) in
    let much = too_much input piece room (c.min-room.ensures ∙ ap (λ n. min (most_input - n) (length piece)) is.fed) within in
    (t.0, t.1, t.2, t.3, much_serves c.feed.new.self (input ++ piece) (input ++ front) (before ++ t.0) (written ++ t.1) first much at)
