use Rattle.std.proofs.Common.{◌++◌, None, take, subst, arith}
use Rattle.sp_server.specs.declared.stdio.StdioEnd.TheVariants as end
use Rattle.sp_server.specs.Session.{Moves, IsAt, IsStopText, IsServedBy}
use Rattle.sp_server.specs.Stdio.{most_input, IsServed}
use Rattle.sp_server.proofs.RunLaws.{told, start, at_stop, at_some, at_none, begun, input_failed, input_unread, finished, never_salt, broken, cut, goes_on, less_to_come, some_piece}
use Rattle.sp_server.proofs.stdio.serve.Goals as goal

pub returns-in_err-session-clause-serves : goal.returns-in_err-session-clause-serves
returns-in_err-session-clause-serves g c =
    let i = g.I.Source in
    let o = g.O.Sink in
    let s = g.S.Salt in
    let old = told (i.left c.args.source.now) (i.passed c.args.source.now) (o.held c.args.sink.now) (s.drawn c.args.salt.now) in
    let why = c.in_err-session.field-0.0 in
    at_stop (IsServed old (told (i.left c.args.source.now) (i.passed c.args.source.now) (o.held c.begin.new.sink) (s.drawn c.args.salt.now))) c.from_residual.result why c.from_residual.ensures.1
    (begun why (i.left c.args.source.now) (i.passed c.args.source.now) (o.held c.args.sink.now) (o.held c.begin.new.sink) (s.drawn c.args.salt.now) c.in_err-session.ensures.unsalted c.in_err-session.ensures.err)

pub loop-piece-init : goal.loop-piece-init
loop-piece-init g c =
    let i = g.I.Source in
    let o = g.O.Sink in
    let s = g.S.Salt in
    let later = c.in_ok-session.ensures.cause.later in
    record {
      so = start c.in_ok-session.session (i.left c.args.source.now) (i.passed c.args.source.now) (o.held c.args.sink.now) (o.held c.begin.new.sink) (s.drawn c.args.salt.now) c.in_ok-session.ensures.ok c.in_ok-session.ensures.banner;
      sourced = omega arith;
      sunk = omega arith;
      salted = omega arith;
      unread = c.requires.source;
      «open» = c.in_ok-session.ensures.open;
    }

pub returns-in-Err-Failed-clause-serves : goal.returns-in-Err-Failed-clause-serves
returns-in-Err-Failed-clause-serves g c =
    let i = g.I.Source in
    let o = g.O.Sink in
    let s = g.S.Salt in
    let old = told (i.left c.args.source.now) (i.passed c.args.source.now) (o.held c.args.sink.now) (s.drawn c.args.salt.now) in
    let mid = told (i.left c.loop-piece.source) (i.passed c.loop-piece.source) (o.held c.loop-piece.sink) (s.drawn c.loop-piece.salt) in
    let so = c.loop-piece.invariant.so in
    input_failed c.loop-piece.session old mid (i.left c.take.new.self) (i.passed c.take.new.self) so c.in-Err-Failed.ensures.left c.in-Err-Failed.ensures.passed

pub returns-in-Err-NoMemory-clause-serves : goal.returns-in-Err-NoMemory-clause-serves
returns-in-Err-NoMemory-clause-serves g c =
    let i = g.I.Source in
    let o = g.O.Sink in
    let s = g.S.Salt in
    let old = told (i.left c.args.source.now) (i.passed c.args.source.now) (o.held c.args.sink.now) (s.drawn c.args.salt.now) in
    let mid = told (i.left c.loop-piece.source) (i.passed c.loop-piece.source) (o.held c.loop-piece.sink) (s.drawn c.loop-piece.salt) in
    let so = c.loop-piece.invariant.so in
    input_unread c.loop-piece.session old mid (i.left c.take.new.self) (i.passed c.take.new.self) so c.in-Err-NoMemory.ensures.left c.in-Err-NoMemory.ensures.passed

pub returns-then-is_empty-clause-serves : goal.returns-then-is_empty-clause-serves
returns-then-is_empty-clause-serves g c =
    let i = g.I.Source in
    let o = g.O.Sink in
    let s = g.S.Salt in
    let old = told (i.left c.args.source.now) (i.passed c.args.source.now) (o.held c.args.sink.now) (s.drawn c.args.salt.now) in
    let mid = told (i.left c.loop-piece.source) (i.passed c.loop-piece.source) (o.held c.loop-piece.sink) (s.drawn c.loop-piece.salt) in
    let so = c.loop-piece.invariant.so in
    let none = c.is_empty.ensures.0 c.if-is_empty.true in
    finished c.loop-piece.session c.finish.result c.take.new.piece old mid (i.left c.take.new.self) (i.passed c.take.new.self) (o.held c.finish.new.sink) so none c.in-Ok.ensures.left c.in-Ok.ensures.passed (c.in-Ok.ensures.end none)
    c.finish.ensures.ok c.finish.ensures.err c.finish.ensures.unsalted

pub returns-then-is_empty-clause-salt : goal.returns-then-is_empty-clause-salt
returns-then-is_empty-clause-salt g c = λ e. absurd (never_salt c.finish.result c.finish.ensures.outside c.finish.ensures.unsalted e)

pub returns-in_err-end-clause-serves : goal.returns-in_err-end-clause-serves
returns-in_err-end-clause-serves g c =
    let i = g.I.Source in
    let o = g.O.Sink in
    let s = g.S.Salt in
    let old = told (i.left c.args.source.now) (i.passed c.args.source.now) (o.held c.args.sink.now) (s.drawn c.args.salt.now) in
    let mid = told (i.left c.loop-piece.source) (i.passed c.loop-piece.source) (o.held c.loop-piece.sink) (s.drawn c.loop-piece.salt) in
    let so = c.loop-piece.invariant.so in
    let new = told (i.left c.take.new.self) (i.passed c.take.new.self) (o.held c.receive.new.sink) (s.drawn c.receive.new.salt) in
    let why = c.in_err-end.field-0.0 in
    let part = subst (λ piece. Moves mid.drawn new.drawn mid.held new.held (λ salts text. IsStopText why (take most_input (so.taken ++ piece)) (so.salts ++ salts) (so.text ++ text))) c.slice.ensures.value (c.in_err-end.ensures.err so.taken so.salts so.text so.reached) in
    at_stop (IsServed old new) c.from_residual-in_err-end.result why c.from_residual-in_err-end.ensures.1
    (cut c.loop-piece.session why c.take.new.piece old mid new so c.in-Ok.ensures.left c.in-Ok.ensures.passed c.slice.ensures.fits part)

pub returns-in-Some-clause-serves : goal.returns-in-Some-clause-serves
returns-in-Some-clause-serves g c =
    let i = g.I.Source in
    let o = g.O.Sink in
    let s = g.S.Salt in
    let old = told (i.left c.args.source.now) (i.passed c.args.source.now) (o.held c.args.sink.now) (s.drawn c.args.salt.now) in
    let mid = told (i.left c.loop-piece.source) (i.passed c.loop-piece.source) (o.held c.loop-piece.sink) (s.drawn c.loop-piece.salt) in
    let so = c.loop-piece.invariant.so in
    let new = told (i.left c.take.new.self) (i.passed c.take.new.self) (o.held c.receive.new.sink) (s.drawn c.receive.new.salt) in
    let ends = at_some _ c.in_ok-end.field-0 c.in-Some.end c.in-Some.is c.in_ok-end.ensures.ends so.taken so.salts so.text so.reached in
    let behind = subst (λ piece. Moves mid.drawn new.drawn mid.held new.held (λ salts text. IsServedBy c.in-Some.end (so.taken ++ piece) (so.salts ++ salts) (so.text ++ text))) c.slice.ensures.value ends in
    broken c.loop-piece.session c.in-Some.end c.take.new.piece old mid new so c.in-Ok.ensures.left c.in-Ok.ensures.passed (at_some _ c.in_ok-end.field-0 c.in-Some.end c.in-Some.is c.in_ok-end.ensures.unread) behind

pub loop-piece-smaller : goal.loop-piece-smaller
loop-piece-smaller g c =
    let so = c.loop-piece.invariant.so in
    let on = at_none c.in_ok-end.field-0 c.in_default.not-Some c.in_ok-end.ensures.goes_on so.taken so.salts so.text so.reached in
    let some = some_piece c.take.new.piece c.is_empty.result c.is_empty.ensures c.if-is_empty.false in
    less_to_come c.loop-piece.session c.receive.new.self so.taken c.slice.result.now so.salts so.text (so.salts ++ on.0) (so.text ++ on.1) so.reached on.4 (rw (c.slice.ensures.value) some)

pub loop-piece-preserved : goal.loop-piece-preserved
loop-piece-preserved g c =
    let i = g.I.Source in
    let o = g.O.Sink in
    let s = g.S.Salt in
    let old = told (i.left c.args.source.now) (i.passed c.args.source.now) (o.held c.args.sink.now) (s.drawn c.args.salt.now) in
    let mid = told (i.left c.loop-piece.source) (i.passed c.loop-piece.source) (o.held c.loop-piece.sink) (s.drawn c.loop-piece.salt) in
    let so = c.loop-piece.invariant.so in
    let new = told (i.left c.take.new.self) (i.passed c.take.new.self) (o.held c.receive.new.sink) (s.drawn c.receive.new.salt) in
    let on = at_none c.in_ok-end.field-0 c.in_default.not-Some c.in_ok-end.ensures.goes_on so.taken so.salts so.text so.reached in
    let sourced = c.loop-piece.invariant.sourced in
    let taken = c.in-Ok.ensures.cause.later in
    let sunk = c.loop-piece.invariant.sunk in
    let put = c.in_ok-end.ensures.cause.later in
    let salted = c.loop-piece.invariant.salted in
    let drew = c.in_ok-end.ensures.salt.later in
    record {
      so = goes_on c.loop-piece.session c.receive.new.self c.take.new.piece old mid new so c.in-Ok.ensures.left c.in-Ok.ensures.passed
          (on.0, on.1, on.2, on.3, subst (λ piece. IsAt c.receive.new.self None (so.taken ++ piece) (so.salts ++ on.0) (so.text ++ on.1)) c.slice.ensures.value on.4);
      sourced = omega arith;
      sunk = omega arith;
      salted = omega arith;
      unread = c.in-Ok.ensures.open;
      «open» = c.in_ok-end.ensures.open;
    }
