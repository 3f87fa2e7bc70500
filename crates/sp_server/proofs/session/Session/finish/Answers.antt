use Rattle.std.proofs.Common.{◌∙◌, length}
use Rattle.sp_server.proofs.Moves.{always_err}
use Rattle.sp_server.proofs.SessionLaws.{is_inside, is_between, none_left}
use Rattle.sp_server.proofs.session.Session.finish.Goals as goal

pub returns-in_err-close-clause-err : goal.returns-in_err-close-clause-err
returns-in_err-close-clause-err g c = always_err c.from_residual.result (λ input salts before is.
    let rest = c.args.self.now.framer.rest in
    c.in_err-close.ensures.err input salts before rest c.offset-offset.result is.answered (is_inside c.inside.result rest c.inside.ensures c.if-inside.true, is.met) (c.offset-offset.ensures ∙ is.fed))

pub returns-in_ok-close-clause-ok : goal.returns-in_ok-close-clause-ok
returns-in_ok-close-clause-ok g c = λ input salts before is.
    let rest = c.args.self.now.framer.rest in
    let out = c.in_ok-close.ensures.ok input salts before rest c.offset-offset.result is.answered (is_inside c.inside.result rest c.inside.ensures c.if-inside.true, is.met) (c.offset-offset.ensures ∙ is.fed) in
    (out.0, out.1, (out.2, (is.within, out.3)))

pub returns-in_err-close-2-clause-err : goal.returns-in_err-close-2-clause-err
returns-in_err-close-2-clause-err g c = always_err c.from_residual-in_err-close-2.result (λ input salts before is.
    let rest = c.args.self.now.framer.rest in
    let none = is_between c.inside.result rest c.inside.ensures c.if-inside.false in
    c.in_err-close-2.ensures.err input salts before rest (length input) is.answered none (none_left input rest none))

pub returns-in_ok-close-2-clause-ok : goal.returns-in_ok-close-2-clause-ok
returns-in_ok-close-2-clause-ok g c = λ input salts before is.
    let rest = c.args.self.now.framer.rest in
    let none = is_between c.inside.result rest c.inside.ensures c.if-inside.false in
    let out = c.in_ok-close-2.ensures.ok input salts before rest (length input) is.answered none (none_left input rest none) in
    (out.0, out.1, (out.2, (is.within, out.3)))
