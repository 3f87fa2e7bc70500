use Rattle.std.proofs.Common.{◌∙◌}
use Rattle.sp_server.proofs.Moves.{always_err}
use Rattle.sp_server.proofs.session.Session.break_off.Goals as goal

pub returns-in_err-close-clause-err : goal.returns-in_err-close-clause-err
returns-in_err-close-clause-err g c = always_err c.from_residual.result (λ input salts before is.
    c.in_err-close.ensures.err input salts before c.args.self.now.framer.rest c.offset-offset.result is.answered is.met (c.offset-offset.ensures ∙ is.fed))

pub returns-clause-ok : goal.returns-clause-ok
returns-clause-ok g c = λ input salts before is.
    c.in_ok-close.ensures.ok input salts before c.args.self.now.framer.rest c.offset-offset.result is.answered is.met (c.offset-offset.ensures ∙ is.fed)
