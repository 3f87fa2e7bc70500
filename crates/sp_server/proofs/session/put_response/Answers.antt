use Rattle.sp_server.proofs.Moves.{always_err, appends_nothing}
use Rattle.sp_server.proofs.session.put_response.Goals as goal

pub returns-in_err-encode-clause-err : goal.returns-in_err-encode-clause-err
returns-in_err-encode-clause-err g c = always_err c.from_residual.result (0, appends_nothing (g.O.Sink.held c.args.sink.now))
