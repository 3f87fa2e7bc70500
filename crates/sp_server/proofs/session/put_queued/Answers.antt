use Rattle.std.proofs.Common.{◌++◌, ap, ◌∙◌}
use Rattle.std.specs.List.{flat_map}
use Rattle.sp_frames.specs.Grammar.{spelling}
use Rattle.sp_server.proofs.Moves.{always_err}
use Rattle.sp_server.proofs.SessionLaws.{queue_front}
use Rattle.sp_server.proofs.session.put_queued.Goals as goal

pub returns-in_err-put_all-clause-err : goal.returns-in_err-put_all-clause-err
returns-in_err-put_all-clause-err g c =
    let held = g.O.Sink.held in
    let out = c.in_ok-hand_out.ensures in
    always_err c.from_residual-in_err-put_all.result
    (queue_front (held c.args.sink.now) (held c.put_all.new.sink) c.args.hub.now c.hand_out.new.hub out.0 c.slice.result.now out.1 (c.slice.ensures.value ∙ out.2 ∙ ap (λ t. t ++ flat_map spelling out.0) c.empty_text-text.ensures) c.in_err-put_all.ensures.front)
