use Rattle.std.proofs.Common.{ap}
use Rattle.hub_model.specs.State.{Played}
use Rattle.sp_server.proofs.Moves.{on_ok, on_err}
use Rattle.sp_server.proofs.SessionLaws.{out_behind, part_end}
use Rattle.sp_server.proofs.session.Session.close.Goals as goal

pub returns-clause-ok : goal.returns-clause-ok
returns-clause-ok g c =
    let held = g.O.Sink.held in
    let same = ap (λ (p : Played). p.1) c.ended.ensures.plays in
    on_ok c.put_queued.result (λ q input salts before rest offset is ends place.
    out_behind input salts before rest offset c.args.how c.args.self.now.hub c.ended.new.self c.put_queued.new.hub q.0 (held c.args.sink.now) (held c.put_queued.new.sink) is ends place same q.1 q.2) c.put_queued.ensures.ok

pub returns-clause-err : goal.returns-clause-err
returns-clause-err g c =
    let same = ap (λ (p : Played). p.1) c.ended.ensures.plays in
    on_err c.put_queued.result (λ q input salts before rest offset is ends place.
    (q.0, q.1, part_end input salts before rest q.0 offset c.args.how c.args.self.now.hub c.ended.new.self is ends place same q.2)) c.put_queued.ensures.err
