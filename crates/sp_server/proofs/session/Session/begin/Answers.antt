use Rattle.std.proofs.Common.{refl, ap, subst, ◌∙◌}
use Rattle.sp_frames.specs.Framing.{IsStop}
use Rattle.hub_model.specs.declared.event.Event.TheVariants as event
use Rattle.sp_server.specs.declared.session.Session.{Session}
use Rattle.sp_server.specs.Serving.{after}
use Rattle.sp_server.specs.Stdio.{connection}
use Rattle.sp_server.proofs.Refusing.{opened_is}
use Rattle.sp_server.proofs.Moves.{always_err}
use Rattle.sp_server.proofs.SessionLaws.{at_begin, part_at_start, part_in_banner}
use Rattle.sp_server.proofs.session.Session.begin.Goals as goal

pub returns-in_err-hub-clause-err : goal.returns-in_err-hub-clause-err
returns-in_err-hub-clause-err g c = always_err c.from_residual.result (part_at_start c.fresh-framer.result (g.O.Sink.held c.args.sink.now) c.fresh-framer.ensures.follows)

pub returns-in_err-happened-clause-err : goal.returns-in_err-happened-clause-err
returns-in_err-happened-clause-err g c = always_err c.from_residual-in_err-happened.result (part_at_start c.fresh-framer.result (g.O.Sink.held c.args.sink.now) c.fresh-framer.ensures.follows)

pub returns-clause-ok : goal.returns-clause-ok
returns-clause-ok g c =
    let f = c.fresh-framer.ensures in
    let s : Session = record { alloc = c.args.alloc; hub = c.opened.new.self; framer = c.fresh-framer.result; room = c.new.result; fed = 0 } in
    let same = opened_is c.in_ok-hub.hub c.opened.new.self connection c.opened.result c.opened.ensures.plays c.in_ok-happened.ensures in
    at_begin s f.ready f.rest f.stop f.follows (subst (λ held. IsStop held.stop held.rest) c.framer.view_is c.framer.invariant.stopped) (same ∙ ap (λ m. after m (event.Opened connection)) c.in_ok-hub.ensures) refl

pub returns-in_err-put_all-clause-err : goal.returns-in_err-put_all-clause-err
returns-in_err-put_all-clause-err g c =
    let held = g.O.Sink.held in
    let front = c.in_err-put_all.ensures.front in
    always_err c.from_residual-in_err-put_all.result
    (part_in_banner c.fresh-framer.result (held c.args.sink.now) (held c.put_all.new.sink) front.0 c.fresh-framer.ensures.follows front.1)
