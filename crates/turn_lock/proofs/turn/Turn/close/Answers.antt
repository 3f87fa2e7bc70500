use Rattle.std.proofs.Common.{ap, sym, subst}
use Rattle.turn_lock.specs.Passes.{Closes, IsWhole}
use Rattle.turn_lock.proofs.Chain.{closed}
use Rattle.turn_lock.proofs.turn.Turn.close.Goals as goal

pub returns : goal.returns
returns g c =
    let known = ap (λ p. p.known) c.pass.view_is in
    subst (λ k. Closes g.O.Object.step k c.take_object.result) known
    (closed g.O.Object.step c.pass.inside.seat.me c.take_turn.new.seat.me c.take_object.result (subst IsWhole (sym known) c.requires.whole) c.take_turn.ensures.took c.take_object.ensures.object)
