use Rattle.std.proofs.Common.{◌∙◌, ap, sym, arith}
use Rattle.turn_lock.proofs.Joining.{joins}
use Rattle.turn_lock.proofs.turn.Turn.join.Goals as goal

pub join_seat-requires : goal.join_seat-requires
join_seat-requires g c =
    let w = c.self.invariant.0 in
    (ap (λ p. p.turn) c.pass.view_is ∙ c.requires.of ∙ sym c.self.view_is, ap (λ p. p.turn) c.other.view_is ∙ c.requires.other ∙ sym c.self.view_is, c.other.invariant.0, omega arith, joins g.O.Object.step _ _ _ _ _ c.pass.invariant.1 c.other.invariant.1)
