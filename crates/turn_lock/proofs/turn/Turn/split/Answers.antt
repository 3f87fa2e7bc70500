use Rattle.std.proofs.Common.{◌∙◌, ap, sym, arith}
use Rattle.turn_lock.proofs.Splitting.{splits}
use Rattle.turn_lock.proofs.turn.Turn.split.Goals as goal

pub split_seat-seat-requires : goal.split_seat-seat-requires
split_seat-seat-requires g c =
    let w = c.self.invariant.0 in
    (ap (λ p. p.turn) c.pass.view_is ∙ c.requires.of ∙ sym c.self.view_is, omega arith, splits g.O.Object.step _ _ _ c.pass.invariant.1)
