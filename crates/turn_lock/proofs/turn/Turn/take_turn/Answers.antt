use Rattle.std.proofs.Common.{◌∙◌, ap, sym, arith}
use mathlib.Core.Option as maybe
use Rattle.atomic_table.specs.Table.{step}
use Rattle.turn_lock.proofs.Turns.{tries_as}
use Rattle.turn_lock.proofs.turn.Turn.take_turn.Goals as goal

pub compare_exchange-requires : goal.compare_exchange-requires
compare_exchange-requires g c =
    let i = c.loop.invariant in
    let d = c.requires.idle in
    let w = c.self.invariant.0 in
    (i.2 ∙ c.requires.of ∙ sym c.self.view_is, omega arith, tries_as g.O.Object.step _ _ _ c.loop.seat.me (step 1 0 0 1 maybe.none) (ap (λ m. m.1) i.4 ∙ d.0) (ap (λ m. m.0.stage) i.4 ∙ d.1))
