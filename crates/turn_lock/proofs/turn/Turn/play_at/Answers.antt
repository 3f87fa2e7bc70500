use Rattle.std.proofs.Common.{◌∙◌, sym, arith, subst}
use mathlib.Core.Option as maybe
use Rattle.atomic_table.specs.Table.{step}
use Rattle.turn_lock.specs.Rule.{Tells}
use Rattle.turn_lock.proofs.Chain.{commit_ok, free_ok, played_ok}
use Rattle.turn_lock.proofs.turn.Turn.play_at.Goals as goal

pub fetch_add-requires : goal.fetch_add-requires
fetch_add-requires g c =
    let t = c.take_turn.ensures in
    let k = c.take_object-object.ensures in
    let p = c.put_object.ensures in
    let w = c.self.invariant.0 in
    let told = subst (λ e. Tells c.put_object.new.seat.me.1 c.play-reply.new.self e c.play-reply.result) c.of-told.ensures p.told in
    (p.of ∙ k.of ∙ t.of ∙ c.requires.of ∙ sym c.self.view_is, omega arith, commit_ok g.O.Object.step _ _ _ (step 1 1 1 0 maybe.none) c.args.seat.now.me c.take_turn.new.seat.me c.put_object.new.seat.me _ _ c.args.event _ t.took k.object (p.view ∙ k.view) told c.play-reply.ensures)

pub store-requires : goal.store-requires
store-requires g c =
    let t = c.take_turn.ensures in
    let k = c.take_object-object.ensures in
    let p = c.put_object.ensures in
    let f = c.fetch_add.ensures in
    let w = c.self.invariant.0 in
    (f.0 ∙ p.of ∙ k.of ∙ t.of ∙ c.requires.of ∙ sym c.self.view_is, omega arith, free_ok g.O.Object.step _ _ _ (step 1 1 1 0 maybe.none) (step 1 0 0 0 maybe.none) c.put_object.new.seat.me c.fetch_add.new.seat.me c.fetch_add.result _ _ _ p.told f.2)

pub returns-clause-played : goal.returns-clause-played
returns-clause-played g c =
    let t = c.take_turn.ensures in
    let k = c.take_object-object.ensures in
    let p = c.put_object.ensures in
    let told = subst (λ e. Tells c.put_object.new.seat.me.1 c.play-reply.new.self e c.play-reply.result) c.of-told.ensures p.told in
    played_ok g.O.Object.step (step 1 1 1 0 maybe.none) c.args.seat.now.me c.take_turn.new.seat.me c.put_object.new.seat.me c.fetch_add.new.seat.me c.store.new.seat.me c.fetch_add.result _ _ c.args.event _ t.took k.object (p.view ∙ k.view) told c.play-reply.ensures c.fetch_add.ensures.2 c.store.ensures.2
