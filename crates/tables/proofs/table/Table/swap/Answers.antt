use Rattle.std.proofs.Common.{Some, IsSome, ap, sym, subst, refl, ◌∙◌}
use Rattle.std.specs.Option.{option_copied_mut}
use Rattle.std.specs.FinMap as map
use Rattle.std.proofs.lemmas.Bool.{false≢true}
use Rattle.tables.proofs.Entries.{get_lookup, inserted, there, again, back}
use Rattle.tables.proofs.table.Table.swap.Goals as goal

pub unreachable-requires : goal.unreachable-requires
unreachable-requires g c =
    let e = sym (ap (λ m. map.get m c.args.key) c.self.view_is) ∙ (get_lookup c.self.inside.items.entries c.args.key ∙ (sym c.get_mut.ensures.value ∙ ap option_copied_mut c.in-None.is)) in
    false≢true (subst IsSome e c.requires)

table : goal.returns-clause-table
table g c =
    let e = sym c.get_mut.ensures.value ∙ ap option_copied_mut c.in-Some.is in
    let h = (c.get_mut.follows.holds c.swap.new.x).3 (subst IsSome (sym e) refl) in
    inserted c.self.inside.items.entries (c.get_mut.follows.lender c.swap.new.x).entries c.args.key c.swap.new.x h.0
    ∙ (ap (λ m. map.insert m c.args.key c.swap.new.x) c.self.view_is ∙ ap (λ v. map.insert c.args.self.now c.args.key v) c.swap.ensures.x_after)

pub returns-clause-table : goal.returns-clause-table
returns-clause-table g c = table g c

pub returns-clause-there : goal.returns-clause-there
returns-clause-there g c = there c.args.self.now _ c.args.key c.args.value.now (table g c)

pub returns-clause-back : goal.returns-clause-back
returns-clause-back g c w h = back c.args.self.now _ c.args.key c.args.value.now w (table g c) h

pub returns-clause-again : goal.returns-clause-again
returns-clause-again g c w = again c.args.self.now _ c.args.key c.args.value.now w (table g c)

pub returns-clause-value : goal.returns-clause-value
returns-clause-value g c =
    let e = sym c.get_mut.ensures.value ∙ ap option_copied_mut c.in-Some.is in
    ap Some c.swap.ensures.y_after ∙ (sym e ∙ (sym (get_lookup c.self.inside.items.entries c.args.key) ∙ ap (λ m. map.get m c.args.key) c.self.view_is))
