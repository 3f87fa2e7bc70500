use Rattle.std.proofs.Common.{◌≡◌, Some, None, IsSome, refl, sym, ap, ◌∙◌, subst, get_or}
use Rattle.std.proofs.Math.ListN.{set}
use Rattle.std.specs.Option.{option_copied_mut}
use Rattle.std.proofs.lemmas.Bool.{false≢true}
use Rattle.kern_local.specs.Listed.{Listed, entry}
use Rattle.kern_local.proofs.ListedLaws.{at_any, listed_set, below_next, changes_of}
use Rattle.kern_local.proofs.ledger.Ledger.value_mut.Goals as goal

pub unreachable-requires : goal.unreachable-requires
unreachable-requires g c =
    let e = ap (λ (l : Listed g.row.T.Denot). get_or l.items c.args.number None) (sym c.self.view_is) ∙ (at_any _ _ _ c.args.number c.self.invariant ∙ (sym c.get_mut.ensures.value ∙ ap option_copied_mut c.in-None.is)) in
    false≢true (subst IsSome e c.requires)

pub returns : goal.returns
returns g c =
    let found : entry c.self.inside.entries c.args.number ≡ Some c.in-Some.value.now = sym c.get_mut.ensures.value ∙ ap option_copied_mut c.in-Some.is in
    let live = subst (λ (l : Listed g.row.T.Denot). IsSome (get_or l.items c.args.number None)) (sym c.self.view_is) c.requires in
    let below = below_next _ _ _ c.args.number c.self.invariant live in (
      (
        refl,
        λ w. let h = (c.get_mut.follows.holds w).3 (subst IsSome (sym found) refl) in
            ap (λ l. record { items = l; room = c.self.inside.room }) (listed_set _ _ _ c.args.number (Some w) below (changes_of _ _ _ _ h))
            ∙ ap (λ (l : Listed g.row.T.Denot). record l { items = set l.items c.args.number (Some w) }) c.self.view_is,
      ),
      record {
        writes_back = tt;
        value = ap (λ (l : Listed g.row.T.Denot). get_or l.items c.args.number None) (sym c.self.view_is) ∙ (at_any _ _ _ c.args.number c.self.invariant ∙ found);
      },
    )
