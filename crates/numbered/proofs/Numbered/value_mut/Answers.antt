use Rattle.std.proofs.Common.{◌≡◌, ℕ, Some, Option, refl, sym, ap, ◌∙◌, subst, arith}
use Rattle.numbered.specs.Book.{Book, number_at, item_at, put_at}
use Rattle.numbered.specs.Items.{number_of}
use Rattle.numbered.proofs.BookLemmas.{value_here, value_of, set_view, changed_ok, at_number, count_set}
use Rattle.numbered.proofs.Numbered.value_mut.Goals as goal

pub invariant_of-self-lent : goal.invariant_of-self-lent
invariant_of-self-lent g c w =
    let used = count_set c.self.inside.slots.slots c.args.key c.index_mut.result.now (record { number = c.index_mut.result.now.number; value = w }) c.index_mut.ensures.value in
    record {
      numbers = changed_ok _ _ _ c.index_mut.result.now (Some w) c.self.invariant.numbers c.index_mut.ensures.value;
      slots = omega (arith, used, c.self.invariant.slots);
      last = c.self.invariant.last;
    }

pub returns : goal.returns
returns g c =
    let n : number_at c.args.self.now c.args.key ≡ Some c.index_mut.result.now.number =
    ap (λ (b : Book g.row.T.Denot). number_at b c.args.key) (sym c.self.view_is) ∙ at_number c.self.inside.slots.slots c.args.key ∙ ap number_of c.index_mut.ensures.value in
    let value : item_at c.args.self.now.items (number_at c.args.self.now c.args.key) ≡ Some c.index_mut.result.now.value =
    subst (λ (b : Book g.row.T.Denot). item_at b.items (number_at b c.args.key) ≡ Some c.index_mut.result.now.value) c.self.view_is
    (value_here _ _ c.args.key c.self.invariant.numbers ∙ ap value_of c.index_mut.ensures.value) in (
      (
        refl,
        λ w. set_view _ _ _ c.args.key _ c.index_mut.result.now w _ c.self.view_is c.self.invariant.numbers c.index_mut.ensures.value n
            ∙ ap (λ (o : Option ℕ). record c.args.self.now { items = put_at c.args.self.now.items o w }) (sym n),
      ),
      record { writes_back = tt; value = value },
    )
