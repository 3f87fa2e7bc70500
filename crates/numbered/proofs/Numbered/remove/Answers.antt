use Rattle.std.proofs.Common.{◌≡◌, Some, sym, ap, ◌∙◌, subst}
use Rattle.numbered.specs.Book.{Book, number_at, item_at}
use Rattle.numbered.proofs.BookLemmas.{value_here, value_of, remove_view}
use Rattle.numbered.proofs.Numbered.remove.Goals as goal

pub returns-clause-value : goal.returns-clause-value
returns-clause-value g c =
    subst (λ (b : Book g.row.T.Denot). Some c.remove.result.value ≡ item_at b.items (number_at b c.args.key)) c.self.view_is
    (sym (value_here _ _ c.args.key c.self.invariant.numbers ∙ ap value_of c.remove.ensures.value))

pub returns-clause-after : goal.returns-clause-after
returns-clause-after g c n = remove_view _ _ _ _ c.args.key n _ _ c.self.view_is c.self.invariant.numbers c.remove.ensures.value c.remove.ensures.slots
