use Rattle.std.proofs.Common.{◌≡◌, Some, sym, ap, ◌∙◌, subst}
use Rattle.numbered.specs.Book.{Book, IsBook, number_at, item_at}
use Rattle.numbered.proofs.BookLemmas.{sound_book, value_here, value_of}
use Rattle.numbered.proofs.Numbered.get.Goals as goal

pub returns-in-Some-clause-value : goal.returns-in-Some-clause-value
returns-in-Some-clause-value g c =
    subst (λ (b : Book g.row.T.Denot). Some c.in-Some.item.now.value ≡ item_at b.items (number_at b c.args.key)) c.self.view_is
    (sym (value_here _ _ c.args.key c.self.invariant.numbers ∙ ap value_of (sym c.in-Some.ensures)))

pub returns-in-Some-clause-sound : goal.returns-in-Some-clause-sound
returns-in-Some-clause-sound g c = subst IsBook c.self.view_is (sound_book _ _ _ c.self.invariant.numbers)

pub returns-in-None-clause-sound : goal.returns-in-None-clause-sound
returns-in-None-clause-sound g c = subst IsBook c.self.view_is (sound_book _ _ _ c.self.invariant.numbers)
