use Rattle.std.proofs.Common.{◌+◌, ◌-◌, subst}
use Rattle.numbered.specs.Book.{Book, Adds}
use Rattle.numbered.proofs.BookLemmas.{added, added_ok, book_of, sound_book}
use Rattle.numbered.proofs.Numbered.insert_reserved.Goals as goal

pub returns-clause-adds : goal.returns-clause-adds
returns-clause-adds g c =
    let made = c.insert_reserved-key.ensures in
    subst (λ (b : Book g.row.T.Denot). Adds b (book_of c.insert_reserved-key.new.self.slots (c.self.inside.next + 1) (c.self.inside.room - 1)) c.insert_reserved-key.result c.args.value) c.self.view_is
    (added _ _ _ _ _ c.self.invariant.numbers made.was_vacant made.updates.changed made.updates.others _ _)

pub returns-clause-sound : goal.returns-clause-sound
returns-clause-sound g c =
    let made = c.insert_reserved-key.ensures in
    sound_book _ _ _ (added_ok _ _ _ _ _ c.self.invariant.numbers made.was_vacant made.updates.changed made.updates.others)
