use Rattle.sp_hub.proofs.RoomLaws.{room_removed}
use Rattle.sp_hub.proofs.connection.Connection.take.Goals as goal

pub invariant_of-self : goal.invariant_of-self
invariant_of-self c = record {
  room = λ speaks. rw c.take.ensures.spare (c.self.invariant.room speaks);
  fits = rw c.in_err-frame.ensures.items.1 tt;
}

pub invariant_of-self-then-matches : goal.invariant_of-self-then-matches
invariant_of-self-then-matches c = record {
  room = λ speaks. rw (c.take.ensures.spare, c.remove.ensures.table) (room_removed c.self.inside.calls c.in_ok-frame.frame.number.0 c.self.inside.queue.spare (c.self.invariant.room speaks));
  fits = (rw c.in_ok-frame.ensures.items at c.self.invariant.fits).1;
}

pub invariant_of-self-then-matches-2 : goal.invariant_of-self-then-matches-2
invariant_of-self-then-matches-2 c = record {
  room = λ speaks. rw (c.take.ensures.spare, c.remove.ensures.table) (room_removed c.self.inside.calls c.in_ok-frame.frame.number.0 c.self.inside.queue.spare (c.self.invariant.room speaks));
  fits = (rw c.in_ok-frame.ensures.items at c.self.invariant.fits).1;
}

pub invariant_of-self-then-matches-3 : goal.invariant_of-self-then-matches-3
invariant_of-self-then-matches-3 c = record {
  room = λ speaks. rw (c.take.ensures.spare, c.remove.ensures.table) (room_removed c.self.inside.calls c.in_ok-frame.frame.number.0 c.self.inside.queue.spare (c.self.invariant.room speaks));
  fits = (rw c.in_ok-frame.ensures.items at c.self.invariant.fits).1;
}

pub invariant_of-self-else-matches : goal.invariant_of-self-else-matches
invariant_of-self-else-matches c = record {
  room = λ speaks. rw c.take.ensures.spare (c.self.invariant.room speaks);
  fits = (rw c.in_ok-frame.ensures.items at c.self.invariant.fits).1;
}
