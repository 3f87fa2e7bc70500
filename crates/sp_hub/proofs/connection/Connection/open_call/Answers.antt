use Rattle.std.proofs.Common.{ap, arith}
use Rattle.sp_base.specs.Kept.{Room}
use Rattle.sp_frames.specs.declared.frame.Frame.{Frame}
use Rattle.sp_hub.proofs.RoomLaws.{room_more, room_opened}
use Rattle.sp_hub.proofs.connection.Connection.open_call.Goals as goal

pub invariant_of-self : goal.invariant_of-self
invariant_of-self c = rw c.in_err-keep.ensures.err c.self.invariant

pub invariant_of-self-in-Ok : goal.invariant_of-self-in-Ok
invariant_of-self-in-Ok c = record {
  room = λ speaks. rw (c.in_ok-keep.ensures.ok, c.in-Ok.ensures.ok) (room_opened c.self.inside.calls c.args.number.0 _ c.self.inside.queue.spare (c.self.invariant.room speaks));
  fits = rw c.in_ok-keep.ensures.ok c.self.invariant.fits;
}

pub invariant_of-self-in-Err : goal.invariant_of-self-in-Err
invariant_of-self-in-Err c = record {
  room = λ speaks. (
      let more = ap (λ (r : Room Frame). r.spare) c.in_ok-keep.ensures.ok in
      let less = c.free.ensures.spare in
      rw c.in-Err.ensures.err (room_more c.self.inside.calls c.self.inside.queue.spare c.free.new.self.spare (c.self.invariant.room speaks) (omega arith)));
  fits = rw (c.free.ensures.items, c.in_ok-keep.ensures.ok) c.self.invariant.fits;
}
