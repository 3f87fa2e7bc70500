use Rattle.std.proofs.Common.{ap, arith}
use Rattle.sp_base.specs.Kept.{Room}
use Rattle.sp_frames.specs.declared.frame.Frame.{Frame}
use Rattle.sp_hub.proofs.RoomLaws.{room_fresh}
use Rattle.sp_hub.proofs.connection.Connection.fresh.Goals as goal

pub invariant_of-result : goal.invariant_of-result
invariant_of-result c = record {
  room = λ speaks. (
      let more = ap (λ (r : Room Frame). r.spare) c.in_ok-keep.ensures.ok in
      rw c.new.ensures (room_fresh c.keep.new.self.spare (omega arith)));
  fits = rw (c.in_ok-keep.ensures.ok, c.none-queue.ensures) tt;
}
