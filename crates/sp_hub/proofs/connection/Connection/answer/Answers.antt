use Rattle.std.proofs.Common.{ap, arith}
use Rattle.sp_base.specs.Kept.{Room}
use Rattle.sp_frames.specs.Grammar.{Fits}
use Rattle.sp_frames.specs.declared.frame.Frame.{Frame}
use Rattle.hub_model.proofs.Keeps.{all_push}
use Rattle.sp_hub.proofs.RoomLaws.{room_more}
use Rattle.sp_hub.proofs.connection.Connection.answer.Goals as goal

pub invariant_of-self : goal.invariant_of-self
invariant_of-self c = rw c.in_err-keep.ensures.err c.self.invariant

pub invariant_of-self-2 : goal.invariant_of-self-2
invariant_of-self-2 c = record {
  room = λ speaks. (
      let more = ap (λ (r : Room Frame). r.spare) c.in_ok-keep.ensures.ok in
      let less = c.put_kept.ensures.spare in
      room_more c.self.inside.calls c.self.inside.queue.spare c.put_kept.new.self.spare (c.self.invariant.room speaks) (omega arith));
  fits = rw (c.put_kept.ensures.items, c.in_ok-keep.ensures.ok) (all_push Fits c.self.inside.queue.items c.args.frame c.self.invariant.fits c.requires);
}
