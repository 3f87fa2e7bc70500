use Rattle.std.proofs.Common.{sym, ◌∙◌}
use Rattle.sp_hub.proofs.RoomLaws.{room_kept}
use Rattle.sp_hub.proofs.connection.Connection.add_copy.Goals as goal

pub invariant_of-self : goal.invariant_of-self
invariant_of-self c = record {
  room = λ speaks. (
      let kept = room_kept c.self.inside.calls c.args.number.0 c.swap.new.value c.add_copy-result.new.task c.self.inside.queue.spare (sym c.swap.ensures.value) (λ waits. sym c.add_copy-result.ensures.waits ∙ waits) (c.self.invariant.room speaks) in
      rw (c.swap-2.ensures.table, c.swap.ensures.again c.add_copy-result.new.task) kept);
  fits = c.self.invariant.fits;
}
