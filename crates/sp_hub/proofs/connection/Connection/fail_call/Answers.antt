use Rattle.std.proofs.Common.{sym, ◌∙◌}
use Rattle.sp_hub.proofs.RoomLaws.{room_kept}
use Rattle.sp_hub.proofs.connection.Connection.fail_call.Goals as goal

pub invariant_of-self : goal.invariant_of-self
invariant_of-self c = record {
  room = λ speaks. (
      let kept = room_kept c.self.inside.calls c.args.number.0 c.swap.new.value c.with_error-failed.result c.self.inside.queue.spare (sym c.swap.ensures.value) (λ waits. sym c.with_error-failed.ensures.waits ∙ waits) (c.self.invariant.room speaks) in
      rw (c.swap-2.ensures.table, c.swap.ensures.again c.with_error-failed.result) kept);
  fits = c.self.invariant.fits;
}
