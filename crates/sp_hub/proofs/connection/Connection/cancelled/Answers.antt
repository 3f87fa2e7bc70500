use Rattle.std.proofs.Common.{ap}
use Rattle.hub_model.specs.State.{speaks}
use Rattle.sp_hub.proofs.connection.Connection.cancelled.Goals as goal

pub invariant_of-self : goal.invariant_of-self
invariant_of-self c = record {
  room = λ _. c.self.invariant.room (ap speaks c.in-Exec-InExec.is-1);
  fits = c.self.invariant.fits;
}
