use Rattle.std.proofs.Common.{sym, subst, ◌∙◌}
use Rattle.std.specs.Prelude.{IsTrue}
use Rattle.hub_model.specs.State.{Connection, speaks}
use Rattle.sp_hub.proofs.connection.Connection.speak_for.Goals as goal

pub invariant_of-self : goal.invariant_of-self
invariant_of-self c = record {
  room = λ _. c.self.invariant.room (subst (λ (x : Connection). IsTrue (speaks x.condition)) (sym (c.self.view_is ∙ c.in_ok-answer.ensures.ok)) c.requires.speaks);
  fits = c.self.invariant.fits;
}
