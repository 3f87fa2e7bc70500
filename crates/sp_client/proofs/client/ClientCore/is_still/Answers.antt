use Rattle.std.proofs.Common.{sym, ap, ◌∙◌}
use Rattle.client_model.specs.State.{Client}
use Rattle.sp_client.proofs.Values.{still_of}
use Rattle.sp_client.proofs.client.ClientCore.is_still.Goals as goal

pub returns-then-is_empty : goal.returns-then-is_empty
returns-then-is_empty c =
    still_of c.args.self.now c.has_answer.result (sym (ap (λ (k : Client). k.queue) c.self.view_is) ∙ c.is_empty.ensures.0 c.if-is_empty.true) c.has_answer.ensures
