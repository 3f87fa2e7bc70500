use Rattle.std.proofs.Common.{sym, Some, ◌∙◌}
use Rattle.kern_model.proofs.StateLaws.{gone}
use Rattle.kern_model.proofs.plain.Plain.exit.Goals as goal

pub returns : goal.returns
returns c = λ i. Some (sym c.done.ensures i, gone _ _ c.args.pid.0 _ (c.self.view_is ∙ c.close_rows.ensures.after) (sym (rw c.from.ensures at c.set.ensures)) i)
