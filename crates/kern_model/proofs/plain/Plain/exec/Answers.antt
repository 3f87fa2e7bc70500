use Rattle.std.proofs.Common.{sym, Some}
use Rattle.kern_model.proofs.plain.Plain.exec.Goals as goal

pub returns : goal.returns
returns c = λ i. Some (sym c.done.ensures i, sym c.close_rows.ensures.after i)
