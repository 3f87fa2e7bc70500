use Rattle.std.proofs.Common.{sym, Some}
use Rattle.kern_calls.proofs.parts.Parts.exec.Goals as goal

pub returns : goal.returns
returns c = λ i. Some (sym c.done.ensures i, sym c.close_rows.ensures.after i)
