use Rattle.std.proofs.Common.{◌∙◌, Some, sym}
use Rattle.kern_calls.proofs.parts.Parts.chdir.Goals as goal

pub returns-in-Err : goal.returns-in-Err
returns-in-Err c = c.found.ensures.err c.in-Err.error c.in-Err.is _ ∙ (λ i. Some (sym c.failed.ensures i, c.args.self.now))
