use Rattle.std.proofs.Common.{Option, ap}
use Rattle.kern_model.specs.State.{Process, rows_in}
use Rattle.kern_model.proofs.ProcessLaws.{exit_ends}
use Rattle.kern_model.proofs.OperationLaws.{exit_shares}
use Rattle.kern_model.proofs.laws.exit_ends_the_process.Goals as goal

pub returns-clause-gone : goal.returns-clause-gone
returns-clause-gone c = λ s pid pieces outcome t e. (let gone = (exit_ends s pid outcome t e).gone in (gone, ap (λ (p : Option Process). rows_in p) gone))

pub returns-clause-shared : goal.returns-clause-shared
returns-clause-shared c = λ s pid pieces outcome t e. exit_shares s pid outcome t e
