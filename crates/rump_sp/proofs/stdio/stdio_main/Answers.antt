use Rattle.rump_sp.proofs.TopLaws.{status_in}
use Rattle.rump_sp.proofs.stdio.stdio_main.Goals as goal

pub returns-in-Some-clause-status : goal.returns-in-Some-clause-status
returns-in-Some-clause-status g c = status_in c.in-Some.failure _ c.fail.ensures.status
