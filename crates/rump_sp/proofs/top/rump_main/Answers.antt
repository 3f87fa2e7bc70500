use Rattle.std.proofs.Common.{Some}
use Rattle.sp_server.specs.declared.stdio.StdioEnd.TheVariants.{NoMemory}
use Rattle.rump_sp.specs.declared.failure.Failure.TheVariants as failure
use Rattle.rump_sp.proofs.StdioLaws.{nothing_served}
use Rattle.rump_sp.proofs.top.rump_main.Goals as goal

pub returns-in-Ok-None-clause-told : goal.returns-in-Ok-None-clause-told
returns-in-Ok-None-clause-told g c = (Some failure.Usage, c.fail.ensures.status, c.fail.ensures.told)

pub returns-in-Err-clause-told : goal.returns-in-Err-clause-told
returns-in-Err-clause-told g c = (Some failure.NoMemory, c.fail-in-Err.ensures.status, c.fail-in-Err.ensures.told)

pub returns-in-Err-clause-stdio : goal.returns-in-Err-clause-stdio
returns-in-Err-clause-stdio g c = λ _. (
  NoMemory,
  c.fail-in-Err.ensures.status,
  nothing_served _ _ _ _,
  record { read = λ e. absurd cc; failed_input = λ e. absurd cc; failed_output = λ e. absurd cc; failed_salt = λ e. absurd cc },
  c.fail-in-Err.ensures.told,
)
