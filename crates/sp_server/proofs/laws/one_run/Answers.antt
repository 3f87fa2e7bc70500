use Rattle.sp_server.proofs.RunsLaws.{out_runs}
use Rattle.sp_server.proofs.laws.one_run.Goals as goal

pub returns : goal.returns
returns c = out_runs
