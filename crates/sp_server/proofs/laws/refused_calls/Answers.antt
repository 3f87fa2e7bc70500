use Rattle.sp_server.proofs.Told.{ended_tells, unended_tells}
use Rattle.sp_server.proofs.laws.refused_calls.Goals as goal

pub returns-clause-ended : goal.returns-clause-ended
returns-clause-ended c = ended_tells

pub returns-clause-unended : goal.returns-clause-unended
returns-clause-unended c = unended_tells
