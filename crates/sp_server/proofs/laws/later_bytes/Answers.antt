use Rattle.sp_server.proofs.EndLaws.{bad_later, much_later}
use Rattle.sp_server.proofs.laws.later_bytes.Goals as goal

pub returns-clause-bad : goal.returns-clause-bad
returns-clause-bad c = bad_later

pub returns-clause-much : goal.returns-clause-much
returns-clause-much c = much_later
