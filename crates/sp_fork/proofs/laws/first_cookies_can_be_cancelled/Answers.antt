use Rattle.sp_fork.proofs.Cancelled.{first_there, rest_left}
use Rattle.sp_fork.proofs.laws.first_cookies_can_be_cancelled.Goals as goal

pub returns-clause-there : goal.returns-clause-there
returns-clause-there c = first_there

pub returns-clause-rest : goal.returns-clause-rest
returns-clause-rest c = rest_left
