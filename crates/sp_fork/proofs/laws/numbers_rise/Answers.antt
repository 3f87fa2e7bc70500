use Rattle.sp_fork.proofs.Jars.{given_rise}
use Rattle.sp_fork.proofs.laws.numbers_rise.Goals as goal

pub returns : goal.returns
returns c = given_rise
