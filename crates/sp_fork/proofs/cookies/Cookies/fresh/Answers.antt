use Rattle.sp_fork.proofs.Jars.{none_unused}
use Rattle.sp_fork.proofs.cookies.Cookies.fresh.Goals as goal

pub invariant_of-result : goal.invariant_of-result
invariant_of-result c = none_unused c.new.result c.new.ensures
