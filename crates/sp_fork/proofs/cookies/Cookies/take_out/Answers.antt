use Rattle.sp_fork.proofs.Jars.{one_less_unused}
use Rattle.sp_fork.proofs.cookies.Cookies.take_out.Goals as goal

pub invariant_of-self : goal.invariant_of-self
invariant_of-self c = one_less_unused c.self.inside.unused c.remove.new.self c.args.number c.self.inside.given c.remove.ensures.table c.self.invariant
