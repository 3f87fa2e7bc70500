use Rattle.kern_open.proofs.Keys.{counted_fresh}
use Rattle.kern_open.proofs.opens.Opens.fresh.Goals as goal

pub invariant_of-result : goal.invariant_of-result
invariant_of-result c = counted_fresh c.in-Ok.procs c.new.result c.in-Ok.ensures c.new.ensures
