use Rattle.std.specs.Prelude.{length}
use Rattle.sp_fork.specs.Jar.{made_by}
use Rattle.sp_hub.proofs.Backs.{TakesBack}
use Rattle.sp_hub.proofs.machine.Core.take_all_back.Given as goal

abbrev pub invariant-loop-cookie : goal.invariant-loop-cookie
invariant-loop-cookie l = TakesBack l.no l.fn.self l.self

abbrev pub decreases-loop-cookie : goal.decreases-loop-cookie
decreases-loop-cookie l = length (made_by l.self.cookies l.no)
