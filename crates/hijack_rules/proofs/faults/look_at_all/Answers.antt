use Rattle.std.proofs.Common.{below_more, arith}
use Rattle.hijack_rules.proofs.FaultLaws.{no_fault_at_all}
use Rattle.hijack_rules.proofs.faults.look_at_all.Goals as goal

pub loop-i-preserved : goal.loop-i-preserved
loop-i-preserved c = below_more _ _ c.loop-i.invariant c.in_ok-look_at.ensures

pub returns : goal.returns
returns c = no_fault_at_all _ c.loop-i.i (omega (arith, c.loop-i-test.false)) c.loop-i.invariant
