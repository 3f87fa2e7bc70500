use Rattle.std.proofs.Common.{◌≡◌, length}
use Rattle.turn_bench.specs.Crew.{IsCrew, planned}
use Rattle.turn_bench.proofs.players.take_all_in.Given as goal

abbrev pub invariant-loop-joiner : goal.invariant-loop-joiner
invariant-loop-joiner g l = (l.pass.turn ≡ l.fn.pass.turn) × IsCrew l.pass l.joiners.items × (planned l.pass l.joiners.items ≡ planned l.fn.pass l.fn.joiners.items)

abbrev pub decreases-loop-joiner : goal.decreases-loop-joiner
decreases-loop-joiner g l = length l.joiners.items
