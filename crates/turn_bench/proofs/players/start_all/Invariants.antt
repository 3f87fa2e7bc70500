use Rattle.std.proofs.Common.{◌≡◌, ◌+◌, []}
use Rattle.turn_bench.specs.Crew.{IsCrew, planned}
use Rattle.turn_bench.proofs.players.start_all.Given as goal

abbrev pub invariant-loop-at : goal.invariant-loop-at
invariant-loop-at g l = (l.pass.turn ≡ l.fn.pass.turn) × IsCrew l.pass l.joiners.items × (planned l.pass l.joiners.items + l.left ≡ planned l.fn.pass [] + l.fn.calls)
