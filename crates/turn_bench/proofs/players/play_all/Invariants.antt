use Rattle.std.proofs.Common.{◌≡◌}
use Rattle.turn_bench.specs.Counts.{Plays}
use Rattle.turn_bench.proofs.players.play_all.Given as goal

abbrev pub invariant-loop-made : goal.invariant-loop-made
invariant-loop-made g l = (l.pass.turn ≡ l.fn.pass.turn) × Plays l.fn.pass.known l.made l.pass.known
