use Rattle.std.proofs.Common.{◌≡◌, length}
use Rattle.socket_model.specs.Calls.{close_all}
use Rattle.kern_local.proofs.socks.Socks.close_waiting.Given as goal

abbrev pub invariant-loop-waiting : goal.invariant-loop-waiting
invariant-loop-waiting l = close_all l.self l.queue.items ≡ close_all l.initial.self l.initial.queue.items

abbrev pub decreases-loop-waiting : goal.decreases-loop-waiting
decreases-loop-waiting l = length l.queue.items
