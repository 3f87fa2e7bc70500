use Rattle.std.proofs.Common.{◌≡◌, ◌≤◌, take}
use Rattle.std.specs.Prelude.{count_by, is_some}
use Rattle.kern_model.proofs.plain.link_calls.count_nodes.Given as goal

abbrev pub invariant-loop-node : goal.invariant-loop-node
invariant-loop-node l = (l.count ≤ l.node-index) × (l.count ≡ count_by is_some (take l.node-index l.nodes))
