use Rattle.std.proofs.Common.{◌≡◌, ◌*◌, ◌^◌, ◌≤◌, length, take}
use Rattle.std.specs.Prelude.{sum_by}
use Rattle.kern_model.specs.State.{bytes_in}
use Rattle.kern_model.proofs.plain.file_bytes.size_of_all.Given as goal

abbrev pub invariant-loop-node : goal.invariant-loop-node
invariant-loop-node l = (l.total ≤ l.node-index * 2 ^ 64) × (l.total ≡ sum_by (λ node. length (bytes_in node)) (take l.node-index l.nodes))
