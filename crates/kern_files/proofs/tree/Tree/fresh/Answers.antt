use Rattle.std.proofs.Common.{sym, subst}
use Rattle.kern_names.specs.Tree.{Tree}
use Rattle.kern_nodes.specs.NodeTable.{NodeTable}
use Rattle.kern_files.specs.Parts.{Agree}
use Rattle.kern_files.proofs.AgreeLaws.{agree_fresh}
use Rattle.kern_files.proofs.tree.Tree.fresh.Goals as goal

pub invariant_of-result : goal.invariant_of-result
invariant_of-result c = subst (λ (x : Tree × NodeTable). Agree x.0 x.1) (λ i. (sym c.in_ok-fresh.ensures i, sym c.in_ok-fresh-2.ensures i)) agree_fresh
