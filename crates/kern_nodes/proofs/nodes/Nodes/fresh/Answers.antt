use Rattle.std.proofs.Common.{ap, ◌∙◌}
use Rattle.kern_model.specs.State.{has_room}
use Rattle.kern_nodes.specs.NodeTable.{state_of, with_new}
use Rattle.kern_model.specs.declared.node.NodeKind.TheVariants.{Directory}
use Rattle.kern_nodes.proofs.ShowLaws.{no_nodes}
use Rattle.kern_nodes.proofs.nodes.Nodes.fresh.Goals as goal

pub invariant_of-nodes : goal.invariant_of-nodes
invariant_of-nodes c = (no_nodes c.new.result c.new.ensures.empty).counted

pub make-requires : goal.make-requires
make-requires c = ap (λ table. has_room (state_of table)) (no_nodes c.new.result c.new.ensures.empty).view

pub returns : goal.returns
returns c = c.in_ok-make.ensures.ok ∙ ap (λ table. with_new table Directory) (no_nodes c.new.result c.new.ensures.empty).view
