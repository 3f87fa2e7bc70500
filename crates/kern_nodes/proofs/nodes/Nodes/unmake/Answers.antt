use Rattle.std.proofs.Common.{arith}
use Rattle.kern_nodes.proofs.ChangeLaws.{not_first, node_unmade}
use Rattle.kern_nodes.proofs.nodes.Nodes.unmake.Goals as goal

pub overflow_sub-self : goal.overflow_sub-self
overflow_sub-self c = omega (arith, not_first (record { view = c.self.view_is; counted = c.self.invariant }) c.requires.1)

pub invariant_of-self : goal.invariant_of-self
invariant_of-self c = (node_unmade (record { view = c.self.view_is; counted = c.self.invariant }) c.requires.1 c.remove.ensures).counted

pub returns : goal.returns
returns c before from = (node_unmade (record { view = c.self.view_is; counted = c.self.invariant }) from c.remove.ensures).view
