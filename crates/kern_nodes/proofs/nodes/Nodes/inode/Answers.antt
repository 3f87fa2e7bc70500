use Rattle.std.proofs.Common.{◌≡◌, None, Some, rules, arith, sym, ap, ◌∙◌}
use Rattle.std.proofs.lemmas.Grind.{common_steps}
use Rattle.kern_nodes.specs.Inode.{entry, node_in, links_in, holders_in}
use Rattle.kern_nodes.proofs.ShowLaws.{live_entry, node_at, links_at, holders_at}
use Rattle.kern_nodes.proofs.nodes.Nodes.inode.Goals as goal

pub unreachable-requires : goal.unreachable-requires
unreachable-requires c =
    let found = live_entry c.args.node.0 (record { view = c.self.view_is; counted = c.self.invariant }) c.requires in
    let missing : entry c.self.inside.inodes c.args.node.0 ≡ None = grind (arith, common_steps) in
    let clash : Some found.0 ≡ None = sym found.1 ∙ missing in
    absurd cc

pub returns-clause-node : goal.returns-clause-node
returns-clause-node c =
    let found : entry c.self.inside.inodes c.args.node.0 ≡ Some c.in-Some.inode.now = search rules in
    node_at c.args.node.0 (record { view = c.self.view_is; counted = c.self.invariant }) ∙ ap node_in found

pub returns-clause-links : goal.returns-clause-links
returns-clause-links c =
    let found : entry c.self.inside.inodes c.args.node.0 ≡ Some c.in-Some.inode.now = search rules in
    links_at c.args.node.0 (record { view = c.self.view_is; counted = c.self.invariant }) ∙ ap links_in found

pub returns-clause-holders : goal.returns-clause-holders
returns-clause-holders c =
    let found : entry c.self.inside.inodes c.args.node.0 ≡ Some c.in-Some.inode.now = search rules in
    holders_at c.args.node.0 (record { view = c.self.view_is; counted = c.self.invariant }) ∙ ap holders_in found
