use Rattle.std.proofs.Common.{◌≡◌, rules, arith, sym, ◌∙◌}
use Rattle.kern_nodes.specs.NodeTable.{links_of, holders_of}
use Rattle.kern_nodes.proofs.ChangeLaws.{node_gone, not_kept}
use Rattle.kern_nodes.proofs.nodes.Nodes.drop_unkept.Goals as goal

pub invariant_of-self : goal.invariant_of-self
invariant_of-self c =
    let links : links_of c.args.self.now c.args.node.0 ≡ 0 = omega arith in
    let holders : holders_of c.args.self.now c.args.node.0 ≡ 0 = omega arith in
    (node_gone c.args.node.0 c.len.result (record { view = c.self.view_is; counted = c.self.invariant }) c.requires c.remove.ensures links holders (search rules)).counted

pub returns : goal.returns
returns c =
    let links : links_of c.args.self.now c.args.node.0 ≡ 0 = omega arith in
    let holders : holders_of c.args.self.now c.args.node.0 ≡ 0 = omega arith in
    (node_gone c.args.node.0 c.len.result (record { view = c.self.view_is; counted = c.self.invariant }) c.requires c.remove.ensures links holders (search rules)).view
    ∙ sym (not_kept c.args.self.now c.args.node.0 links holders)
