use Rattle.std.proofs.Common.{IsSome, subst, sym, refl}
use Rattle.kern_nodes.proofs.ShowLaws.{live_entry}
use Rattle.kern_nodes.proofs.ChangeLaws.{links_set}
use Rattle.kern_nodes.proofs.nodes.Nodes.set_links.Goals as goal

pub set_links-requires : goal.set_links-requires
set_links-requires c =
    let found = live_entry c.args.node.0 (record { view = c.self.view_is; counted = c.self.invariant }) c.requires in
    subst IsSome (sym found.1) refl

pub invariant_of-self : goal.invariant_of-self
invariant_of-self c = (links_set c.args.node.0 c.args.links (record { view = c.self.view_is; counted = c.self.invariant }) c.requires c.set_links.ensures).counted

pub returns : goal.returns
returns c = (links_set c.args.node.0 c.args.links (record { view = c.self.view_is; counted = c.self.invariant }) c.requires c.set_links.ensures).view
