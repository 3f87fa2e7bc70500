use Rattle.std.proofs.Common.{IsSome, ◌∙◌, ap, subst, sym, refl}
use Rattle.kern_nodes.proofs.ShowLaws.{live_entry, holders_at}
use Rattle.kern_nodes.proofs.ChangeLaws.{holders_set}
use Rattle.kern_nodes.specs.Inode.{holders_in}
use Rattle.kern_nodes.proofs.nodes.Nodes.set_holders.Goals as goal

pub set_holders-requires : goal.set_holders-requires
set_holders-requires c =
    let found = live_entry c.args.node.0 (record { view = c.self.view_is; counted = c.self.invariant }) c.requires in
    subst IsSome (sym found.1) refl

pub invariant_of-self : goal.invariant_of-self
invariant_of-self c = (holders_set c.args.node.0 c.args.holders (record { view = c.self.view_is; counted = c.self.invariant }) c.requires c.set_holders.ensures).counted

pub returns-clause-set : goal.returns-clause-set
returns-clause-set c = (holders_set c.args.node.0 c.args.holders (record { view = c.self.view_is; counted = c.self.invariant }) c.requires c.set_holders.ensures).view

pub returns-clause-counted : goal.returns-clause-counted
returns-clause-counted c =
    let found = live_entry c.args.node.0 (record { view = c.self.view_is; counted = c.self.invariant }) c.requires in
    holders_at c.args.node.0 (record { view = refl; counted = invariant_of-self c }) ∙ ap holders_in (c.set_holders.ensures found.0 found.1).here
