use Rattle.std.proofs.Common.{[], ◌-◌, IsSome, arith, refl, sym, subst}
use Rattle.kern_nodes.proofs.ShowLaws.{live_entry}
use Rattle.kern_nodes.proofs.ChangeLaws.{contents_set}
use Rattle.kern_nodes.proofs.nodes.Nodes.clear.Goals as goal

pub clear-requires : goal.clear-requires
clear-requires c =
    let found = live_entry c.args.node.0 (record { view = c.self.view_is; counted = c.self.invariant }) c.requires in
    subst IsSome (sym found.1) refl

pub invariant_of-self : goal.invariant_of-self
invariant_of-self c =
    (contents_set (λ bytes. []) c.args.node.0 (c.self.inside.bytes - c.len.result) (record { view = c.self.view_is; counted = c.self.invariant }) c.requires c.clear.ensures (omega arith) (omega (arith, c.self.invariant.within))).counted

pub returns : goal.returns
returns c =
    (contents_set (λ bytes. []) c.args.node.0 (c.self.inside.bytes - c.len.result) (record { view = c.self.view_is; counted = c.self.invariant }) c.requires c.clear.ensures (omega arith) (omega (arith, c.self.invariant.within))).view
