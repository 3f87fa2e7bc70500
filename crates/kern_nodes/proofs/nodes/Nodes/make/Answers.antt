use Rattle.std.proofs.Common.{arith, sym, ◌^◌, ◌<◌, ◌+◌}
use Rattle.std.proofs.lemmas.Result.{err_from_is_err_and}
use Rattle.kern_nodes.proofs.ShowLaws.{length_nodes, next_fits}
use Rattle.kern_nodes.proofs.ChangeLaws.{unchanged, node_added}
use Rattle.kern_nodes.proofs.nodes.Nodes.make.Goals as goal

pub overflow_add-number : goal.overflow_add-number
overflow_add-number c =
    let fits : c.self.inside.last + 1 < 2 ^ 64 = next_fits (record { view = c.self.view_is; counted = c.self.invariant }) c.requires in
    omega (arith, fits)

pub invariant_of-self : goal.invariant_of-self
invariant_of-self c = (unchanged (record { view = c.self.view_is; counted = c.self.invariant }) c.in_err-add.ensures.err).counted

pub returns-in_err-add-clause-err : goal.returns-in_err-add-clause-err
returns-in_err-add-clause-err c =
    let failed = err_from_is_err_and c.from_residual.result c.from_residual.ensures.1 in
    rw failed.1 (unchanged (record { view = c.self.view_is; counted = c.self.invariant }) c.in_err-add.ensures.err).view

pub invariant_of-self-2 : goal.invariant_of-self-2
invariant_of-self-2 c = (node_added c.args.kind (record { view = c.self.view_is; counted = c.self.invariant }) c.in_ok-add.ensures.ok).counted

pub returns-clause-number : goal.returns-clause-number
returns-clause-number c = sym (length_nodes (record { view = c.self.view_is; counted = c.self.invariant }))

pub returns-clause-ok : goal.returns-clause-ok
returns-clause-ok c = (node_added c.args.kind (record { view = c.self.view_is; counted = c.self.invariant }) c.in_ok-add.ensures.ok).view
