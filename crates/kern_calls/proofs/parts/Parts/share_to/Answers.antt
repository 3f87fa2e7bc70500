use Rattle.std.proofs.Common.{◌≡◌, ◌∙◌, Some, sym, ap, subst}
use Rattle.sp_base.specs.Table.{at}
use Rattle.kern_model.specs.State.{State, rows_of}
use Rattle.kern_calls.proofs.Joins.{open_row, released, has_holder, release_is, closed_holders, shared_state}
use Rattle.kern_calls.proofs.parts.Parts.share_to.Goals as goal

pub release-requires-clause-held : goal.release-requires-clause-held
release-requires-clause-held c =
    has_holder c.self.inside.opens c.self.inside.tree c.args.pid.0 c.args.to.0 c.node.result c.in-Some.gone c.self.invariant c.in-Some.ensures.gone c.node.ensures

pub invariant_of-self : goal.invariant_of-self
invariant_of-self c =
    let row = open_row c.self.inside.opens c.self.inside.tree c.args.self.now c.args.pid.0 c.args.fd c.self.view_is c.requires.open in
    closed_holders c.self.inside.opens c.dup_to.new.self c.self.inside.tree c.release.new.self c.args.pid.0 c.args.to.0 c.self.invariant (ap (λ t. t.files) (c.dup_to.ensures.made row.value row.is))
    (release_is c.self.inside.opens c.self.inside.tree c.release.new.self c.args.pid.0 c.args.to.0 c.node.result c.in-Some.gone c.in-Some.ensures.gone c.node.ensures c.release.ensures)

pub invariant_of-self-in_default : goal.invariant_of-self-in_default
invariant_of-self-in_default c =
    let row = open_row c.self.inside.opens c.self.inside.tree c.args.self.now c.args.pid.0 c.args.fd c.self.view_is c.requires.open in
    closed_holders c.self.inside.opens c.dup_to.new.self c.self.inside.tree c.self.inside.tree c.args.pid.0 c.args.to.0 c.self.invariant (ap (λ t. t.files) (c.dup_to.ensures.made row.value row.is))
    (ap (released c.self.inside.tree) (sym c.in_default.is ∙ c.dup_to.ensures.gone))

pub returns-in-Some : goal.returns-in-Some
returns-in-Some c row is =
    shared_state c.self.inside.opens c.dup_to.new.self c.self.inside.tree c.release.new.self c.args.self.now c.args.pid.0 c.args.to.0 _ c.self.view_is c.self.invariant
    (c.dup_to.ensures.made row (ap (λ (s : State). at (rows_of s c.args.pid.0) c.args.fd) c.self.view_is ∙ is))
    (release_is c.self.inside.opens c.self.inside.tree c.release.new.self c.args.pid.0 c.args.to.0 c.node.result c.in-Some.gone c.in-Some.ensures.gone c.node.ensures c.release.ensures)
