use Rattle.std.proofs.Common.{◌≡◌, ◌∙◌, Some, sym, ap, subst}
use Rattle.kern_model.specs.Sound.{IsHeld}
use Rattle.kern_model.specs.State.{State}
use Rattle.kern_model.proofs.HeldLaws.{held_close}
use Rattle.kern_calls.proofs.Joins.{released, has_holder, release_is, closed_holders, closed_state}
use Rattle.kern_calls.proofs.parts.Parts.close_row.Goals as goal

pub release-requires-clause-held : goal.release-requires-clause-held
release-requires-clause-held c =
    has_holder c.self.inside.opens c.self.inside.tree c.args.pid.0 c.args.fd c.node.result c.in-Some.gone c.self.invariant c.in-Some.ensures.gone c.node.ensures

pub invariant_of-self : goal.invariant_of-self
invariant_of-self c =
    closed_holders c.self.inside.opens c.close.new.self c.self.inside.tree c.release.new.self c.args.pid.0 c.args.fd c.self.invariant (ap (λ t. t.files) c.close.ensures.closed)
    (release_is c.self.inside.opens c.self.inside.tree c.release.new.self c.args.pid.0 c.args.fd c.node.result c.in-Some.gone c.in-Some.ensures.gone c.node.ensures c.release.ensures)

pub returns-in-Some-clause-after : goal.returns-in-Some-clause-after
returns-in-Some-clause-after c =
    closed_state c.self.inside.opens c.close.new.self c.self.inside.tree c.release.new.self c.args.self.now c.args.pid.0 c.args.fd c.self.view_is c.self.invariant c.close.ensures.closed
    (release_is c.self.inside.opens c.self.inside.tree c.release.new.self c.args.pid.0 c.args.fd c.node.result c.in-Some.gone c.in-Some.ensures.gone c.node.ensures c.release.ensures)

pub returns-in-Some-clause-held : goal.returns-in-Some-clause-held
returns-in-Some-clause-held c = subst (λ (s : State). IsHeld s) (sym (returns-in-Some-clause-after c)) (held_close c.args.self.now c.args.pid.0 c.args.fd c.requires.held)

pub returns-in_default-clause-held : goal.returns-in_default-clause-held
returns-in_default-clause-held c =
    subst (λ (s : State). IsHeld s)
    (sym (closed_state c.self.inside.opens c.close.new.self c.self.inside.tree c.self.inside.tree c.args.self.now c.args.pid.0 c.args.fd c.self.view_is c.self.invariant c.close.ensures.closed
    (ap (released c.self.inside.tree) (sym c.in_default.is ∙ c.close.ensures.gone))))
    (held_close c.args.self.now c.args.pid.0 c.args.fd c.requires.held)
