use Rattle.std.proofs.Common.{◌≡◌, ◌∙◌, Option, Some, not, sym, ap, subst}
use Rattle.kern_model.specs.Walk.{walk}
use Rattle.kern_names.specs.declared.walk.Last.{Last}
use Rattle.kern_calls.specs.Joined.{joined}
use Rattle.kern_calls.specs.Reached.{IsFound}
use Rattle.kern_calls.proofs.RmdirLaws.{rmdir_done, rmdir_unnamed}
use Rattle.kern_calls.proofs.parts.Parts.rmdir.Goals as goal

pub returns-in-Err : goal.returns-in-Err
returns-in-Err c = c.found.ensures.err c.in-Err.error c.in-Err.is _ ∙ (λ i. Some (sym c.failed.ensures i, c.args.self.now))

pub returns-in_default : goal.returns-in_default
returns-in_default c =
    rmdir_unnamed c.args.self.now c.args.pid.0 c.in-Ok.found.node.0 c.args.text.now c.in-Ok.found.last c.unnamed_error.result c.requires.sound.tree c.in-Ok.ensures.ok c.in_default.is
    (sym c.is_directory.ensures ∙ c.if-not-is_directory.false) c.unnamed_error.ensures
    ∙ (λ i. Some (sym c.failed-in_default.ensures i, c.args.self.now))

pub invariant_of-self : goal.invariant_of-self
invariant_of-self c =
    let m = subst (λ (l : Option Last). IsFound c.args.self.now c.args.text.now (walk c.args.self.now c.args.pid.0 c.args.text.now) c.in-Ok.found.node.0 l) c.in-Some.is c.in-Ok.ensures.ok in
    (rmdir_done c.self.inside.opens c.self.inside.tree c.rmdir.new.self c.args.self.now c.args.pid.0 c.in-Ok.found.node.0 c.args.text.now c.name_in-name.result.now c.in-Some.last c.self.view_is c.self.invariant m
    c.name_in-name.ensures (sym c.is_directory.ensures ∙ c.if-not-is_directory.false) (λ path e. c.is_empty.ensures path e ∙ ap not c.if-not-is_empty.false)
    (sym c.is_directory_of_some.ensures ∙ c.if-is_directory_of_some.false) c.in-Ok-rmdir.ensures.ok).1

pub returns : goal.returns
returns c =
    let m = subst (λ (l : Option Last). IsFound c.args.self.now c.args.text.now (walk c.args.self.now c.args.pid.0 c.args.text.now) c.in-Ok.found.node.0 l) c.in-Some.is c.in-Ok.ensures.ok in
    (rmdir_done c.self.inside.opens c.self.inside.tree c.rmdir.new.self c.args.self.now c.args.pid.0 c.in-Ok.found.node.0 c.args.text.now c.name_in-name.result.now c.in-Some.last c.self.view_is c.self.invariant m
    c.name_in-name.ensures (sym c.is_directory.ensures ∙ c.if-not-is_directory.false) (λ path e. c.is_empty.ensures path e ∙ ap not c.if-not-is_empty.false)
    (sym c.is_directory_of_some.ensures ∙ c.if-is_directory_of_some.false) c.in-Ok-rmdir.ensures.ok).0
    ∙ (λ i. Some (sym c.done.ensures i, joined c.self.inside.opens c.rmdir.new.self))
