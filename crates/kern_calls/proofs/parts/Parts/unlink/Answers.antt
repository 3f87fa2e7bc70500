use Rattle.std.proofs.Common.{◌≡◌, ◌∙◌, Option, Some, sym, subst}
use Rattle.std.proofs.lemmas.Bool.{false≢true}
use Rattle.kern_model.specs.Walk.{walk}
use Rattle.kern_names.specs.declared.walk.Last.{Last}
use Rattle.kern_calls.specs.Joined.{joined}
use Rattle.kern_calls.specs.Reached.{IsFound}
use Rattle.kern_calls.proofs.RemoveLaws.{unlink_done}
use Rattle.kern_calls.proofs.UnnamedLaws.{unnamed}
use Rattle.kern_calls.proofs.parts.Parts.unlink.Goals as goal

pub returns-in-Err : goal.returns-in-Err
returns-in-Err c = c.found.ensures.err c.in-Err.error c.in-Err.is _ ∙ (λ i. Some (sym c.failed.ensures i, c.args.self.now))

pub unreachable-requires : goal.unreachable-requires
unreachable-requires c =
    let file = sym c.is_directory.ensures ∙ c.if-is_directory.false in
    false≢true (sym file ∙ unnamed c.args.self.now c.args.pid.0 c.in-Ok.found.node.0 c.args.text.now c.in-Ok.found.last c.requires.sound.tree c.in-Ok.ensures.ok c.in_default.is)

pub invariant_of-self : goal.invariant_of-self
invariant_of-self c =
    let m = subst (λ (l : Option Last). IsFound c.args.self.now c.args.text.now (walk c.args.self.now c.args.pid.0 c.args.text.now) c.in-Ok.found.node.0 l) c.in-Some.is c.in-Ok.ensures.ok in
    (unlink_done c.self.inside.opens c.self.inside.tree c.unlink.new.self c.args.self.now c.args.pid.0 c.in-Ok.found.node.0 c.args.text.now c.name_in-name.result.now c.in-Some.last c.self.view_is c.self.invariant m
    c.name_in-name.ensures (sym c.is_directory.ensures ∙ c.if-is_directory.false) c.in-Ok-unlink.ensures.ok).1

pub returns : goal.returns
returns c =
    let m = subst (λ (l : Option Last). IsFound c.args.self.now c.args.text.now (walk c.args.self.now c.args.pid.0 c.args.text.now) c.in-Ok.found.node.0 l) c.in-Some.is c.in-Ok.ensures.ok in
    (unlink_done c.self.inside.opens c.self.inside.tree c.unlink.new.self c.args.self.now c.args.pid.0 c.in-Ok.found.node.0 c.args.text.now c.name_in-name.result.now c.in-Some.last c.self.view_is c.self.invariant m
    c.name_in-name.ensures (sym c.is_directory.ensures ∙ c.if-is_directory.false) c.in-Ok-unlink.ensures.ok).0
    ∙ (λ i. Some (sym c.done.ensures i, joined c.self.inside.opens c.unlink.new.self))
