use Rattle.std.proofs.Common.{◌≡◌, ◌∙◌, refl, sym, ap}
use Rattle.kern_model.specs.State.{State, directory_of}
use Rattle.kern_model.specs.Walk.{walk}
use Rattle.kern_calls.specs.Joined.{joined}
use Rattle.kern_calls.proofs.WalkLaws.{reaches, works_at, works_in}
use Rattle.kern_calls.proofs.parts.Parts.walk.Goals as goal

pub walk-requires-clause-within : goal.walk-requires-clause-within
walk-requires-clause-within c =
    works_in c.self.inside.opens c.self.inside.tree c.args.self.now c.args.pid.0 c.directory.result.0 c.self.view_is c.requires.sound
    (works_at c.self.inside.opens c.self.inside.tree c.args.self.now c.args.pid.0 c.directory.result.0 c.self.view_is c.requires.live c.directory.ensures
    ∙ ap (λ (s : State). directory_of s c.args.pid.0) c.self.view_is)

pub returns : goal.returns
returns c =
    reaches c.self.inside.opens c.self.inside.tree c.args.self.now c.args.text.now (λ (s : State). walk s c.args.pid.0 c.args.text.now) c.walk.result c.self.view_is
    (c.walk.ensures (joined c.self.inside.opens c.self.inside.tree) c.args.pid.0 refl refl
    (sym (works_at c.self.inside.opens c.self.inside.tree c.args.self.now c.args.pid.0 c.directory.result.0 c.self.view_is c.requires.live c.directory.ensures)))
