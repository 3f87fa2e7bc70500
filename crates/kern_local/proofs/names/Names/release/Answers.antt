use Rattle.std.proofs.Common.{◌∙◌, ap, sym}
use Rattle.kern_local.specs.Names.{Named, without_name}
use Rattle.kern_local.proofs.NameLemmas.{unnamed, taken, known_without}
use Rattle.kern_local.proofs.names.Names.release.Goals as goal

pub invariant_of-self : goal.invariant_of-self
invariant_of-self c =
    rw (c.unname.ensures ∙ taken c.self.inside.sockets c.self.inside.nodes c.args.s.0 c.in-Some.node c.self.invariant (sym c.remove.ensures.value ∙ c.in-Some.is), c.remove.ensures.table)
    (known_without c.self.inside.sockets c.self.inside.nodes c.args.s.0 c.self.invariant)

pub invariant_of-self-in-None : goal.invariant_of-self-in-None
invariant_of-self-in-None c =
    rw (unnamed c.self.inside.sockets c.self.inside.nodes c.args.s.0 c.self.invariant (sym c.remove.ensures.value ∙ c.in-None.is), c.remove.ensures.table)
    (known_without c.self.inside.sockets c.self.inside.nodes c.args.s.0 c.self.invariant)

pub returns-in-Some : goal.returns-in-Some
returns-in-Some c =
    c.unname.ensures
    ∙ (taken c.self.inside.sockets c.self.inside.nodes c.args.s.0 c.in-Some.node c.self.invariant (sym c.remove.ensures.value ∙ c.in-Some.is)
    ∙ ap (λ (m : Named). without_name m c.args.s.0) c.self.view_is)

pub returns-in-None : goal.returns-in-None
returns-in-None c =
    unnamed c.self.inside.sockets c.self.inside.nodes c.args.s.0 c.self.invariant (sym c.remove.ensures.value ∙ c.in-None.is)
    ∙ ap (λ (m : Named). without_name m c.args.s.0) c.self.view_is
