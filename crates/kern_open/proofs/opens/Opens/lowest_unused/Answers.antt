use Rattle.std.proofs.Common.{◌≡◌, ℕ, Option, None, Some, IfSome, IfNone, subst}
use Rattle.kern_open.proofs.Changes.{unused_is}
use Rattle.kern_open.proofs.opens.Opens.lowest_unused.Goals as goal

pub returns-clause-which : goal.returns-clause-which
returns-clause-which c =
    subst (λ (o : Option ℕ). IfSome c.lowest_unused.result (λ fd. o ≡ Some fd.0))
    (unused_is c.self.inside.procs c.self.inside.files c.args.self.now c.args.pid.0 c.args.least c.self.view_is) c.lowest_unused.ensures.which

pub returns-clause-none : goal.returns-clause-none
returns-clause-none c =
    subst (λ (o : Option ℕ). IfNone c.lowest_unused.result (o ≡ None))
    (unused_is c.self.inside.procs c.self.inside.files c.args.self.now c.args.pid.0 c.args.least c.self.view_is) c.lowest_unused.ensures.none
