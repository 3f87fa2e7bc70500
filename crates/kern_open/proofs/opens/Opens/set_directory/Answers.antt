use Rattle.std.proofs.Common.{ap, sym, ◌∙◌, subst, List, Option}
use Rattle.kern_model.specs.State.{Process}
use Rattle.kern_open.specs.Counted.{tables_of, IsCounted}
use Rattle.kern_open.proofs.Lives.{counted_move, move_is, live_of}
use Rattle.kern_open.proofs.opens.Opens.set_directory.Goals as goal

pub invariant_of-self : goal.invariant_of-self
invariant_of-self c =
    subst (λ (ps : List (Option Process)). IsCounted ps c.self.inside.files) (sym c.set_cwd.ensures)
    (counted_move c.self.inside.procs c.self.inside.files c.args.pid.0 c.args.node.0 c.self.invariant
    (live_of c.self.inside.procs c.self.inside.files c.args.self.now c.args.pid.0 c.self.view_is c.requires))

pub returns : goal.returns
returns c =
    ap (λ (ps : List (Option Process)). tables_of ps c.self.inside.files) c.set_cwd.ensures
    ∙ move_is c.self.inside.procs c.self.inside.files c.args.self.now c.args.pid.0 c.args.node.0 c.self.view_is
