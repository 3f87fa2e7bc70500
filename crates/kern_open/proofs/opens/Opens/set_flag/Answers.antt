use Rattle.std.proofs.Common.{◌≡◌, ap, sym, ◌∙◌, subst, List, Option, Some, IfSome}
use Rattle.kern_model.specs.State.{Process}
use Rattle.kern_model.specs.declared.node.Row.{Row}
use Rattle.kern_proc.specs.Processes.{set_row}
use Rattle.kern_open.specs.Counted.{tables_of, IsCounted}
use Rattle.kern_open.proofs.Changes.{counted_flag, flag_is}
use Rattle.kern_open.proofs.Lives.{mine_of}
use Rattle.kern_open.proofs.opens.Opens.set_flag.Goals as goal

pub invariant_of-self : goal.invariant_of-self
invariant_of-self c =
    let mine = mine_of c.self.inside.procs c.self.inside.files c.args.self.now c.args.pid.0 c.args.fd c.self.view_is c.requires.open in
    let set = subst (λ (o : Option Row). IfSome o (λ row. c.set_cloexec.new.self ≡ set_row c.self.inside.procs c.args.pid.0 c.args.fd (Some (record row { close_on_exec = c.args.on })))) mine.1 c.set_cloexec.ensures.set in
    subst (λ (ps : List (Option Process)). IsCounted ps c.self.inside.files) (sym set)
    (counted_flag c.self.inside.procs c.self.inside.files c.args.pid.0 c.args.fd c.args.on mine.0 c.self.invariant mine.1)

pub returns : goal.returns
returns c row is =
    let mine = mine_of c.self.inside.procs c.self.inside.files c.args.self.now c.args.pid.0 c.args.fd c.self.view_is c.requires.open in
    let set = subst (λ (o : Option Row). IfSome o (λ row. c.set_cloexec.new.self ≡ set_row c.self.inside.procs c.args.pid.0 c.args.fd (Some (record row { close_on_exec = c.args.on })))) mine.1 c.set_cloexec.ensures.set in
    ap (λ (ps : List (Option Process)). tables_of ps c.self.inside.files) set
    ∙ flag_is c.self.inside.procs c.self.inside.files c.args.self.now c.args.pid.0 c.args.fd c.args.on mine.0 row c.self.view_is mine.1 is
