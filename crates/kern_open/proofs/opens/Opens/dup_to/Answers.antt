use Rattle.std.proofs.Common.{ap, sym, ◌∙◌, subst, ◌≢◌, ℕ}
use Rattle.kern_open.specs.OpenTables.{OpenTables, close_row, with_row, duplicate_of}
use Rattle.kern_open.proofs.opens.Opens.dup_to.Goals as goal

pub returns-clause-made : goal.returns-clause-made
returns-clause-made c row there =
    let closed = c.close-gone.ensures.closed ∙ ap (close_row c.args.self.now c.args.pid.0) c.from.ensures in
    let other = c.close-gone.ensures.others c.args.fd (subst (λ (n : ℕ). c.args.fd ≢ n) (sym c.from.ensures) c.requires.other) in
    c.share.ensures row (other ∙ there) ∙ ap (λ (t : OpenTables). with_row t c.args.pid.0 c.args.to.0 (duplicate_of row)) closed
