use Rattle.std.proofs.Common.{ap}
use Rattle.kern_calls.proofs.Joins.{open_row, keep_holders}
use Rattle.kern_calls.proofs.parts.Parts.mark.Goals as goal

pub invariant_of-self : goal.invariant_of-self
invariant_of-self c =
    let row = open_row c.self.inside.opens c.self.inside.tree c.args.self.now c.args.pid.0 c.args.fd c.self.view_is c.requires.open in
    keep_holders c.self.inside.opens c.set_flag.new.self c.self.inside.tree c.self.invariant (ap (λ t. t.files) (c.set_flag.ensures row.value row.is))
