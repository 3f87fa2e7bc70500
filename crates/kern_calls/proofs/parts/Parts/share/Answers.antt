use Rattle.std.proofs.Common.{◌≡◌, ◌∙◌, ap}
use Rattle.sp_base.specs.Table.{at}
use Rattle.kern_model.specs.State.{State, rows_of}
use Rattle.kern_calls.proofs.Joins.{open_row, keep_holders, share_files, share_state}
use Rattle.kern_calls.proofs.parts.Parts.share.Goals as goal

pub invariant_of-self : goal.invariant_of-self
invariant_of-self c =
    let row = open_row c.self.inside.opens c.self.inside.tree c.args.self.now c.args.pid.0 c.args.fd c.self.view_is c.requires.open in
    keep_holders c.self.inside.opens c.duplicate.new.self c.self.inside.tree c.self.invariant
    (share_files c.self.inside.opens c.duplicate.new.self c.args.pid.0 _ c.duplicate.result (c.duplicate.ensures.made row.value row.is) c.duplicate.ensures.none)

pub returns-clause-made : goal.returns-clause-made
returns-clause-made c row is =
    share_state c.self.inside.opens c.duplicate.new.self c.self.inside.tree c.args.self.now c.args.pid.0 _ c.duplicate.result c.self.view_is
    (c.duplicate.ensures.made row (ap (λ (s : State). at (rows_of s c.args.pid.0) c.args.fd) c.self.view_is ∙ is))
