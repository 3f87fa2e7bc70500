use Rattle.std.proofs.Common.{◌≡◌, ◌∙◌, Some, sym, ap, subst, count_by}
use Rattle.sp_base.specs.Table.{at}
use Rattle.kern_model.specs.State.{State, rows_of, is_of_node}
use Rattle.kern_calls.proofs.Joins.{open_row, file_there, keep_holders, set_holders}
use Rattle.kern_calls.proofs.parts.Parts.set_file.Goals as goal

pub invariant_of-self : goal.invariant_of-self
invariant_of-self c =
    let row = open_row c.self.inside.opens c.self.inside.tree c.args.self.now c.args.pid.0 c.args.fd c.self.view_is c.requires.open in
    let stands = ap (λ (s : State). at (rows_of s c.args.pid.0) c.args.fd) (sym c.self.view_is) ∙ row.is in
    let old = file_there c.self.inside.opens c.self.inside.tree c.args.self.now row.value.file c.self.view_is (c.requires.there row.value stands) in
    let same = c.requires.same row.value old.value stands (ap (λ (s : State). at s.files row.value.file) (sym c.self.view_is) ∙ old.is) in
    λ node. set_holders c.self.inside.opens c.self.inside.tree row.value.file old.value c.args.file c.self.invariant old.is same node
    ∙ ap (λ t. count_by (is_of_node node) t.files) (sym (c.set_file.ensures row.value row.is))
