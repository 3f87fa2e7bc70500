use Rattle.std.proofs.Common.{sym, ◌∙◌}
use Rattle.kern_model.proofs.NamesLaws.{below_same}
use Rattle.kern_model.proofs.path.+depth_below.Goals as goal

pub returns-then-is_same-clause-which : goal.returns-then-is_same-clause-which
returns-then-is_same-clause-which n c = sym (below_same c.args.path.now c.args.top.now (sym c.is_same.ensures ∙ c.if-is_same.true))
