use Rattle.std.proofs.Common.{◌≡◌, ◌∙◌, refl}
use borrow.Enum.Total.{values_d}
use Rattle.kern_model.specs.contracts.node.Object.{enum}
use Rattle.kern_model.specs.declared.node.Object.TheVariants.{Node}
use Rattle.kern_model.specs.State.{without_unused, let_go_of}
use Rattle.kern_model.proofs.plain.Plain.let_go_of.Goals as goal

pub returns-clause-after : goal.returns-clause-after
returns-clause-after c = c.drop_unused.ensures.after ∙ elim c.args.object as (λ o. without_unused c.args.self.now (values_d enum 0 (0, tt {0}) o).0 ≡ let_go_of c.args.self.now o) [
  | Node n ↦ refl
]
