use Rattle.std.proofs.Common.{◌≡◌, refl}
use borrow.Enum.Total.{values_d}
use Rattle.kern_model.specs.contracts.node.Object.{enum}
use Rattle.kern_model.specs.declared.node.Object.TheVariants.{Node}
use Rattle.kern_model.proofs.node.Object.node.Goals as goal

pub returns : goal.returns
returns c = elim c.args.self as (λ o. o ≡ Node (values_d enum 0 (0, tt {0}) o).0) [
  | Node n ↦ refl
]
