use Rattle.kern_model.proofs.OperationLaws.{others_stay}
use Rattle.kern_model.proofs.laws.others_stay.Goals as goal

pub returns : goal.returns
returns c = others_stay
