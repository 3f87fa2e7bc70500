use Rattle.hub_model.proofs.OwnersEvents.{runs_traced}
use Rattle.hub_model.proofs.laws.owners_are_inherited.Goals as goal

pub returns : goal.returns
returns c = λ version exchanges m run. (runs_traced version exchanges m run).owners
