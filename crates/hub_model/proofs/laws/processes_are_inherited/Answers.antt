use Rattle.hub_model.proofs.InheritDone.{forks_inherit, images_inherit, joins_inherit}
use Rattle.hub_model.proofs.InheritWaits.{children_wait}
use Rattle.hub_model.proofs.laws.processes_are_inherited.Goals as goal

pub returns-clause-forks : goal.returns-clause-forks
returns-clause-forks c = forks_inherit

pub returns-clause-waits : goal.returns-clause-waits
returns-clause-waits c = children_wait

pub returns-clause-joins : goal.returns-clause-joins
returns-clause-joins c = joins_inherit

pub returns-clause-images : goal.returns-clause-images
returns-clause-images c = images_inherit
