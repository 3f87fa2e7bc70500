use Rattle.kern_model.proofs.ProcessLaws.{attach_makes}
use Rattle.kern_model.proofs.OperationLaws.{attached}
use Rattle.kern_model.proofs.laws.attach_takes_the_lowest_number.Goals as goal

pub returns-clause-made : goal.returns-clause-made
returns-clause-made c = λ s pid ins outcome t e zero. (attached s pid ins outcome t e zero).new zero

pub returns-clause-full : goal.returns-clause-full
returns-clause-full c = λ s pid pieces outcome t e. (attach_makes s outcome t e).full
