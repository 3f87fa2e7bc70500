use Rattle.kern_model.proofs.ProcessLaws.{fork_makes, live_stays}
use Rattle.kern_model.proofs.OperationLaws.{forked}
use Rattle.kern_model.proofs.laws.fork_copies_the_parent.Goals as goal

pub returns-clause-child : goal.returns-clause-child
returns-clause-child c = λ s pid ins outcome t e zero. (forked s pid ins outcome t e zero).new zero

pub returns-clause-parent : goal.returns-clause-parent
returns-clause-parent c = λ s pid ins outcome t e zero live. live_stays pid (forked s pid ins outcome t e zero) zero live

pub returns-clause-full : goal.returns-clause-full
returns-clause-full c = λ s pid pieces outcome t e. (fork_makes s pid outcome t e).full
