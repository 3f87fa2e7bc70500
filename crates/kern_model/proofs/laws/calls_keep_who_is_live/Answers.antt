use Rattle.kern_model.proofs.ProcessLaws.{call_keeps, exec_keeps}
use Rattle.kern_model.proofs.laws.calls_keep_who_is_live.Goals as goal

pub returns-clause-call : goal.returns-clause-call
returns-clause-call c = λ s pid call ins outcome t other e. (call_keeps s pid call ins outcome t e).1.live other

pub returns-clause-exec : goal.returns-clause-exec
returns-clause-exec c = λ s pid ins outcome t other e. (exec_keeps s pid ins outcome t e).1.live other
