use Rattle.kern_model.proofs.OperationLaws.{exec_leaves, exec_stays, exec_shares}
use Rattle.kern_model.proofs.laws.exec_closes_marked_rows.Goals as goal

pub returns-clause-rows : goal.returns-clause-rows
returns-clause-rows c = λ s pid pieces outcome t fd e len. exec_leaves s pid outcome t fd e len

pub returns-clause-directory : goal.returns-clause-directory
returns-clause-directory c = λ s pid pieces outcome t e. exec_stays s pid outcome t e

pub returns-clause-shared : goal.returns-clause-shared
returns-clause-shared c = λ s pid pieces outcome t e. exec_shares s pid outcome t e
