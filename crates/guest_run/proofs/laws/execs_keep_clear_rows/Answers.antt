use Rattle.guest_run.specs.Guest.{request}
use Rattle.guest_run.proofs.KeptRows.{keeps_clear, keeps_directory}
use Rattle.guest_run.proofs.laws.execs_keep_clear_rows.Goals as goal

pub returns-clause-rows : goal.returns-clause-rows
returns-clause-rows c = λ guest pid n key before line row entry fd is. keeps_clear before pid (request key) entry fd is.next

pub returns-clause-directory : goal.returns-clause-directory
returns-clause-directory c = λ guest pid n key before line row entry is. keeps_directory before pid (request key) entry is.next
