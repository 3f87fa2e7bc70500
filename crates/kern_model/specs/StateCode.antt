-- The code of a kernel's state.
use Rattle.std.specs.Prelude.{ℕ, List, Option, refl}
use Rattle.std.specs.Coded.{Coded, code_by, coded×, coded_ℕ, coded_list, coded_option}
use Rattle.kern_model.specs.declared.node.Node.{Node}
use Rattle.kern_model.specs.contracts.node.Node as node
use Rattle.kern_model.specs.declared.node.OpenFile.{OpenFile}
use Rattle.kern_model.specs.contracts.node.OpenFile as file
use Rattle.kern_model.specs.declared.node.Row.{Row}
use Rattle.kern_model.specs.contracts.node.Row as row
use Rattle.kern_model.specs.Name.{Names}
use Rattle.kern_model.specs.NameMap.{names_code}
use Rattle.kern_model.specs.State.{Process, State}

-- the code of a process
abbrev pub process_code : Coded Process
process_code = code_by (ℕ × List (Option Row)) (coded× coded_ℕ (coded_list (coded_option row.the_row.coded))) (λ p. (p.directory, p.rows)) (λ p. record { directory = p.0; rows = p.1 }) (λ _. refl)

-- the code of a state
abbrev pub state_code : Coded State
state_code = code_by (Names × (List (Option Node) × (List (Option Process) × List (Option OpenFile))))
    (coded× names_code (coded× (coded_list (coded_option node.the_row.coded)) (coded× (coded_list (coded_option process_code)) (coded_list (coded_option file.the_row.coded)))))
    (λ s. (s.names, (s.nodes, (s.processes, s.files)))) (λ p. record { names = p.0; nodes = p.1.0; processes = p.1.1.0; files = p.1.1.1 }) (λ _. refl)
