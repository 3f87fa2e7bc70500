-- What a contract sees of an `Opens`, and what it is after a change.
use Rattle.std.specs.Prelude.{ℕ, ◌-◌, Bool, false, List, [], ◌∷◌, ◌++◌, length, Option, None, Some, slice_set, replicate, refl, if◌then◌else◌}
use Rattle.std.specs.List.{list_any}
use Rattle.std.specs.Coded.{Coded, code_by, coded×, coded_ℕ, coded_list, coded_option}
use Rattle.sp_base.specs.Table.{at}
use Rattle.kern_model.specs.declared.node.OpenFile.{OpenFile}
use Rattle.kern_model.specs.contracts.node.OpenFile as file
use Rattle.kern_model.specs.declared.node.Row.{Row}
use Rattle.kern_model.specs.State.{Process, process_numbers, rows_in, is_row_of}
use Rattle.kern_model.specs.StateCode.{process_code}
use Rattle.kern_proc.specs.Processes.{rows_at, set_row}

-- the processes, and the open files by number, as a kernel's state has them; and how many more open files have room
-- without more memory
pub record OpenTables : Type 0 where
  pub processes : List (Option Process)
  pub files : List (Option OpenFile)
  pub room : ℕ

-- the code of the tables
abbrev pub tables_code : Coded OpenTables
tables_code = code_by (List (Option Process) × (List (Option OpenFile) × ℕ)) (coded× (coded_list (coded_option process_code)) (coded× (coded_list (coded_option file.the_row.coded)) coded_ℕ))
    (λ t. (t.processes, (t.files, t.room))) (λ p. record { processes = p.0; files = p.1.0; room = p.1.1 }) (λ _. refl)

-- no process and no open file
abbrev pub no_tables : OpenTables
no_tables = record { processes = replicate process_numbers None; files = []; room = 0 }

-- the rows of a process
abbrev pub rows_of : OpenTables → ℕ → List (Option Row)
rows_of t pid = rows_at t.processes pid

-- the tables with another process, or none, at a number
abbrev pub with_process : OpenTables → ℕ → Option Process → OpenTables
with_process t pid process = record t { processes = slice_set t.processes pid process }

-- the tables with another row, or none, at a descriptor of a process
abbrev pub with_row : OpenTables → ℕ → ℕ → Option Row → OpenTables
with_row t pid fd row = record t { processes = set_row t.processes pid fd row }

-- a row of the same open file, with the close-on-exec flag clear
abbrev pub duplicate_of : Row → Option Row
duplicate_of row = Some (record row { close_on_exec = false })

-- some row of some process is of an open file
abbrev pub is_held : OpenTables → ℕ → Bool
is_held t number = list_any (λ process. list_any (is_row_of number) (rows_in process)) t.processes

-- what a row is of, none where there is no row
abbrev pub file_of : OpenTables → Option Row → Option OpenFile
file_of t None = None
file_of t (Some row) = at t.files row.file

-- the tables with another open file of the same number
abbrev pub replace_file : OpenTables → ℕ → OpenFile → OpenTables
replace_file t number file = record t { files = slice_set t.files number (Some file) }

-- the tables without an open file that no row is of
abbrev pub let_go : OpenTables → ℕ → OpenTables
let_go t number = if is_held t number then t else record t { files = slice_set t.files number None }

-- the open file that goes, where no row is of it
abbrev pub let_go_file : OpenTables → ℕ → Option OpenFile
let_go_file t number = if is_held t number then None else at t.files number

-- the tables without a row, and without the open file that only that row was of
abbrev pub close_row_by : OpenTables → ℕ → ℕ → Option Row → OpenTables
close_row_by t pid fd None = t
close_row_by t pid fd (Some row) = let_go (with_row t pid fd None) row.file

-- the tables without the row of a descriptor
abbrev pub close_row : OpenTables → ℕ → ℕ → OpenTables
close_row t pid fd = close_row_by t pid fd (at (rows_of t pid) fd)

-- the open file that goes with a row
abbrev pub closed_by : OpenTables → ℕ → ℕ → Option Row → Option OpenFile
closed_by t pid fd None = None
closed_by t pid fd (Some row) = let_go_file (with_row t pid fd None) row.file

-- the open file that goes with the row of a descriptor
abbrev pub closed_file : OpenTables → ℕ → ℕ → Option OpenFile
closed_file t pid fd = closed_by t pid fd (at (rows_of t pid) fd)

-- the tables with one open file more, in the room that there was, and a row of it at a descriptor
abbrev pub open_at : OpenTables → ℕ → ℕ → OpenFile → Bool → OpenTables
open_at t pid fd file flag = record (with_row t pid fd (Some (record { file = length t.files; close_on_exec = flag }))) { files = t.files ++ Some file ∷ []; room = t.room - 1 }
