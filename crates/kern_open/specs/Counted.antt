-- How an `Opens` keeps open files: rows name them by keys, and each is kept with the count of the rows that name it.
use Rattle.std.specs.Prelude.{◌≡◌, ℕ, ◌+◌, List, Option, Some, None, IsSome, map, length, sum_by, count_by}
use Rattle.sp_base.specs.Table.{at}
use Rattle.sp_base.specs.declared.limits.TheConstants.{DESCRIPTORS}
use Rattle.kern_model.specs.declared.node.Row.{Row}
use Rattle.kern_model.specs.declared.node.OpenFile.{OpenFile}
use Rattle.kern_model.specs.State.{Process, process_numbers, rows_in, is_row_of}
use Rattle.kern_proc.specs.Processes.{rows_at}
use Rattle.numbered.specs.Book.{Book, number_at, item_at}
use Rattle.kern_open.specs.declared.shared.Shared.{Shared}
use Rattle.kern_open.specs.OpenTables.{OpenTables}

-- a row that names another number by the same key
abbrev pub renamed_row : (ℕ → ℕ) → Option Row → Option Row
renamed_row f None = None
renamed_row f (Some row) = Some (record row { file = f row.file })

-- a process whose rows are renamed
abbrev pub renamed_process : (ℕ → ℕ) → Option Process → Option Process
renamed_process f None = None
renamed_process f (Some p) = Some (record p { rows = map (renamed_row f) p.rows })

-- the processes with renamed rows
abbrev pub renamed : (ℕ → ℕ) → List (Option Process) → List (Option Process)
renamed f ps = map (renamed_process f) ps

-- a number that is there, or 0
abbrev pub or_zero : Option ℕ → ℕ
or_zero None = 0
or_zero (Some n) = n

-- the number of what a key holds
abbrev pub number_of_key : Book Shared → ℕ → ℕ
number_of_key b key = or_zero (number_at b key)

-- the open file without its count
abbrev pub file_in : Option Shared → Option OpenFile
file_in None = None
file_in (Some shared) = Some shared.file

-- what the processes and the open files are in a kernel's state
abbrev pub tables_of : List (Option Process) → Book Shared → OpenTables
tables_of ps b = record { processes = renamed (number_of_key b) ps; files = map file_in b.items; room = b.room }

-- how many rows of all processes name a key
abbrev pub row_count : List (Option Process) → ℕ → ℕ
row_count ps key = sum_by (λ p. count_by (is_row_of key) (rows_in p)) ps

-- what a key holds
abbrev pub shared_at : Book Shared → ℕ → Option Shared
shared_at b key = item_at b.items (number_at b key)

-- each row names a key that holds an open file, whose count is how many rows name it; 258 numbers of processes, with 128 rows each
pub record IsCounted (ps : List (Option Process)) (b : Book Shared) : Type 0 where
  pub held : (pid fd : ℕ) (row : Row) → at (rows_at ps pid) fd ≡ Some row → IsSome (shared_at b row.file)
  pub counted : (key : ℕ) (shared : Shared) → shared_at b key ≡ Some shared → shared.rows ≡ row_count ps key
  pub numbers : length ps ≡ process_numbers
  pub rows : (pid : ℕ) → IsSome (at ps pid) → length (rows_at ps pid) ≡ DESCRIPTORS

-- rows are counted once more: each key's open file stays, and its count rises by the rows that name the key
pub record Holds (old new : Book Shared) (rows : List (Option Row)) : Type 0 where
  pub numbers : new.numbers ≡ old.numbers
  pub files : map file_in new.items ≡ map file_in old.items
  pub room : new.room ≡ old.room
  pub counts : (key : ℕ) (shared : Shared) → shared_at old key ≡ Some shared
      → shared_at new key ≡ Some (record shared { rows = shared.rows + count_by (is_row_of key) rows })
