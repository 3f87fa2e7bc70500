-- A descriptor that is closed in a kernel is closed in its tables, and the object of the open file that went is let go of.
use Rattle.std.proofs.Common.{◌≡◌, ℕ, true, false, Option, Some, None, cond, refl}
use Rattle.std.specs.Prelude.{slice_set}
use Rattle.sp_base.specs.Table.{at}
use Rattle.kern_model.specs.declared.node.Row.{Row}
use Rattle.kern_model.specs.State.{State, let_go_object}
use Rattle.kern_model.specs.State as kernel
use Rattle.kern_open.specs.OpenTables.{OpenTables, rows_of, with_row, is_held, close_row_by, close_row, closed_by, closed_file}

-- a kernel's state with the processes and the open files of the tables
abbrev pub with_tables : State → OpenTables → State
with_tables s t = record s { processes = t.processes; files = t.files }

row_closes : (s : State) (t : OpenTables) (pid fd : ℕ) (o : Option Row) → kernel.close_row_by (with_tables s t) pid fd o ≡ let_go_object (with_tables s (close_row_by t pid fd o)) (closed_by t pid fd o)
row_closes s t pid fd None = refl
row_closes s t pid fd (Some row) =
    elim (is_held (with_row t pid fd None) row.file) as (λ held.
    cond held (with_tables s (with_row t pid fd None)) (let_go_object (with_tables s (record (with_row t pid fd None) { files = slice_set t.files row.file None })) (at t.files row.file))
    ≡ let_go_object (with_tables s (cond held (with_row t pid fd None) (record (with_row t pid fd None) { files = slice_set t.files row.file None }))) (cond held None (at t.files row.file))) [
      | true ↦ refl
      | false ↦ refl
    ]

-- the state after a descriptor is closed
pub close_row-with_tables : (s : State) (t : OpenTables) (pid fd : ℕ) → kernel.close_row (with_tables s t) pid fd ≡ let_go_object (with_tables s (close_row t pid fd)) (closed_file t pid fd)
close_row-with_tables s t pid fd = row_closes s t pid fd (at (rows_of t pid) fd)
