-- The rows of a process after a row is set and after a descriptor is closed.
use Rattle.std.specs.Prelude.{slice_set}
use Rattle.std.proofs.Common.{◌≡◌, ◌≢◌, ℕ, List, Option, Some, None, refl, ap, ◌∙◌}
use Rattle.sp_base.specs.Table.{at}
use Rattle.sp_base.proofs.TableLaws.{at_other, at_same}
use Rattle.kern_model.specs.declared.node.Row.{Row}
use Rattle.kern_model.specs.State.{State, Process, rows_in, rows_of, with_row, replace_rows, close_row_by, close_row}
use Rattle.kern_model.proofs.KeepLaws.{let_go_processes}

-- the rows of a process that has others by now
replaced_rows : (p : Option Process) (fd : ℕ) (row : Option Row) → rows_in (replace_rows p (slice_set (rows_in p) fd row)) ≡ slice_set (rows_in p) fd row
replaced_rows None fd row = refl
replaced_rows (Some p) fd row = refl

no_process : (p : Option Process) (rows : List (Option Row)) → p ≡ None → replace_rows p rows ≡ None
no_process None rows e = refl
no_process (Some p) rows e = absurd cc

-- one row of the process is another one
pub rows_with_row : (s : State) (pid fd : ℕ) (row : Option Row) → rows_of (with_row s pid fd row) pid ≡ slice_set (rows_of s pid) fd row
rows_with_row s pid fd row =
    let rows = slice_set (rows_of s pid) fd row in
    ap (λ (p : Option Process). rows_in p) (at_same s.processes pid (replace_rows (at s.processes pid) rows) (no_process (at s.processes pid) rows))
    ∙ replaced_rows (at s.processes pid) fd row

rows_closed : (s : State) (pid fd : ℕ) (row : Row) → rows_of (close_row_by s pid fd (Some row)) pid ≡ slice_set (rows_of s pid) fd None
rows_closed s pid fd row =
    ap (λ (l : List (Option Process)). rows_in (at l pid)) (let_go_processes (with_row s pid fd None) row.file)
    ∙ rows_with_row s pid fd None

closed_by : (s : State) (pid fd : ℕ) (row : Option Row) → at (rows_of s pid) fd ≡ row → at (rows_of (close_row_by s pid fd row) pid) fd ≡ None
closed_by s pid fd None e = e
closed_by s pid fd (Some row) e =
    ap (λ (l : List (Option Row)). at l fd) (rows_closed s pid fd row) ∙ at_same (rows_of s pid) fd None (λ _. refl)

-- a closed descriptor has no row
pub closed_row : (s : State) (pid fd : ℕ) → at (rows_of (close_row s pid fd) pid) fd ≡ None
closed_row s pid fd = closed_by s pid fd (at (rows_of s pid) fd) refl

other_by : (s : State) (pid fd : ℕ) (row : Option Row) (k : ℕ) → k ≢ fd → at (rows_of (close_row_by s pid fd row) pid) k ≡ at (rows_of s pid) k
other_by s pid fd None k ne = refl
other_by s pid fd (Some row) k ne =
    ap (λ (l : List (Option Row)). at l k) (rows_closed s pid fd row) ∙ at_other (rows_of s pid) fd None k ne

-- every other descriptor keeps its row
pub other_row : (s : State) (pid fd k : ℕ) → k ≢ fd → at (rows_of (close_row s pid fd) pid) k ≡ at (rows_of s pid) k
other_row s pid fd k ne = other_by s pid fd (at (rows_of s pid) fd) k ne
