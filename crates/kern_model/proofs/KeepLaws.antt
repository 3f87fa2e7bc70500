-- What the parts of an operation on one process leave of the table of processes.
use Rattle.std.specs.Prelude.{slice_set, is_some, if◌then◌else◌}
use Rattle.std.proofs.Common.{◌≡◌, ◌≢◌, ℕ, zero, suc, Bool, true, false, List, length, Option, Some, None, refl, ap, ◌∙◌}
use Rattle.std.proofs.lemmas.List.{length-set}
use Rattle.kern_model.specs.declared.node.Object.TheVariants as object
use Rattle.kern_model.specs.declared.node.Object.{Object}
use Rattle.kern_model.specs.declared.node.OpenFile.{OpenFile}
use Rattle.kern_model.specs.declared.node.Row.{Row}
use Rattle.sp_base.specs.Table.{at}
use Rattle.kern_model.specs.State.{State, Process, rows_in, rows_of, directory_in, directory_of, with_process, with_row, replace_rows, replace_directory, stays, without_unused, is_held, let_go_of, let_go_object, let_go, close_row_by, close_row, close_rows}
use Rattle.sp_base.proofs.TableLaws.{at_other, seen_same}

-- one process may have other rows or another working directory, and all else of the processes is the same
pub record Keeps (pid : ℕ) (s t : State) : Type 0 where
  pub others : (q : ℕ) → q ≢ pid → at t.processes q ≡ at s.processes q
  pub live : (q : ℕ) → is_some (at t.processes q) ≡ is_some (at s.processes q)
  pub descriptors : (q : ℕ) → length (rows_of t q) ≡ length (rows_of s q)
  pub numbers : length t.processes ≡ length s.processes

-- the same processes
pub keeps_same : (pid : ℕ) (s t : State) → t.processes ≡ s.processes → Keeps pid s t
keeps_same pid s t e = record {
  others = λ q ne. ap (λ (l : List (Option Process)). at l q) e;
  live = λ q. ap (λ (l : List (Option Process)). is_some (at l q)) e;
  descriptors = λ q. ap (λ (l : List (Option Process)). length (rows_in (at l q))) e;
  numbers = ap (λ (l : List (Option Process)). length l) e;
}

-- one after the other
pub keeps_both : (pid : ℕ) (s t u : State) → Keeps pid s t → Keeps pid t u → Keeps pid s u
keeps_both pid s t u h k = record {
  others = λ q ne. k.others q ne ∙ h.others q ne;
  live = λ q. k.live q ∙ h.live q;
  descriptors = λ q. k.descriptors q ∙ h.descriptors q;
  numbers = k.numbers ∙ h.numbers;
}

-- another process in the place of one, with as many rows
keeps_process : (pid : ℕ) (s : State) (p : Option Process) → is_some p ≡ is_some (at s.processes pid) → length (rows_in p) ≡ length (rows_of s pid) → Keeps pid s (with_process s pid p)
keeps_process pid s p live rows = record {
  others = λ q ne. at_other s.processes pid p q ne;
  live = λ q. seen_same (λ (o : Option Process). is_some o) s.processes pid p q live;
  descriptors = λ q. seen_same (λ (o : Option Process). length (rows_in o)) s.processes pid p q rows;
  numbers = length-set s.processes pid p;
}

rows_live : (p : Option Process) (rows : List (Option Row)) → is_some (replace_rows p rows) ≡ is_some p
rows_live None rows = refl
rows_live (Some p) rows = refl

rows_length : (p : Option Process) (fd : ℕ) (row : Option Row) → length (rows_in (replace_rows p (slice_set (rows_in p) fd row))) ≡ length (rows_in p)
rows_length None fd row = refl
rows_length (Some p) fd row = length-set p.rows fd row

pub keeps_row : (pid : ℕ) (s : State) (fd : ℕ) (row : Option Row) → Keeps pid s (with_row s pid fd row)
keeps_row pid s fd row = keeps_process pid s _ (rows_live (at s.processes pid) (slice_set (rows_of s pid) fd row)) (rows_length (at s.processes pid) fd row)

directory_live : (p : Option Process) (node : ℕ) → is_some (replace_directory p node) ≡ is_some p
directory_live None node = refl
directory_live (Some p) node = refl

directory_rows : (p : Option Process) (node : ℕ) → length (rows_in (replace_directory p node)) ≡ length (rows_in p)
directory_rows None node = refl
directory_rows (Some p) node = refl

pub keeps_directory : (pid : ℕ) (s : State) (node : ℕ) → Keeps pid s (with_process s pid (replace_directory (at s.processes pid) node))
keeps_directory pid s node = keeps_process pid s _ (directory_live (at s.processes pid) node) (directory_rows (at s.processes pid) node)

-- ---- what goes with the last that keeps it

-- a choice of two states with the same processes
chosen : (b : Bool) (s t : State) → t.processes ≡ s.processes → (if b then s else t).processes ≡ s.processes
chosen true s t e = refl
chosen false s t e = e

pub unused_processes : (s : State) (node : ℕ) → (without_unused s node).processes ≡ s.processes
unused_processes s node = chosen (stays s node) s (record s { nodes = slice_set s.nodes node None }) refl

let_go_of_processes : (s : State) (o : Object) → (let_go_of s o).processes ≡ s.processes
let_go_of_processes s (object.Node node) = unused_processes s node

let_go_object_processes : (s : State) (file : Option OpenFile) → (let_go_object s file).processes ≡ s.processes
let_go_object_processes s None = refl
let_go_object_processes s (Some file) = let_go_of_processes s file.object

pub let_go_processes : (s : State) (file : ℕ) → (let_go s file).processes ≡ s.processes
let_go_processes s file = chosen (is_held s file) s (let_go_object (record s { files = slice_set s.files file None }) (at s.files file)) (let_go_object_processes (record s { files = slice_set s.files file None }) (at s.files file))

keeps_close_by : (pid : ℕ) (s : State) (fd : ℕ) (row : Option Row) → Keeps pid s (close_row_by s pid fd row)
keeps_close_by pid s fd None = keeps_same pid s s refl
keeps_close_by pid s fd (Some row) =
    keeps_both pid s (with_row s pid fd None) _ (keeps_row pid s fd None) (keeps_same pid (with_row s pid fd None) _ (let_go_processes (with_row s pid fd None) row.file))

pub keeps_close : (pid : ℕ) (s : State) (fd : ℕ) → Keeps pid s (close_row s pid fd)
keeps_close pid s fd = keeps_close_by pid s fd (at (rows_of s pid) fd)

-- a row of a state with the same processes
pub keeps_row_of : (pid : ℕ) (s t : State) (fd : ℕ) (row : Option Row) → t.processes ≡ s.processes → Keeps pid s (with_row t pid fd row)
keeps_row_of pid s t fd row e = keeps_both pid s t _ (keeps_same pid s t e) (keeps_row pid t fd row)

keeps_if : (b : Bool) (pid : ℕ) (s t : State) → Keeps pid s t → Keeps pid s (if b then t else s)
keeps_if true pid s t h = h
keeps_if false pid s t h = keeps_same pid s s refl

pub keeps_close_rows : (marked : Bool) (pid : ℕ) (s : State) (fd : ℕ) → Keeps pid s (close_rows marked s pid fd)
keeps_close_rows marked pid s zero = keeps_same pid s s refl
keeps_close_rows marked pid s (suc fd) =
    let before = close_rows marked s pid fd in
    keeps_both pid s before _ (keeps_close_rows marked pid s fd) (keeps_if _ pid before (close_row before pid fd) (keeps_close pid before fd))

-- ---- the working directory stays

rows_directory : (p : Option Process) (rows : List (Option Row)) → directory_in (replace_rows p rows) ≡ directory_in p
rows_directory None rows = refl
rows_directory (Some p) rows = refl

close_by_directory : (pid : ℕ) (s : State) (fd : ℕ) (row : Option Row) → directory_of (close_row_by s pid fd row) pid ≡ directory_of s pid
close_by_directory pid s fd None = refl
close_by_directory pid s fd (Some row) =
    let rows = slice_set (rows_of s pid) fd None in
    ap (λ (l : List (Option Process)). directory_in (at l pid)) (let_go_processes (with_row s pid fd None) row.file)
    ∙ seen_same (λ (o : Option Process). directory_in o) s.processes pid (replace_rows (at s.processes pid) rows) pid (rows_directory (at s.processes pid) rows)

directory_if : (b : Bool) (pid : ℕ) (s t : State) → directory_of t pid ≡ directory_of s pid → directory_of (if b then t else s) pid ≡ directory_of s pid
directory_if true pid s t h = h
directory_if false pid s t h = refl

pub close_rows_directory : (marked : Bool) (pid : ℕ) (s : State) (fd : ℕ) → directory_of (close_rows marked s pid fd) pid ≡ directory_of s pid
close_rows_directory marked pid s zero = refl
close_rows_directory marked pid s (suc fd) =
    let before = close_rows marked s pid fd in
    directory_if _ pid before (close_row before pid fd) (close_by_directory pid before fd (at (rows_of before pid) fd))
    ∙ close_rows_directory marked pid s fd
