-- Every change of a call keeps what is held.
use Rattle.std.specs.Prelude.{IsTrue, IsSome, is_some}
use Rattle.std.proofs.Common.{◌≡◌, ◌≢◌, ◌⊎◌, inl, inr, ℕ, Bool, List, [], ◌∷◌, length, Option, Some, None, refl, sym, ap, subst, ◌∙◌}
use Rattle.std.proofs.lemmas.Bool.{cases_eq}
use Rattle.std.specs.FinMap.{get, insert, remove}
use Rattle.sp_base.specs.Table.{at, lowest_unused}
use Rattle.sp_base.proofs.TableLaws.{at_other, at_within, seen_same, lowest_unused_is}
use Rattle.kern_model.specs.declared.node.Node.{Node}
use Rattle.kern_model.specs.declared.node.Object.{Object}
use Rattle.kern_model.specs.declared.node.Object.TheVariants as object
use Rattle.kern_model.specs.declared.node.OpenFile.{OpenFile}
use Rattle.kern_model.specs.declared.node.Row.{Row}
use Rattle.kern_model.specs.Name.{Path, Names}
use Rattle.kern_model.specs.State.{State, Process, rows_in, rows_of, with_process, with_row, replace_directory, replace_file, with_file, replace_bytes, with_bytes, with_node, stays, is_held}
use Rattle.kern_model.specs.Links.{without_name, moved}
use Rattle.kern_model.specs.Sound.{IsThere, HasTree, IsHeld}
use Rattle.kern_model.proofs.LengthLaws.{at_end}
use Rattle.kern_model.proofs.RowLaws.{rows_with_row}
use Rattle.kern_model.proofs.NameLaws.{HasName, apart_from, paths_apart, insert_cases, insert_other, insert_same, remove_was, remove_other}
use Rattle.kern_model.proofs.HolderLaws.{there_below, set_cases, end_stays, end_cases, some_there, has_from, HasRow, held_row, row_held, row_cases, row_elsewhere, HasFile, stays_named, stays_still}
use Rattle.kern_model.proofs.HeldLaws.{held_unused, held_close}
use Rattle.kern_model.proofs.PlaceLaws.{KeepsNames}
use Rattle.kern_model.proofs.Changes.{Changes, IsFree, Stays, Then, Closes, Shares, Marks, Refiles, Opens, Writes, Makes, Links, Unlinks, Moves, Replaces, Enters}
use Rattle.kern_model.proofs.TreeChanges.{names_to_free, names_over, tree_changed}

-- ---- rows

-- an object is there in another state with the same nodes
pub there_with : (s t : State) → s.nodes ≡ t.nodes → (o : Object) → IsThere s o → IsThere t o
there_with s t same (object.Node node) there = ap (λ (nodes : List (Option Node)). is_some (at nodes node)) (sym same) ∙ there

-- a row of an open file that is there, at a descriptor that was unused
held_shared : (s : State) (pid fd : ℕ) (row : Row) → at (rows_of s pid) fd ≡ None → IsSome (at s.files row.file) → IsHeld s → IsHeld (with_row s pid fd (Some row))
held_shared s pid fd row unused there h = record {
  rows = λ q k r e. rows_after q k r (row_cases s pid fd (Some row) q k r e);
  files = λ number f. files_after number (held_row s number (h.files number f));
  objects = λ number file e. there_with s after refl file.object (h.objects number file e);
  names = h.names;
  nodes = h.nodes;
} where
  after : State
  after = with_row s pid fd (Some row)

  rows_after : (q k : ℕ) (r : Row) → (◌≡◌ {A = Option Row} (Some row) (Some r)) ⊎ (at (rows_of s q) k ≡ Some r) → IsSome (at s.files r.file)
  rows_after q k r (inl e) = let is : row ≡ r = cc in subst (λ (r : Row). IsSome (at s.files r.file)) is there
  rows_after q k r (inr e) = h.rows q k r e

  files_after : (number : ℕ) → HasRow s number → IsTrue (is_held after number)
  files_after number has = row_held after number (record {
    pid = has.pid;
    fd = has.fd;
    row = has.row;
    there = row_elsewhere s pid fd (Some row) has.pid has.fd has.row (λ same at_fd.
        let none : None ≡ Some has.row = sym unused ∙ ap (λ (k : ℕ). at (rows_of s pid) k) (sym at_fd) ∙ ap (λ (q : ℕ). at (rows_of s q) has.fd) (sym same) ∙ has.there in cc) has.there;
    of = has.of;
  })

-- a row of the same open file
held_marked : (s : State) (pid fd : ℕ) (row new : Row) → at (rows_of s pid) fd ≡ Some row → new.file ≡ row.file → IsHeld s → IsHeld (with_row s pid fd (Some new))
held_marked s pid fd row new e same h = record {
  rows = λ q k r f. rows_after q k r (row_cases s pid fd (Some new) q k r f);
  files = λ number there. files_after number (held_row s number (h.files number there));
  objects = λ number file f. there_with s after refl file.object (h.objects number file f);
  names = h.names;
  nodes = h.nodes;
} where
  after : State
  after = with_row s pid fd (Some new)

  rows_after : (q k : ℕ) (r : Row) → (◌≡◌ {A = Option Row} (Some new) (Some r)) ⊎ (at (rows_of s q) k ≡ Some r) → IsSome (at s.files r.file)
  rows_after q k r (inl f) = let is : new ≡ r = cc in subst (λ (n : ℕ). IsSome (at s.files n)) (sym same ∙ ap (λ (r : Row). r.file) is) (h.rows pid fd row e)
  rows_after q k r (inr f) = h.rows q k r f

  here : at (rows_of after pid) fd ≡ Some new
  here = ap (λ (l : List (Option Row)). at l fd) (rows_with_row s pid fd (Some new)) ∙ at_within (rows_of s pid) fd (Some new) (there_below (rows_of s pid) fd (some_there (at (rows_of s pid) fd) row e))

  by_fd : (number : ℕ) (has : HasRow s number) → has.pid ≡ pid → (has.fd ≡ fd) ⊎ (has.fd ≡ fd → ⊥) → HasRow after number
  by_fd number has same_pid (inl same_fd) = record {
    pid = pid;
    fd = fd;
    row = new;
    there = here;
    of = same
        ∙ ap (λ (r : Row). r.file) (let one : Some row ≡ Some has.row = sym e ∙ ap (λ (k : ℕ). at (rows_of s pid) k) (sym same_fd) ∙ ap (λ (q : ℕ). at (rows_of s q) has.fd) (sym same_pid) ∙ has.there in let is : row ≡ has.row = cc in is)
        ∙ has.of;
  }
  by_fd number has same_pid (inr ne) = record { pid = has.pid; fd = has.fd; row = has.row; there = row_elsewhere s pid fd (Some new) has.pid has.fd has.row (λ _. ne) has.there; of = has.of }

  by_pid : (number : ℕ) (has : HasRow s number) → (has.pid ≡ pid) ⊎ (has.pid ≡ pid → ⊥) → HasRow after number
  by_pid number has (inl same_pid) = by_fd number has same_pid (cases_eq has.fd fd)
  by_pid number has (inr ne) = record { pid = has.pid; fd = has.fd; row = has.row; there = row_elsewhere s pid fd (Some new) has.pid has.fd has.row (λ same_pid. absurd (ne same_pid)) has.there; of = has.of }

  files_after : (number : ℕ) → HasRow s number → IsTrue (is_held after number)
  files_after number has = row_held after number (by_pid number has (cases_eq has.pid pid))

-- ---- open files

-- another open file of the same object
held_refiled : (s : State) (number : ℕ) (old file : OpenFile) → at s.files number ≡ Some old → file.object ≡ old.object → IsHeld s → IsHeld (replace_file s number file)
held_refiled s number old file e same h = record {
  rows = λ q k r f. live r.file ∙ h.rows q k r f;
  files = λ n there. h.files n (sym (live n) ∙ there);
  objects = λ n f g. there_with s after refl f.object (objects_after n f (set_cases s.files number (Some file) n f g));
  names = h.names;
  nodes = λ node there. stays_still s after node (λ name. inl name) (λ has. inr (files_after node has (cases_eq has.number number))) (h.nodes node there);
} where
  after : State
  after = replace_file s number file

  live : (n : ℕ) → is_some (at after.files n) ≡ is_some (at s.files n)
  live n = seen_same (λ (o : Option OpenFile). is_some o) s.files number (Some file) n (sym (some_there (at s.files number) old e))

  objects_after : (n : ℕ) (f : OpenFile) → (◌≡◌ {A = Option OpenFile} (Some file) (Some f)) ⊎ ((n ≢ number) × (at s.files n ≡ Some f)) → IsThere s f.object
  objects_after n f (inl g) = let is : file ≡ f = cc in subst (λ (o : Object). IsThere s o) (sym same ∙ ap (λ (f : OpenFile). f.object) is) (h.objects number old e)
  objects_after n f (inr g) = h.objects n f g.1

  files_after : (node : ℕ) (has : HasFile s.files node) → (has.number ≡ number) ⊎ (has.number ≡ number → ⊥) → HasFile after.files node
  files_after node has (inl here) = record {
    number = number;
    file = file;
    there = at_within s.files number (Some file) (there_below s.files number (some_there (at s.files number) old e));
    of = same ∙ ap (λ (f : OpenFile). f.object) (let one : Some old ≡ Some has.file = sym e ∙ ap (λ (n : ℕ). at s.files n) (sym here) ∙ has.there in let is : old ≡ has.file = cc in is) ∙ has.of;
  }
  files_after node has (inr ne) = record { number = has.number; file = has.file; there = at_other s.files number (Some file) has.number ne ∙ has.there; of = has.of }

-- a new open file, with a row at a descriptor that was unused
held_opened : (s : State) (pid fd node : ℕ) (file : OpenFile) (flag : Bool) → lowest_unused (rows_of s pid) 0 ≡ Some fd → file.object ≡ object.Node node → IsSome (at s.nodes node) → IsHeld s
    → IsHeld (with_row (with_file s file) pid fd (Some (record { file = length s.files; close_on_exec = flag })))
held_opened s pid fd node file flag low of there h = record {
  rows = λ q k r e. rows_after q k r (row_cases opened pid fd (Some row) q k r e);
  files = λ number e. files_by number (has_from (at opened.files number) e).value (end_cases s.files (Some file) number _ (has_from (at opened.files number) e).is);
  objects = λ number f e. objects_by number f (end_cases s.files (Some file) number f e);
  names = h.names;
  nodes = λ n e. stays_still s after n (λ name. inl name) (λ has. inr (record { number = has.number; file = has.file; there = end_stays s.files (Some file) has.number has.file has.there; of = has.of })) (h.nodes n e);
} where
  row : Row
  row = record { file = length s.files; close_on_exec = flag }

  opened : State
  opened = with_file s file

  after : State
  after = with_row opened pid fd (Some row)

  kept : (number : ℕ) → IsSome (at s.files number) → IsSome (at opened.files number)
  kept number e = let has = has_from (at s.files number) e in some_there (at opened.files number) has.value (end_stays s.files (Some file) number has.value has.is)

  rows_after : (q k : ℕ) (r : Row) → (◌≡◌ {A = Option Row} (Some row) (Some r)) ⊎ (at (rows_of s q) k ≡ Some r) → IsSome (at opened.files r.file)
  rows_after q k r (inl e) = let is : row ≡ r = cc in subst (λ (r : Row). IsSome (at opened.files r.file)) is (some_there (at opened.files (length s.files)) file (at_end s.files (Some file)))
  rows_after q k r (inr e) = kept r.file (h.rows q k r e)

  here : at (rows_of after pid) fd ≡ Some row
  here = ap (λ (l : List (Option Row)). at l fd) (rows_with_row opened pid fd (Some row)) ∙ at_within (rows_of s pid) fd (Some row) (lowest_unused_is (rows_of s pid) 0 fd low).0

  old_row : (number : ℕ) → HasRow s number → HasRow after number
  old_row number has = record {
    pid = has.pid;
    fd = has.fd;
    row = has.row;
    there = row_elsewhere opened pid fd (Some row) has.pid has.fd has.row (λ same at_fd.
        let none : None ≡ Some has.row = sym (lowest_unused_is (rows_of s pid) 0 fd low).1 ∙ ap (λ (k : ℕ). at (rows_of s pid) k) (sym at_fd) ∙ ap (λ (q : ℕ). at (rows_of s q) has.fd) (sym same) ∙ has.there in cc) has.there;
    of = has.of;
  }

  files_by : (number : ℕ) (f : OpenFile) → ((number ≡ length s.files) × (◌≡◌ {A = Option OpenFile} (Some file) (Some f))) ⊎ (at s.files number ≡ Some f) → IsTrue (is_held after number)
  files_by number f (inl last) = row_held after number (record { pid = pid; fd = fd; row = row; there = here; of = sym last.0 })
  files_by number f (inr e) = row_held after number (old_row number (held_row s number (h.files number (some_there (at s.files number) f e))))

  objects_by : (number : ℕ) (f : OpenFile) → ((number ≡ length s.files) × (◌≡◌ {A = Option OpenFile} (Some file) (Some f))) ⊎ (at s.files number ≡ Some f) → IsThere after f.object
  objects_by number f (inl last) = let last_is = last.1 in let is : file ≡ f = cc in subst (λ (o : Object). IsThere after o) (sym of ∙ ap (λ (f : OpenFile). f.object) is) there
  objects_by number f (inr e) = there_with s after refl f.object (h.objects number f e)

-- ---- nodes and names

bytes_live : (o : Option Node) (bytes : List ℕ) → is_some (replace_bytes o bytes) ≡ is_some o
bytes_live None bytes = refl
bytes_live (Some node) bytes = refl

held_written : (s : State) (node : ℕ) (bytes : List ℕ) → IsHeld s → IsHeld (with_bytes s node bytes)
held_written s node bytes h = record {
  rows = h.rows;
  files = h.files;
  objects = λ number file e. objects_after file.object (h.objects number file e);
  names = λ path n e. live n ∙ h.names path n e;
  nodes = λ n there. h.nodes n (sym (live n) ∙ there);
} where
  live : (n : ℕ) → is_some (at (with_bytes s node bytes).nodes n) ≡ is_some (at s.nodes n)
  live n = seen_same (λ (o : Option Node). is_some o) s.nodes node (replace_bytes (at s.nodes node) bytes) n (bytes_live (at s.nodes node) bytes)

  objects_after : (o : Object) → IsThere s o → IsThere (with_bytes s node bytes) o
  objects_after (object.Node n) there = live n ∙ there

free_is : (s : State) (path : Path) → IsFree s path → get s.names path ≡ None
free_is s [] free = absurd free
free_is s (component ∷ path) free = free.0

-- a name more, where nothing was, leaves every other name
name_stays : (names : Names) (new : Path) (node n : ℕ) → get names new ≡ None → HasName names n → HasName (insert names new node) n
name_stays names new node n free name = record { path = name.path; stands = insert_other names new node name.path (apart_from names new name.path n free name.stands) ∙ name.stands }

held_made : (s : State) (path : Path) (node : Node) → get s.names path ≡ None → IsHeld s → IsHeld (record (with_node s node) { names = insert s.names path (length s.nodes) })
held_made s path node free h = record {
  rows = h.rows;
  files = h.files;
  objects = λ number file e. objects_after file.object (h.objects number file e);
  names = λ p n e. names_by n (insert_cases s.names path (length s.nodes) p n e);
  nodes = λ n e. nodes_by n (has_from (at after.nodes n) e).value (end_cases s.nodes (Some node) n _ (has_from (at after.nodes n) e).is);
} where
  after : State
  after = record (with_node s node) { names = insert s.names path (length s.nodes) }

  kept : (n : ℕ) → IsSome (at s.nodes n) → IsSome (at after.nodes n)
  kept n e = let has = has_from (at s.nodes n) e in some_there (at after.nodes n) has.value (end_stays s.nodes (Some node) n has.value has.is)

  objects_after : (o : Object) → IsThere s o → IsThere after o
  objects_after (object.Node n) there = kept n there

  names_by : {p : Path} (n : ℕ) → ((p ≡ path) × (length s.nodes ≡ n)) ⊎ (get s.names p ≡ Some n) → IsSome (at after.nodes n)
  names_by n (inl new) = subst (λ (n : ℕ). IsSome (at after.nodes n)) new.1 (some_there (at after.nodes (length s.nodes)) node (at_end s.nodes (Some node)))
  names_by {p = p} n (inr e) = kept n (h.names p n e)

  nodes_by : (n : ℕ) (x : Node) → ((n ≡ length s.nodes) × (◌≡◌ {A = Option Node} (Some node) (Some x))) ⊎ (at s.nodes n ≡ Some x) → IsTrue (stays after n)
  nodes_by n x (inl last) = stays_named after n (record { path = path; stands = insert_same s.names path (length s.nodes) ∙ ap (λ (m : ℕ). Some m) (sym last.0) })
  nodes_by n x (inr e) = stays_still s after n (λ name. inl (name_stays s.names path (length s.nodes) n free name)) (λ has. inr has) (h.nodes n (some_there (at s.nodes n) x e))

held_linked : (s : State) (path : Path) (node : ℕ) → get s.names path ≡ None → IsSome (at s.nodes node) → IsHeld s → IsHeld (record s { names = insert s.names path node })
held_linked s path node free there h = record {
  rows = h.rows;
  files = h.files;
  objects = λ number file e. there_with s after refl file.object (h.objects number file e);
  names = λ p n e. names_by n (insert_cases s.names path node p n e);
  nodes = λ n e. stays_still s after n (λ name. inl (name_stays s.names path node n free name)) (λ has. inr has) (h.nodes n e);
} where
  after : State
  after = record s { names = insert s.names path node }

  names_by : {p : Path} (n : ℕ) → ((p ≡ path) × (node ≡ n)) ⊎ (get s.names p ≡ Some n) → IsSome (at s.nodes n)
  names_by n (inl new) = subst (λ (n : ℕ). IsSome (at s.nodes n)) new.1 there
  names_by {p = p} n (inr e) = h.names p n e

held_unlinked : (s : State) (path : Path) (node : ℕ) → get s.names path ≡ Some node → IsHeld s → IsHeld (without_name s path node)
held_unlinked s path node e h = held_unused taken node (record {
  rows = h.rows;
  files = h.files;
  objects = λ number file f. there_with s taken refl file.object (h.objects number file f);
  names = λ p n f. h.names p n (remove_was s.names path p n f);
  nodes = λ n ne there. stays_still s taken n
      (λ name. inl (record { path = name.path; stands = remove_other s.names path name.path (paths_apart s.names path name.path node n e name.stands ne) ∙ name.stands }))
      (λ has. inr has) (h.nodes n there);
}) where
  taken : State
  taken = record s { names = remove s.names path }

held_moved : (s : State) (old new : Path) → KeepsNames s old new → IsHeld s → IsHeld (moved s old new)
held_moved s old new keeps h = record {
  rows = h.rows;
  files = h.files;
  objects = λ number file e. there_with s (moved s old new) refl file.object (h.objects number file e);
  names = λ p n e. (let name = keeps.came p n e in h.names name.path n name.stands);
  nodes = λ n there. stays_still s (moved s old new) n (λ name. inl (keeps.goes n name)) (λ has. inr has) (h.nodes n there);
}

-- ---- processes

directory_rows : (p : Option Process) (node : ℕ) → rows_in (replace_directory p node) ≡ rows_in p
directory_rows None node = refl
directory_rows (Some p) node = refl

held_entered : (s : State) (pid node : ℕ) → IsHeld s → IsHeld (with_process s pid (replace_directory (at s.processes pid) node))
held_entered s pid node h = record {
  rows = λ q k r e. h.rows q k r (ap (λ (l : List (Option Row)). at l k) (sym (same q)) ∙ e);
  files = λ number there. (let has = held_row s number (h.files number there) in row_held after number (record {
    pid = has.pid;
    fd = has.fd;
    row = has.row;
    there = ap (λ (l : List (Option Row)). at l has.fd) (same has.pid) ∙ has.there;
    of = has.of;
  }));
  objects = λ number file e. there_with s after refl file.object (h.objects number file e);
  names = h.names;
  nodes = h.nodes;
} where
  after : State
  after = with_process s pid (replace_directory (at s.processes pid) node)

  same : (q : ℕ) → rows_of after q ≡ rows_of s q
  same q = seen_same (λ (p : Option Process). rows_in p) s.processes pid (replace_directory (at s.processes pid) node) q (directory_rows (at s.processes pid) node)

-- ---- all of them

pub held_changed : {pid : ℕ} {s t : State} → Changes pid s t → HasTree s → IsHeld s → IsHeld t
held_changed Stays tree h = h
held_changed (Then first next) tree h = held_changed next (tree_changed first tree) (held_changed first tree h)
held_changed {pid = pid} {s = s} (Closes fd) tree h = held_close s pid fd h
held_changed {pid = pid} {s = s} (Shares fd row unused there) tree h = held_shared s pid fd row unused (there h) h
held_changed {pid = pid} {s = s} (Marks fd row flag e) tree h = held_marked s pid fd row (record row { close_on_exec = flag }) e refl h
held_changed {pid = pid} {s = s} (Refiles number old file e same) tree h = held_refiled s number old file e same h
held_changed {pid = pid} {s = s} (Opens fd node file flag low of there) tree h = held_opened s pid fd node file flag low of (there h) h
held_changed {pid = pid} {s = s} (Writes node bytes fits) tree h = held_written s node bytes h
held_changed {pid = pid} {s = s} (Makes path node free room none) tree h = held_made s path node (free_is s path (free tree)) h
held_changed {pid = pid} {s = s} (Links old path node e file free low) tree h = held_linked s path node (free_is s path (free tree)) (h.names old node e) h
held_changed {pid = pid} {s = s} (Unlinks path node spare) tree h = held_unlinked s path node (spare tree).named h
held_changed {pid = pid} {s = s} (Moves old node new can) tree h = held_moved s old new (names_to_free s old node new (can tree) (can tree).free tree) h
held_changed {pid = pid} {s = s} (Replaces old node new replaced can) tree h =
    held_moved (without_name s new replaced) old new (names_over s old node new replaced (can tree) tree) (held_unlinked s new replaced (can tree).spare.named h)
held_changed {pid = pid} {s = s} (Enters path node e directory) tree h = held_entered s pid node h
