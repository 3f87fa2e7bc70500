-- The names are a tree, and what becomes of it where the names stay.
use Rattle.std.specs.Prelude.{slice_set, nat_lt, if◌then◌else◌}
use Rattle.std.proofs.Common.{◌≡◌, ℕ, ◌≤◌, Bool, true, false, ◌||◌, List, [], ◌∷◌, ◌++◌, length, Option, Some, None, refl, sym, ap, ◌∙◌, arith, length-append}
use Rattle.std.proofs.lemmas.List.{length-set, get_or_append_left}
use Rattle.std.proofs.lemmas.Bool.{true≢false}
use Rattle.std.specs.List.{list_any}
use Rattle.std.specs.FinMap.{get}
use Rattle.kern_model.specs.declared.node.Node.{Node}
use Rattle.kern_model.specs.declared.node.Object.{Object}
use Rattle.kern_model.specs.declared.node.Object.TheVariants as object
use Rattle.kern_model.specs.declared.node.OpenFile.{OpenFile}
use Rattle.kern_model.specs.declared.node.Row.{Row}
use Rattle.sp_base.specs.Table.{at}
use Rattle.kern_model.specs.Name.{Path, Names, name_count}
use Rattle.kern_model.specs.State.{State, Process, root, directory_in, directory_of, rows_of, with_process, with_row, replace_rows, kind_in, is_directory_kind, replace_bytes, with_bytes, with_node, is_of_node, without_unused, is_held, let_go_of, let_go_object, let_go, close_row_by, close_row}
use Rattle.kern_model.specs.NameLaws.{HasParents}
use Rattle.kern_model.specs.Sound.{IsPlace, IsNamedDirectory, HasTree}
use Rattle.sp_base.proofs.TableLaws.{at_other, all_set, seen_same}
use Rattle.kern_model.proofs.EntryLaws.{counted}

-- what stands in a missing directory is missing
pub tree_parents : (s : State) → HasTree s → HasParents s.names
tree_parents s h component path missing =
    elim (get s.names (component ∷ path)) as (λ o. get s.names (component ∷ path) ≡ o → o ≡ None) [
      | None ↦ λ t. refl
      | Some node ↦ λ t. (let place = h.tree.parents component path node t in let k : None ≡ Some place.node = sym missing ∙ place.stands in absurd cc)
    ] refl

-- the root is a directory with a name
pub named_root : (s : State) → HasTree s → IsNamedDirectory s.names s.nodes root
named_root s h = record { path = []; stands = h.tree.top; directory = h.tree.root_directory }

-- ---- processes

-- a process, or none, in a directory that has a name
pub tree_process : (s : State) (pid : ℕ) (process : Option Process) → IsNamedDirectory s.names s.nodes (directory_in process) → HasTree s → HasTree (with_process s pid process)
tree_process s pid process may h = record {
  tree = h.tree;
  working = all_set (λ (p : Option Process). IsNamedDirectory s.names s.nodes (directory_in p)) s.processes pid process may h.working;
}

named_rows : (names : Names) (nodes : List (Option Node)) (p : Option Process) (rows : List (Option Row)) → IsNamedDirectory names nodes (directory_in p) → IsNamedDirectory names nodes (directory_in (replace_rows p rows))
named_rows names nodes None rows h = h
named_rows names nodes (Some p) rows h = h

pub tree_row : (s : State) (pid fd : ℕ) (row : Option Row) → HasTree s → HasTree (with_row s pid fd row)
tree_row s pid fd row h = tree_process s pid _ (named_rows s.names s.nodes (at s.processes pid) (slice_set (rows_of s pid) fd row) (h.working pid)) h

-- ---- nodes

-- other nodes, no fewer, of which those that have a name are directories as before
pub tree_nodes : (s : State) (nodes : List (Option Node)) → length s.nodes ≤ length nodes
    → ((path : Path) (node : ℕ) → get s.names path ≡ Some node → is_directory_kind (kind_in (at nodes node)) ≡ is_directory_kind (kind_in (at s.nodes node)))
    → HasTree s → HasTree (record s { nodes = nodes })
tree_nodes s nodes le kept h = record {
  tree = record {
    top = h.tree.top;
    root_directory = kept [] root h.tree.top ∙ h.tree.root_directory;
    parents = λ component path node e. (let place = h.tree.parents component path node e in
        record { node = place.node; stands = place.stands; directory = kept path place.node place.stands ∙ place.directory });
    once = λ path other node e f directory. h.tree.once path other node e f (sym (kept path node e) ∙ directory);
    made = λ path node e. (let lt = h.tree.made path node e in omega (arith, lt, le));
  };
  working = λ pid. (let works = h.working pid in record {
    path = works.path;
    stands = works.stands;
    directory = kept works.path (directory_of s pid) works.stands ∙ works.directory;
  });
}

bytes_kind : (o : Option Node) (bytes : List ℕ) → is_directory_kind (kind_in (replace_bytes o bytes)) ≡ is_directory_kind (kind_in o)
bytes_kind None bytes = refl
bytes_kind (Some node) bytes = refl

pub tree_bytes : (s : State) (node : ℕ) (bytes : List ℕ) → HasTree s → HasTree (with_bytes s node bytes)
tree_bytes s node bytes h =
    let other = replace_bytes (at s.nodes node) bytes in
    let same = length-set s.nodes node other in
    tree_nodes s (slice_set s.nodes node other) (omega (arith, same))
    (λ path n e. seen_same (λ (o : Option Node). is_directory_kind (kind_in o)) s.nodes node other n (bytes_kind (at s.nodes node) bytes)) h

-- with a node more, every node that has a name is of the kind that it was
kind_before : (s : State) (node : Node) → HasTree s → (path : Path) (n : ℕ) → get s.names path ≡ Some n → is_directory_kind (kind_in (at (s.nodes ++ Some node ∷ []) n)) ≡ is_directory_kind (kind_in (at s.nodes n))
kind_before s node h path n e = ap (λ (o : Option Node). is_directory_kind (kind_in o)) (get_or_append_left s.nodes (Some node ∷ []) None n (h.tree.made path n e))

pub tree_node : (s : State) (node : Node) → HasTree s → HasTree (with_node s node)
tree_node s node h =
    let more = length-append s.nodes (Some node ∷ []) in
    tree_nodes s (s.nodes ++ Some node ∷ []) (omega (arith, more)) (kind_before s node h) h

pub place_node : (s : State) (node : Node) (path : Path) → HasTree s → IsPlace s.names s.nodes path → IsPlace s.names (s.nodes ++ Some node ∷ []) path
place_node s node path h place = record { node = place.node; stands = place.stands; directory = kind_before s node h path place.node place.stands ∙ place.directory }

-- what holds of a state, and of it without a node that has no name, holds of it without a node that is unused
pub unused_by : (P : State → Type 0) (s : State) (node : ℕ) → P s → (nat_lt 0 (name_count s.names node) ≡ false → P (record s { nodes = slice_set s.nodes node None })) → P (without_unused s node)
unused_by P s node same gone =
    elim (nat_lt 0 (name_count s.names node)) as (λ b. nat_lt 0 (name_count s.names node) ≡ b → P (if b || list_any (is_of_node node) s.files then s else record s { nodes = slice_set s.nodes node None })) [
      | true ↦ λ t. same
      | false ↦ λ t. elim (list_any (is_of_node node) s.files) as (λ b. P (if b then s else record s { nodes = slice_set s.nodes node None })) [ true ↦ same | false ↦ gone t ]
    ] refl

-- without a node that has no name, every node that has one is of the kind that it was
kind_beside : (s : State) (node : ℕ) → nat_lt 0 (name_count s.names node) ≡ false → (path : Path) (n : ℕ) → get s.names path ≡ Some n → is_directory_kind (kind_in (at (slice_set s.nodes node None) n)) ≡ is_directory_kind (kind_in (at s.nodes n))
kind_beside s node t path n e = ap (λ (o : Option Node). is_directory_kind (kind_in o)) (at_other s.nodes node None n
    (λ is. true≢false (sym (counted s.names path n e) ∙ ap (λ (m : ℕ). nat_lt 0 (name_count s.names m)) is ∙ t)))

pub tree_unused : (s : State) (node : ℕ) → HasTree s → HasTree (without_unused s node)
tree_unused s node h =
    let same = length-set s.nodes node None in
    unused_by (λ t. HasTree t) s node h (λ t. tree_nodes s (slice_set s.nodes node None) (omega (arith, same)) (kind_beside s node t) h)

pub place_unused : (s : State) (node : ℕ) (path : Path) → IsPlace s.names s.nodes path → IsPlace (without_unused s node).names (without_unused s node).nodes path
place_unused s node path place =
    unused_by (λ t. IsPlace t.names t.nodes path) s node place (λ t. record { node = place.node; stands = place.stands; directory = kind_beside s node t path place.node place.stands ∙ place.directory })

pub names_unused : (s : State) (node : ℕ) → (without_unused s node).names ≡ s.names
names_unused s node = unused_by (λ t. t.names ≡ s.names) s node refl (λ t. refl)

-- ---- open files

-- other open files
pub tree_files : (s : State) (files : List (Option OpenFile)) → HasTree s → HasTree (record s { files = files })
tree_files s files h = record { tree = h.tree; working = h.working }

tree_of : (s : State) (o : Object) → HasTree s → HasTree (let_go_of s o)
tree_of s (object.Node node) h = tree_unused s node h

tree_object : (s : State) (file : Option OpenFile) → HasTree s → HasTree (let_go_object s file)
tree_object s None h = h
tree_object s (Some file) h = tree_of s file.object h

tree_if : (b : Bool) (s t : State) → HasTree s → HasTree t → HasTree (if b then s else t)
tree_if true s t h k = h
tree_if false s t h k = k

tree_let_go : (s : State) (file : ℕ) → HasTree s → HasTree (let_go s file)
tree_let_go s file h =
    let fewer = slice_set s.files file None in
    tree_if (is_held s file) s _ h (tree_object (record s { files = fewer }) (at s.files file) (tree_files s fewer h))

tree_close_by : (s : State) (pid fd : ℕ) (row : Option Row) → HasTree s → HasTree (close_row_by s pid fd row)
tree_close_by s pid fd None h = h
tree_close_by s pid fd (Some row) h = tree_let_go (with_row s pid fd None) row.file (tree_row s pid fd None h)

pub tree_close : (s : State) (pid fd : ℕ) → HasTree s → HasTree (close_row s pid fd)
tree_close s pid fd h = tree_close_by s pid fd (at (rows_of s pid) fd) h
