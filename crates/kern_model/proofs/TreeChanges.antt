-- Every change of a call leaves a tree.
use Rattle.std.proofs.Common.{◌≡◌, ◌≢◌, ◌⊎◌, inl, inr, ℕ, true, false, List, [], ◌∷◌, ◌++◌, length, Option, Some, None, refl, sym, ap, subst, ◌∙◌, arith, length-append}
use Rattle.std.proofs.lemmas.Bool.{true≢false, eq-eqb}
use Rattle.std.specs.FinMap.{get, insert, remove}
use Rattle.sp_base.specs.Table.{at}
use Rattle.kern_model.specs.declared.node.Node.{Node}
use Rattle.kern_model.specs.Name.{Path, Names, is_same_path, below}
use Rattle.kern_model.specs.State.{State, Process, root, directory_in, directory_of, replace_directory, with_file, with_node, is_directory, is_directory_of, without_unused}
use Rattle.kern_model.specs.Links.{without_name}
use Rattle.kern_model.specs.Sound.{IsNamedDirectory, HasTree}
use Rattle.kern_model.proofs.AnyLaws.{any_from}
use Rattle.kern_model.proofs.Changes.{Changes, IsFree, IsSpare, CanMove, CanReplace, Stays, Then, Closes, Shares, Marks, Refiles, Opens, Writes, Makes, Links, Unlinks, Moves, Replaces, Enters}
use Rattle.kern_model.proofs.RenameLaws.{nothing_below, apart_by}
use Rattle.kern_model.proofs.TreeLaws.{tree_parents, named_root, tree_process, tree_row, tree_bytes, tree_node, place_node, tree_unused, place_unused, names_unused, tree_files, tree_close}
use Rattle.kern_model.proofs.PlaceLaws.{KeepsNames, is_still, place_still, tree_insert, tree_remove, names_moved}
use Rattle.kern_model.proofs.NameLaws.{apart_from, remove_same}

-- ---- a name more

-- a new node under a new name
tree_made : (s : State) (path : Path) (node : Node) → IsFree s path → HasTree s → HasTree (record (with_node s node) { names = insert s.names path (length s.nodes) })
tree_made s [] node free h = absurd free
tree_made s (component ∷ path) node free h =
    let more = length-append s.nodes (Some node ∷ []) in
    tree_insert (with_node s node) component path (length s.nodes) free.0 (place_node s node path h free.1) (omega (arith, more))
    (λ other e directory. let lt = h.tree.made other (length s.nodes) e in omega (arith, lt))
    (tree_node s node h)

-- another name of a node that is no directory
tree_linked : (s : State) (old path : Path) (node : ℕ) → get s.names old ≡ Some node → is_directory s node ≡ false → IsFree s path → HasTree s → HasTree (record s { names = insert s.names path node })
tree_linked s old [] node e file free h = absurd free
tree_linked s old (component ∷ path) node e file free h =
    tree_insert s component path node free.0 free.1 (h.tree.made old node e) (λ other f directory. true≢false (sym directory ∙ file)) h

-- ---- a name fewer

same_node : (names : Names) (path other : Path) (node n : ℕ) → get names path ≡ Some node → get names other ≡ Some n → other ≡ path → n ≡ node
same_node names path other node n e f same =
    let k : Some n ≡ Some node = sym f ∙ ap (λ (p : Path). get names p) same ∙ e in cc

-- a process that works in a node is one whose working directory it is, or there is none and it is the root
works_in : (process : Option Process) (node : ℕ) → directory_in process ≡ node → (is_directory_of node process ≡ true) ⊎ (root ≡ node)
works_in None node e = inr e
works_in (Some process) node e = inl (eq-eqb process.directory node e)

-- no process works under a spare path
idle_path : (s : State) (path : Path) (node : ℕ) → IsSpare s path node → (h : HasTree s) → (pid : ℕ) → (h.working pid).path ≢ path
idle_path s path node spare h pid same =
    let works = h.working pid in
    let is : directory_of s pid ≡ node = same_node s.names path works.path node (directory_of s pid) spare.named works.stands same in
    let directory : is_directory s node ≡ true = subst (λ (n : ℕ). is_directory s n ≡ true) is works.directory in
    by_process (works_in (at s.processes pid) node is) directory where
      by_process : (is_directory_of node (at s.processes pid) ≡ true) ⊎ (root ≡ node) → is_directory s node ≡ true → ⊥
      by_process (inl there) directory = true≢false (sym (any_from (is_directory_of node) s.processes pid refl there) ∙ spare.idle directory)
      by_process (inr top) directory = spare.apart (h.tree.once path [] node spare.named (h.tree.top ∙ ap (λ (n : ℕ). Some n) top) directory)

tree_dropped : (s : State) (path : Path) (node : ℕ) → IsSpare s path node → HasTree s → HasTree (record s { names = remove s.names path })
tree_dropped s [] node spare h = absurd (spare.apart refl)
tree_dropped s (component ∷ path) node spare h = tree_remove s component path spare.empty h (idle_path s (component ∷ path) node spare h)

-- ---- a name that is moved

pub names_to_free : (s : State) (old : Path) (node : ℕ) (new : Path) → CanMove s old node new → IsFree s new → HasTree s → KeepsNames s old new
names_to_free s old node [] can free h = absurd free
names_to_free s old node (component ∷ path) can free h =
    let new : Path = component ∷ path in
    let below_free = nothing_below s.names new (tree_parents s h) free.0 in
    let old_apart : (r : Path) → old ≢ r ++ new = λ r. apart_from s.names (r ++ new) old node (below_free r) can.named in
    names_moved s old component path (apart_by new old (below new old) (is_same_path new old) refl refl can.apart (λ same. old_apart [] (sym same))) old_apart below_free free.1 h

path_apart : (component : List ℕ) (path : Path) → path ≢ component ∷ path
path_apart component path e = let a : length path ≡ length (component ∷ path) = ap length e in omega (arith, a)

pub names_over : (s : State) (old : Path) (node : ℕ) (new : Path) (replaced : ℕ) → CanReplace s old node new replaced → HasTree s → KeepsNames (without_name s new replaced) old new
names_over s old node [] replaced can h = absurd (can.spare.apart refl)
names_over s old node (component ∷ path) replaced can h =
    let new : Path = component ∷ path in
    let taken : State = record s { names = remove s.names new } in
    let idle = idle_path s new replaced can.spare h in
    let k : HasTree taken = tree_remove s component path can.spare.empty h idle in
    let free = nothing_below taken.names new (tree_parents taken k) (remove_same s.names new) in
    let there = is_still s component path can.spare.empty h idle old node (λ same. can.other (sym same)) can.named in
    let place = place_still s component path can.spare.empty h idle path (path_apart component path) (h.tree.parents component path replaced can.spare.named) in
    names_moved (without_unused taken replaced) old component path
    (apart_by new old (below new old) (is_same_path new old) refl refl can.apart can.other)
    (λ r. apart_from taken.names (r ++ new) old node (free r) there)
    (λ r. ap (λ (names : Names). get names (r ++ new)) (names_unused taken replaced) ∙ free r)
    (place_unused taken replaced path place)
    (tree_unused taken replaced k)

-- ---- the working directory

named_replace : (s : State) (process : Option Process) (node : ℕ) → IsNamedDirectory s.names s.nodes node → HasTree s → IsNamedDirectory s.names s.nodes (directory_in (replace_directory process node))
named_replace s None node named h = named_root s h
named_replace s (Some process) node named h = named

-- ---- all of them

pub tree_changed : {pid : ℕ} {s t : State} → Changes pid s t → HasTree s → HasTree t
tree_changed Stays h = h
tree_changed (Then first next) h = tree_changed next (tree_changed first h)
tree_changed {pid = pid} {s = s} (Closes fd) h = tree_close s pid fd h
tree_changed {pid = pid} {s = s} (Shares fd row unused there) h = tree_row s pid fd (Some row) h
tree_changed {pid = pid} {s = s} (Marks fd row flag e) h = tree_row s pid fd _ h
tree_changed {pid = pid} {s = s} (Refiles number old file e same) h = tree_files s _ h
tree_changed {pid = pid} {s = s} (Opens fd node file flag low of there) h = tree_row (with_file s file) pid fd _ (tree_files s _ h)
tree_changed {pid = pid} {s = s} (Writes node bytes fits) h = tree_bytes s node bytes h
tree_changed {pid = pid} {s = s} (Makes path node free room none) h = tree_made s path node (free h) h
tree_changed {pid = pid} {s = s} (Links old path node e file free low) h = tree_linked s old path node e file (free h) h
tree_changed {pid = pid} {s = s} (Unlinks path node spare) h = tree_unused (record s { names = remove s.names path }) node (tree_dropped s path node (spare h) h)
tree_changed {pid = pid} {s = s} (Moves old node new can) h = (names_to_free s old node new (can h) (can h).free h).tree
tree_changed {pid = pid} {s = s} (Replaces old node new replaced can) h = (names_over s old node new replaced (can h) h).tree
tree_changed {pid = pid} {s = s} (Enters path node e directory) h =
    tree_process s pid _ (named_replace s (at s.processes pid) node (record { path = path; stands = e; directory = directory }) h) h
