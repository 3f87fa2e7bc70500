-- Every change of a call keeps within the limits.
use Rattle.std.specs.Prelude.{slice_set, is_some, sum_by, nat_lt, if◌then◌else◌}
use Rattle.std.proofs.Common.{◌≡◌, ℕ, ◌+◌, ◌-◌, ◌^◌, ◌<◌, ◌≤◌, Bool, true, false, ◌==◌, List, [], length, Option, Some, None, refl, ap, subst, arith}
use Rattle.std.proofs.lemmas.Bool.{ltb-true, ltb-false, eqb-true, and_parts, false_from_ne_true}
use Rattle.std.proofs.lemmas.List.Sums.{sum_by_push}
use Rattle.std.specs.FinMap.{insert, remove}
use Rattle.sp_base.specs.Table.{at}
use Rattle.sp_base.proofs.TableLaws.{all_set}
use Rattle.kern_model.specs.declared.node.Node.{Node}
use Rattle.kern_model.specs.declared.node.Object.{Object}
use Rattle.kern_model.specs.declared.node.Object.TheVariants as object
use Rattle.kern_model.specs.declared.node.OpenFile.{OpenFile}
use Rattle.kern_model.specs.declared.node.Row.{Row}
use Rattle.kern_model.specs.Name.{Path, name_count}
use Rattle.kern_model.specs.State.{State, with_row, with_bytes, with_node, replace_bytes, bytes_in, node_limit, has_room, without_unused, is_held, let_go_of, let_go_object, let_go, close_row_by, close_row, rows_of, node_count}
use Rattle.kern_model.specs.Files.{file_limit, total_limit}
use Rattle.kern_model.specs.Links.{link_limit, without_name, moved}
use Rattle.kern_model.specs.Sound.{HasTree, HasLimits}
use Rattle.kern_model.proofs.CountLaws.{one_if, count_insert, count_remove, count_renamed, sum_set, all_end}
use Rattle.kern_model.proofs.HolderLaws.{counted_name}
use Rattle.kern_model.proofs.TreeLaws.{unused_by}
use Rattle.kern_model.proofs.Changes.{Changes, AreFitting, Stays, Then, Closes, Shares, Marks, Refiles, Opens, Writes, Makes, Links, Unlinks, Moves, Replaces, Enters}
use Rattle.kern_model.proofs.TreeChanges.{tree_changed}

-- ---- fewer nodes

at_most : (limit was is other : ℕ) → is + other ≤ was + 0 → was ≤ limit → is ≤ limit
at_most limit was is other fewer le = omega arith

limits_fewer : (s : State) (node : ℕ) → HasLimits s → HasLimits (record s { nodes = slice_set s.nodes node None })
limits_fewer s node h = record {
  nodes = at_most node_limit _ _ _ (sum_set (λ o. one_if (is_some o)) s.nodes node None refl) h.nodes;
  file = all_set (λ (o : Option Node). length (bytes_in o) ≤ file_limit) s.nodes node None (omega arith) h.file;
  total = at_most total_limit _ _ _ (sum_set (λ o. length (bytes_in o)) s.nodes node None refl) h.total;
  links = h.links;
}

limits_unused : (s : State) (node : ℕ) → HasLimits s → HasLimits (without_unused s node)
limits_unused s node h = unused_by (λ t. HasLimits t) s node h (λ _. limits_fewer s node h)

limits_let_go_of : (s : State) (o : Object) → HasLimits s → HasLimits (let_go_of s o)
limits_let_go_of s (object.Node node) h = limits_unused s node h

limits_let_go_object : (s : State) (file : Option OpenFile) → HasLimits s → HasLimits (let_go_object s file)
limits_let_go_object s None h = h
limits_let_go_object s (Some file) h = limits_let_go_of s file.object h

limits_if : (b : Bool) (s t : State) → HasLimits s → HasLimits t → HasLimits (if b then s else t)
limits_if true s t h k = h
limits_if false s t h k = k

-- the same names and nodes
pub limits_same : (s t : State) → s.names ≡ t.names → s.nodes ≡ t.nodes → HasLimits s → HasLimits t
limits_same s t names nodes h = record {
  nodes = subst (λ (l : List (Option Node)). sum_by (λ o. one_if (is_some o)) l ≤ node_limit) nodes h.nodes;
  file = λ node. subst (λ (l : List (Option Node)). length (bytes_in (at l node)) ≤ file_limit) nodes (h.file node);
  total = subst (λ (l : List (Option Node)). sum_by (λ o. length (bytes_in o)) l ≤ total_limit) nodes h.total;
  links = λ node. subst (λ m. name_count m node ≤ link_limit) names (h.links node);
}

limits_let_go : (s : State) (file : ℕ) → HasLimits s → HasLimits (let_go s file)
limits_let_go s file h =
    let fewer : State = record s { files = slice_set s.files file None } in
    limits_if (is_held s file) s _ h (limits_let_go_object fewer (at s.files file) (limits_same s fewer refl refl h))

limits_close_by : (s : State) (pid fd : ℕ) (row : Option Row) → HasLimits s → HasLimits (close_row_by s pid fd row)
limits_close_by s pid fd None h = h
limits_close_by s pid fd (Some row) h = limits_let_go (with_row s pid fd None) row.file (limits_same s (with_row s pid fd None) refl refl h)

pub limits_close : (s : State) (pid fd : ℕ) → HasLimits s → HasLimits (close_row s pid fd)
limits_close s pid fd h = limits_close_by s pid fd (at (rows_of s pid) fd) h

-- ---- other bytes

bytes_used : (o : Option Node) (bytes : List ℕ) → one_if (is_some (replace_bytes o bytes)) ≡ one_if (is_some o)
bytes_used None bytes = refl
bytes_used (Some node) bytes = refl

bytes_size : (o : Option Node) (bytes : List ℕ) → length (bytes_in (replace_bytes o bytes)) ≤ length bytes
bytes_size None bytes = omega arith
bytes_size (Some node) bytes = omega arith

as_many : (limit was is old new : ℕ) → is + old ≤ was + new → new ≡ old → was ≤ limit → is ≤ limit
as_many limit was is old new most same le = omega arith

up_to : (limit is len : ℕ) → is ≤ len → len ≤ limit → is ≤ limit
up_to limit is len most le = omega arith

in_place : (limit was is old new len : ℕ) → is + old ≤ was + new → new ≤ len → (was - old) + len ≤ limit → is ≤ limit
in_place limit was is old new len most le fits = omega arith

limits_written : (s : State) (node : ℕ) (bytes : List ℕ) → AreFitting s node bytes → HasLimits s → HasLimits (with_bytes s node bytes)
limits_written s node bytes fits h =
    let old = at s.nodes node in
    let new = replace_bytes old bytes in
    record {
      nodes = as_many node_limit _ _ _ _ (sum_set (λ o. one_if (is_some o)) s.nodes node new refl) (bytes_used old bytes) h.nodes;
      file = all_set (λ (o : Option Node). length (bytes_in o) ≤ file_limit) s.nodes node new (up_to file_limit _ _ (bytes_size old bytes) (fits.file (h.file node))) h.file;
      total = in_place total_limit _ _ _ _ _ (sum_set (λ o. length (bytes_in o)) s.nodes node new refl) (bytes_size old bytes) (fits.total h.total);
      links = h.links;
    }

-- ---- names

-- a node that wasn't made yet has no names
unmade : (s : State) (node : ℕ) → HasTree s → length s.nodes ≡ node → name_count s.names node ≤ 0
unmade s node tree same = ltb-false 0 (name_count s.names node) (false_from_ne_true _ (λ some.
    let name = counted_name s.names node some in
    let lt = tree.tree.made name.path node name.stands in
    omega arith))

one_more : (limit was is : ℕ) (b : Bool) → is ≤ was + one_if b → (b ≡ true → was + 1 ≤ limit) → (b ≡ false → was ≤ limit) → is ≤ limit
one_more limit was is true most same other = let le = same refl in omega arith
one_more limit was is false most same other = let le = other refl in omega arith

links_inserted : (s : State) (path : Path) (node : ℕ) → name_count s.names node + 1 ≤ link_limit → HasLimits s → (n : ℕ) → name_count (insert s.names path node) n ≤ link_limit
links_inserted s path node room h n =
    one_more link_limit (name_count s.names n) _ (node == n) (count_insert s.names path node n)
    (λ same. subst (λ (m : ℕ). name_count s.names m + 1 ≤ link_limit) (eqb-true node n same) room) (λ _. h.links n)

next_fits : (limit was is : ℕ) → is ≡ was + 1 → was < limit → is ≤ limit
next_fits limit was is e lt = omega arith

none_more : (limit was is len : ℕ) → is ≡ was + len → len ≡ 0 → was ≤ limit → is ≤ limit
none_more limit was is len e none le = omega arith

first_link : (n : ℕ) → n ≤ 0 → n + 1 ≤ link_limit
first_link n le = omega arith

limits_made : (s : State) (path : Path) (node : Node) → HasTree s → has_room s ≡ true → node.bytes ≡ [] → HasLimits s → HasLimits (record (with_node s node) { names = insert s.names path (length s.nodes) })
limits_made s path node tree room none h =
    let none_long : length node.bytes ≡ 0 = ap (λ (l : List ℕ). length l) none in
    record {
      nodes = next_fits node_limit _ _ (sum_by_push (λ o. one_if (is_some o)) s.nodes (Some node)) (ltb-true (node_count s) node_limit (and_parts (nat_lt (node_count s) node_limit) (nat_lt (length s.nodes) (2 ^ 64)) room).0);
      file = all_end (λ (o : Option Node). length (bytes_in o) ≤ file_limit) s.nodes (Some node) (up_to file_limit _ 0 (omega (arith, none_long)) (omega arith)) h.file;
      total = none_more total_limit _ _ _ (sum_by_push (λ o. length (bytes_in o)) s.nodes (Some node)) none_long h.total;
      links = links_inserted s path (length s.nodes) (first_link _ (unmade s (length s.nodes) tree refl)) h;
    }

limits_named : (s : State) (path : Path) (node : ℕ) → name_count s.names node < link_limit → HasLimits s → HasLimits (record s { names = insert s.names path node })
limits_named s path node room h = record { nodes = h.nodes; file = h.file; total = h.total; links = links_inserted s path node (next_link link_limit _ room) h } where
  next_link : (limit n : ℕ) → n < limit → n + 1 ≤ limit
  next_link limit n lt = omega arith

limits_unlinked : (s : State) (path : Path) (node : ℕ) → HasLimits s → HasLimits (without_name s path node)
limits_unlinked s path node h = limits_unused (record s { names = remove s.names path }) node
    (record { nodes = h.nodes; file = h.file; total = h.total; links = λ n. up_to link_limit _ _ (count_remove s.names path n) (h.links n) })

limits_moved : (s : State) (old new : Path) → HasLimits s → HasLimits (moved s old new)
limits_moved s old new h = record { nodes = h.nodes; file = h.file; total = h.total; links = λ n. up_to link_limit _ _ (count_renamed s.names old new n) (h.links n) }

-- ---- all of them

pub limits_changed : {pid : ℕ} {s t : State} → Changes pid s t → HasTree s → HasLimits s → HasLimits t
limits_changed Stays tree h = h
limits_changed (Then first next) tree h = limits_changed next (tree_changed first tree) (limits_changed first tree h)
limits_changed {pid = pid} {s = s} (Closes fd) tree h = limits_close s pid fd h
limits_changed {pid = pid} {s = s} (Shares fd row unused there) tree h = limits_same s _ refl refl h
limits_changed {pid = pid} {s = s} (Marks fd row flag e) tree h = limits_same s _ refl refl h
limits_changed {pid = pid} {s = s} (Refiles number old file e same) tree h = limits_same s _ refl refl h
limits_changed {pid = pid} {s = s} (Opens fd node file flag low of there) tree h = limits_same s _ refl refl h
limits_changed {pid = pid} {s = s} (Writes node bytes fits) tree h = limits_written s node bytes fits h
limits_changed {pid = pid} {s = s} (Makes path node free room none) tree h = limits_made s path node tree room none h
limits_changed {pid = pid} {s = s} (Links old path node e file free low) tree h = limits_named s path node low h
limits_changed {pid = pid} {s = s} (Unlinks path node spare) tree h = limits_unlinked s path node h
limits_changed {pid = pid} {s = s} (Moves old node new can) tree h = limits_moved s old new h
limits_changed {pid = pid} {s = s} (Replaces old node new replaced can) tree h = limits_moved (without_name s new replaced) old new (limits_unlinked s new replaced h)
limits_changed {pid = pid} {s = s} (Enters path node e directory) tree h = limits_same s _ refl refl h
