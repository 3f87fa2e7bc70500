-- What the files are after names and nodes changed.
use Rattle.std.specs.Prelude.{IsTrue, IsSome, is_some, Result, OnOk, OnErr}
use Rattle.std.specs.declared.result.Result.TheVariants.{Ok, Err}
use Rattle.std.specs.Result.{is_err}
use Rattle.std.proofs.Common.{◌≡◌, cond, ℕ, ◌-◌, ◌<◌, nat_lt, Bool, true, false, ◌||◌, length, get_or, Option, None, Some, refl, sym, ap, subst, ◌∙◌, arith}
use Rattle.std.specs.FinMap.{get, remove}
use Rattle.std.specs.Option.{option_map}
use Rattle.std.proofs.lemmas.Bool.{false_from_ne_true, true≢false}
use Rattle.std.proofs.lemmas.List.{get_or_past}
use Rattle.sp_base.specs.declared.names.NodeNo.{NodeNo}
use Rattle.kern_model.specs.declared.node.NodeKind.{NodeKind}
use Rattle.kern_model.specs.Name.{Path, name_count}
use Rattle.kern_model.specs.State.{is_directory}
use Rattle.kern_names.specs.Tree as tree_of
use Rattle.kern_names.specs.Tree.{Tree, has_directory}
use Rattle.kern_names.specs.Requests as names_may
use Rattle.kern_names.proofs.ShownLaws.{same_node}
use Rattle.kern_nodes.specs.NodeTable as table_of
use Rattle.kern_nodes.specs.NodeTable.{NodeTable, with_links, with_node, links_of, holders_of}
use Rattle.kern_files.specs.Files.{Files, without_unkept, without_name, moved}
use Rattle.kern_files.specs.Parts.{Agree, files_of}
use Rattle.kern_files.specs.Requests.{IsDirectory, MayReplace}
use Rattle.kern_files.proofs.ListsLaws.{within_length}
use Rattle.kern_files.proofs.AgreeLaws.{named, agree_unkept, agree_fewer, agree_moved}

-- names and nodes that agree make up these files
pub record Shows (tree : Tree) (table : NodeTable) (f : Files) : Type 0 where
  pub view : files_of tree table ≡ f
  pub agree : Agree tree table

-- a directory of the files is one of the tree
pub in_tree : {tree : Tree} {table : NodeTable} {f : Files} (node : ℕ) → Shows tree table f → IsDirectory f node → IsTrue (has_directory tree node)
in_tree {tree} {table} {f} node shows directory =
    let d : IsDirectory (files_of tree table) node = subst (λ g. IsDirectory g node) (sym shows.view) directory in
    shows.agree.placed node (named tree.names d.path node d.stands) d.directory

-- the names are those of the tree
pub same_name : {tree : Tree} {table : NodeTable} {f : Files} (path : Path) → Shows tree table f → get tree.names path ≡ get f.names path
same_name path shows = ap (λ g. get g.names path) shows.view

-- what has a name is there, and has a link
pub has_node : {tree : Tree} {table : NodeTable} {f : Files} (path : Path) (node : ℕ) → Shows tree table f → get f.names path ≡ Some node → IsSome (get_or table.nodes node None)
has_node {tree} path node shows there = shows.agree.live node (named tree.names path node (same_name path shows ∙ there))

pub has_link : {tree : Tree} {table : NodeTable} {f : Files} (path : Path) (node : ℕ) → Shows tree table f → get f.names path ≡ Some node → 0 < links_of table node
has_link {tree} path node shows there = let some = named tree.names path node (same_name path shows ∙ there) in omega (arith, shows.agree.counted node)

-- a node goes by its names as by its links
files_unkept : (tree : Tree) (table : NodeTable) (node : ℕ) → Agree tree table → files_of tree (table_of.without_unkept table node) ≡ without_unkept (files_of tree table) node
files_unkept tree table node a =
    ap (λ l. files_of tree (cond (nat_lt 0 l || nat_lt 0 (holders_of table node)) table (with_node table node None))) (a.counted node)
    ∙ elim (nat_lt 0 (name_count tree.names node) || nat_lt 0 (holders_of table node)) as (λ b. files_of tree (cond b table (with_node table node None)) ≡ cond b (files_of tree table) (files_of tree (with_node table node None))) [
      | true ↦ refl
      | false ↦ refl
    ]

-- ---- a name that is taken away

abbrev fewer_links : NodeTable → ℕ → NodeTable
fewer_links table node = with_links table node (links_of table node - 1)

drop_at : (tree : Tree) (table : NodeTable) (path : Path) (node : ℕ) → Agree tree table → get tree.names path ≡ Some node
    → Shows (tree_of.without_name tree path node) (table_of.without_unkept (fewer_links table node) node) (without_name (files_of tree table) path node)
drop_at tree table path node a there =
    let fewer = agree_fewer tree table path node there a in
    record {
      view = files_unkept (tree_of.without_name tree path node) (fewer_links table node) node fewer;
      agree = agree_unkept (tree_of.without_name tree path node) (fewer_links table node) node fewer;
    }

pub dropped : {tree : Tree} {table : NodeTable} {f : Files} (tree' : Tree) (table' : NodeTable) (path : Path) (node : ℕ) → Shows tree table f → get f.names path ≡ Some node
    → (get tree.names path ≡ Some node → tree' ≡ tree_of.without_name tree path node)
    → table' ≡ table_of.without_unkept (fewer_links table node) node
    → Shows tree' table' (without_name f path node)
dropped {tree} {table} {f} tree' table' path node shows there names nodes =
    let at : get tree.names path ≡ Some node = same_name path shows ∙ there in
    let done = drop_at tree table path node shows.agree at in
    record {
      view = (λ i. files_of (names at i) (nodes i)) ∙ done.view ∙ ap (λ g. without_name g path node) shows.view;
      agree = subst (λ (x : Tree × NodeTable). Agree x.0 x.1) (λ i. (sym (names at) i, sym nodes i)) done.agree;
    }

-- ---- a name that takes the place of another node's

-- the tree allows what the files allow
pub may_replace : {tree : Tree} {table : NodeTable} {f : Files} (old new : Path) (replaced : ℕ) → Shows tree table f → MayReplace f old new replaced → names_may.MayReplace tree old new
may_replace {tree} {table} {f} old new replaced shows may =
    let m : MayReplace (files_of tree table) old new replaced = subst (λ g. MayReplace g old new replaced) (sym shows.view) may in
    record {
      there = m.there;
      taken = record {
        there = ap (λ (o : Option ℕ). is_some o) m.taken;
        empty = λ node e d. m.empty (shows.agree.kind replaced (subst (λ n. IsTrue (has_directory tree n)) (same_node (sym e ∙ m.taken)) d));
      };
      outside = m.outside;
      two = λ e. m.two (e ∙ m.taken);
    }

pub replaced_by : {tree : Tree} {table : NodeTable} {f : Files} (tree' : Tree) (table' : NodeTable) (old new : Path) (replaced : ℕ) → Shows tree table f → MayReplace f old new replaced
    → (get tree.names new ≡ Some replaced → tree' ≡ tree_of.moved (tree_of.without_name tree new replaced) old new)
    → ((n : ℕ) → name_count tree'.names n ≡ name_count (remove tree.names new) n)
    → table' ≡ table_of.without_unkept (fewer_links table replaced) replaced
    → Shows tree' table' (moved (without_name f new replaced) old new)
replaced_by {tree} {table} {f} tree' table' old new replaced shows may names counts nodes =
    let at : get tree.names new ≡ Some replaced = same_name new shows ∙ may.taken in
    let done = drop_at tree table new replaced shows.agree at in
    let fewer : Tree = tree_of.without_name tree new replaced in
    record {
      view = (λ i. files_of (names at i) (nodes i)) ∙ ap (λ g. moved g old new) (done.view ∙ ap (λ g. without_name g new replaced) shows.view);
      agree = subst (λ t. Agree tree' t) (sym nodes) (agree_moved fewer tree' (table_of.without_unkept (fewer_links table replaced) replaced) (ap (λ (t : Tree). t.directories) (names at)) counts done.agree);
    }

-- ---- a name more, and a new node

-- nothing is under a name of which no node is told
pub free_by : (o : Option NodeNo) → is_some o ≡ false → option_map (λ (n : NodeNo). n.0) o ≡ None
free_by None e = refl
free_by (Some n) e = absurd (true≢false e)

-- what is live by the files is so by the table
pub live_in : {tree : Tree} {table : NodeTable} {f : Files} (node : ℕ) → Shows tree table f → IsSome (get_or f.nodes node None) → IsSome (get_or table.nodes node None)
live_in node shows live = subst (λ g. IsSome (get_or g.nodes node None)) (sym shows.view) live

-- the next number is no node's
pub may_have : {tree : Tree} {table : NodeTable} (node : ℕ) (is_directory : Bool) → Agree tree table → node ≡ length table.nodes → names_may.MayHaveName tree node is_directory
may_have {tree} {table} node is_directory a next =
    let unused : name_count tree.names node ≡ 0 = sym (a.counted node) ∙ get_or_past table.links node 0 (omega (arith, a.long)) in
    record {
      plain = false_from_ne_true (has_directory tree node) (λ h. (let one = a.once node h in absurd (omega (arith, one, unused))));
      unnamed = λ d path e. (let some = named tree.names path node e in absurd (omega (arith, some, unused)));
    }

-- a table that holds a node has a first number
pub made_from : {tree : Tree} {table : NodeTable} {f : Files} (path : Path) (node : ℕ) (kind : NodeKind) (made : NodeTable) → Shows tree table f → get f.names path ≡ Some node → made ≡ table_of.with_new table kind → table_of.IsMadeFrom table made
made_from {tree} {table} path node kind made shows there e =
    let below = within_length table.nodes node (has_node path node shows there) in
    record { kind = kind; made = e; first = omega (arith, below) }

-- what an answer that is an error says, and one that is none
pub failed : {V E A : Type 0} (r : Result V E) → OnErr r A → is_err r ≡ true → A
failed (Ok v) a e = absurd (true≢false (sym e))
failed (Err x) a e = a

pub done : {V E A : Type 0} (r : Result V E) → OnOk r A → is_err r ≡ false → A
done (Ok v) a e = a
done (Err x) a e = absurd (true≢false e)
