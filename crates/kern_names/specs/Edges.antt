-- Which node stands under a path, by the names in each directory.
use Rattle.std.specs.Prelude.{◌≡◌, ℕ, List, [], ◌∷◌, Option, None, Some, is_some, IsSome}
use Rattle.std.specs.Ordering.{nat_cmp}
use Rattle.std.specs.Option.{option_map}
use Rattle.std.specs.BTreeMap as tree
use Rattle.std.specs.FinMap.{get}
use Rattle.std.specs.FinSet.{contains}
use Rattle.kern_model.specs.Name.{Path}
use Rattle.kern_model.specs.State.{root}
use Rattle.kern_names.specs.declared.directories.Directory.{Directory}
use Rattle.kern_names.specs.Tree.{Tree}

-- the node under a name in a directory
abbrev pub Edges : Type 0
Edges = ℕ → List ℕ → Option ℕ

-- the directory that a directory stands in; a node that is none has none
abbrev pub Parents : Type 0
Parents = ℕ → Option ℕ

-- the node under a name in what stands under a path
abbrev pub step : Edges → Option ℕ → List ℕ → Option ℕ
step edge None name = None
step edge (Some directory) name = edge directory name

-- the node under a path, from the root on
abbrev pub resolve : Edges → Path → Option ℕ
resolve edge [] = Some root
resolve edge (name ∷ path) = step edge (resolve edge path) name

-- a node stands under some path
pub record HasPath (edge : Edges) (node : ℕ) : Type 0 where
  pub path : Path
  pub leads : resolve edge path ≡ Some node

-- the root is a directory and stands in itself; what is no directory has no names; a directory has one path, and stands in
-- the directory of the path before
pub record IsTree (edge : Edges) (up : Parents) : Type 0 where
  pub top : up root ≡ Some root
  pub plain : (node : ℕ) (name : List ℕ) → up node ≡ None → edge node name ≡ None
  pub once : (path other : Path) (node : ℕ) → resolve edge path ≡ Some node → resolve edge other ≡ Some node → IsSome (up node) → path ≡ other
  pub above : (name : List ℕ) (path : Path) (node : ℕ) → resolve edge (name ∷ path) ≡ Some node → IsSome (up node) → up node ≡ resolve edge path
  pub placed : (node : ℕ) → IsSome (up node) → HasPath edge node

-- a tree has what stands under each path, and which nodes are directories
abbrev pub Shows : Edges → Parents → Tree → Type 0
Shows edge up t = ((path : Path) → get t.names path ≡ resolve edge path) × ((node : ℕ) → contains t.directories node ≡ is_some (up node))

-- the tree that names in directories stand for
abbrev pub Shown : Edges → Parents → Type 0
Shown edge up = (t : Tree) × Shows edge up t

-- the node of a name in a directory, where there is a directory
abbrev pub name_in : Option Directory → List ℕ → Option ℕ
name_in None name = None
name_in (Some directory) name = get directory.entries name

-- the names in a map of directories
abbrev pub edges_of : tree.BTreeMap ℕ Directory → Edges
edges_of directories node name = name_in (tree.get nat_cmp directories node) name

-- where the directories of a map stand
abbrev pub parents_of : tree.BTreeMap ℕ Directory → Parents
parents_of directories node = option_map (λ directory. directory.parent) (tree.get nat_cmp directories node)
