-- What becomes of the names in a map of directories.
use Rattle.std.specs.Prelude.{◌≡◌, ◌≢◌, ℕ, List, Bool, Option, None, Some, IsSome, if◌then◌else◌}
use Rattle.std.specs.Ordering.{nat_cmp}
use Rattle.std.specs.BTreeMap.{BTreeMap, get}
use Rattle.kern_model.specs.State.{root}
use Rattle.kern_names.specs.declared.directories.Directory.{Directory}
use Rattle.kern_names.specs.Edges.{edges_of, parents_of}

-- there is the root alone: it stands in itself and has no names
pub record IsRootAlone (directories : BTreeMap ℕ Directory) : Type 0 where
  pub names : (d : ℕ) (c : List ℕ) → edges_of directories d c ≡ None
  pub top : parents_of directories root ≡ Some root
  pub others : (n : ℕ) → n ≢ root → parents_of directories n ≡ None

-- each number has the directory that it had
abbrev pub Keeps : BTreeMap ℕ Directory → BTreeMap ℕ Directory → Type 0
Keeps old new = (number : ℕ) → get nat_cmp new number ≡ get nat_cmp old number

-- a name of a directory has another node, or none
pub record SetsName (old new : BTreeMap ℕ Directory) (directory : ℕ) (name : List ℕ) (node : Option ℕ) : Type 0 where
  pub here : edges_of new directory name ≡ node
  pub others : (d : ℕ) (c : List ℕ) → ((d ≡ directory) × (c ≡ name) → ⊥) → edges_of new d c ≡ edges_of old d c
  pub parents : (n : ℕ) → parents_of new n ≡ parents_of old n

-- a node, where it is a directory, stands in another one
pub record SetsParent (old new : BTreeMap ℕ Directory) (node parent : ℕ) : Type 0 where
  pub plain : parents_of old node ≡ None → parents_of new node ≡ None
  pub moved : IsSome (parents_of old node) → parents_of new node ≡ Some parent
  pub others : (n : ℕ) → n ≢ node → parents_of new n ≡ parents_of old n

-- each name has the node that it had
abbrev pub KeepsNames : BTreeMap ℕ Directory → BTreeMap ℕ Directory → Type 0
KeepsNames old new = (d : ℕ) (c : List ℕ) → edges_of new d c ≡ edges_of old d c

-- a node is a directory without names
pub record MakesDirectory (old new : BTreeMap ℕ Directory) (node parent : ℕ) : Type 0 where
  pub names : KeepsNames old new
  pub here : parents_of new node ≡ Some parent
  pub others : (n : ℕ) → n ≢ node → get nat_cmp new n ≡ get nat_cmp old n

-- a node is no directory
pub record DropsDirectory (old new : BTreeMap ℕ Directory) (node : ℕ) : Type 0 where
  pub here : get nat_cmp new node ≡ None
  pub others : (n : ℕ) → n ≢ node → get nat_cmp new n ≡ get nat_cmp old n

-- a name for a node, also a directory
pub record AddsName (old new : BTreeMap ℕ Directory) (directory : ℕ) (name : List ℕ) (node : ℕ) (is_directory : Bool) : Type 0 where
  pub come : edges_of new directory name ≡ Some node
  pub kept : (d : ℕ) (c : List ℕ) → ((d ≡ directory) × (c ≡ name) → ⊥) → edges_of new d c ≡ edges_of old d c
  pub parent : parents_of new node ≡ (if is_directory then Some directory else None)
  pub parents : (n : ℕ) → n ≢ node → parents_of new n ≡ parents_of old n

-- a name fewer, and its node is no directory
pub record RemovesName (old new : BTreeMap ℕ Directory) (directory : ℕ) (name : List ℕ) (node : ℕ) : Type 0 where
  pub gone : edges_of new directory name ≡ None
  pub kept : (d : ℕ) (c : List ℕ) → ((d ≡ directory) × (c ≡ name) → ⊥) → edges_of new d c ≡ edges_of old d c
  pub parent : parents_of new node ≡ None
  pub parents : (n : ℕ) → n ≢ node → parents_of new n ≡ parents_of old n

-- a node has another name in place of the one that it had
pub record MovesName (old new : BTreeMap ℕ Directory) (from : ℕ) (old_name : List ℕ) (to : ℕ) (new_name : List ℕ) (node : ℕ) : Type 0 where
  pub gone : edges_of new from old_name ≡ None
  pub come : edges_of new to new_name ≡ Some node
  pub kept : (d : ℕ) (c : List ℕ) → ((d ≡ from) × (c ≡ old_name) → ⊥) → ((d ≡ to) × (c ≡ new_name) → ⊥) → edges_of new d c ≡ edges_of old d c
  pub parents : SetsParent old new node to

-- a node has the name of another one in place of the one that it had, and the other is no directory
pub record ReplacesName (old new : BTreeMap ℕ Directory) (from : ℕ) (old_name : List ℕ) (to : ℕ) (new_name : List ℕ) (node replaced : ℕ) : Type 0 where
  pub gone : edges_of new from old_name ≡ None
  pub come : edges_of new to new_name ≡ Some node
  pub kept : (d : ℕ) (c : List ℕ) → ((d ≡ from) × (c ≡ old_name) → ⊥) → ((d ≡ to) × (c ≡ new_name) → ⊥) → edges_of new d c ≡ edges_of old d c
  pub dropped : parents_of new replaced ≡ None
  pub plain : parents_of old node ≡ None → parents_of new node ≡ None
  pub moved : IsSome (parents_of old node) → parents_of new node ≡ Some to
  pub others : (n : ℕ) → n ≢ node → n ≢ replaced → parents_of new n ≡ parents_of old n
