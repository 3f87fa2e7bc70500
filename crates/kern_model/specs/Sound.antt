-- What holds in every state that a journal leaves.
use Rattle.std.specs.Prelude.{◌≡◌, ℕ, ◌<◌, ◌≤◌, List, [], ◌∷◌, length, Option, Some, IsSome, IsTrue}
use Rattle.std.specs.FinMap.{get}
use Rattle.sp_base.specs.Table.{at}
use Rattle.sp_base.specs.declared.limits.TheConstants.{DESCRIPTORS}
use Rattle.kern_model.specs.declared.node.Node.{Node}
use Rattle.kern_model.specs.declared.node.Object.{Object}
use Rattle.kern_model.specs.declared.node.Object.TheVariants as object
use Rattle.kern_model.specs.declared.node.OpenFile.{OpenFile}
use Rattle.kern_model.specs.declared.node.Row.{Row}
use Rattle.kern_model.specs.Name.{Path, Names, name_count}
use Rattle.kern_model.specs.State.{State, root, process_numbers, rows_of, directory_of, bytes_of, kind_in, is_directory_kind, is_held, stays, node_count, node_limit, total_size}
use Rattle.kern_model.specs.Files.{file_limit, total_limit}
use Rattle.kern_model.specs.Links.{link_limit}

-- the tables have their lengths: that of processes, and each process's that of its descriptors
pub record HasTables (s : State) : Type 0 where
  pub numbers : length s.processes ≡ process_numbers
  pub descriptors : (pid : ℕ) → IsSome (at s.processes pid) → length (rows_of s pid) ≡ DESCRIPTORS

-- ---- the tree

-- a node of a table is a directory
abbrev pub IsDirectory : List (Option Node) → ℕ → Type 0
IsDirectory nodes node = IsTrue (is_directory_kind (kind_in (at nodes node)))

-- a directory stands under a path
pub record IsPlace (names : Names) (nodes : List (Option Node)) (path : Path) : Type 0 where
  pub node : ℕ
  pub stands : get names path ≡ Some node
  pub directory : IsDirectory nodes node

-- a node is a directory that has a name
pub record IsNamedDirectory (names : Names) (nodes : List (Option Node)) (node : ℕ) : Type 0 where
  pub path : Path
  pub stands : get names path ≡ Some node
  pub directory : IsDirectory nodes node

-- the root is a directory, each other name stands in one, a directory has one name, and each node that has a name was made
pub record IsTree (names : Names) (nodes : List (Option Node)) : Type 0 where
  pub top : get names [] ≡ Some root
  pub root_directory : IsDirectory nodes root
  pub parents : (component : List ℕ) (path : Path) (node : ℕ) → get names (component ∷ path) ≡ Some node → IsPlace names nodes path
  pub once : (path other : Path) (node : ℕ) → get names path ≡ Some node → get names other ≡ Some node → IsDirectory nodes node → path ≡ other
  pub made : (path : Path) (node : ℕ) → get names path ≡ Some node → node < length nodes

-- a state's names are a tree, and each process works in a directory of it
pub record HasTree (s : State) : Type 0 where
  pub tree : IsTree s.names s.nodes
  pub working : (pid : ℕ) → IsNamedDirectory s.names s.nodes (directory_of s pid)

-- ---- what is held

-- what an open file is of is there
abbrev pub IsThere : State → Object → Type 0
IsThere s (object.Node node) = IsSome (at s.nodes node)

-- what is held is there, and what is there is held
pub record IsHeld (s : State) : Type 0 where
  -- each row's open file is there
  pub rows : (pid fd : ℕ) (row : Row) → at (rows_of s pid) fd ≡ Some row → IsSome (at s.files row.file)
  -- each open file has a row
  pub files : (number : ℕ) → IsSome (at s.files number) → IsTrue (is_held s number)
  -- each open file's object is there
  pub objects : (number : ℕ) (file : OpenFile) → at s.files number ≡ Some file → IsThere s file.object
  -- each node that has a name is there
  pub names : (path : Path) (node : ℕ) → get s.names path ≡ Some node → IsSome (at s.nodes node)
  -- each node that is there has a name or an open file
  pub nodes : (node : ℕ) → IsSome (at s.nodes node) → IsTrue (stays s node)

-- ---- limits

-- how many nodes there are, how many bytes a file and all files have, and how many names a node has
pub record HasLimits (s : State) : Type 0 where
  pub nodes : node_count s ≤ node_limit
  pub file : (node : ℕ) → length (bytes_of s node) ≤ file_limit
  pub total : total_size s ≤ total_limit
  pub links : (node : ℕ) → name_count s.names node ≤ link_limit

-- ---- all of them

-- what holds in every state that a journal leaves
pub record IsSound (s : State) : Type 0 where
  pub tables : HasTables s
  pub tree : HasTree s
  pub held : IsHeld s
  pub limits : HasLimits s
