-- How names and nodes make up the files.
use Rattle.std.specs.Prelude.{◌≡◌, ℕ, ◌<◌, length, IsSome, IsTrue}
use Rattle.sp_base.specs.Table.{at}
use Rattle.kern_model.specs.Name.{name_count}
use Rattle.kern_model.specs.State.{is_directory}
use Rattle.kern_names.specs.Tree.{Tree, has_directory}
use Rattle.kern_nodes.specs.NodeTable.{NodeTable, state_of, links_of}
use Rattle.kern_files.specs.Files.{Files}

-- the files that a tree of names and a table of nodes make up
abbrev pub files_of : Tree → NodeTable → Files
files_of tree table = record { names = tree.names; nodes = table.nodes; holders = table.holders }

-- a node has a link for each name; what has a name is there; of that, the tree has the directories; each of these has one name
pub record Agree (tree : Tree) (table : NodeTable) : Type 0 where
  pub long : length table.links ≡ length table.nodes
  pub counted : (node : ℕ) → links_of table node ≡ name_count tree.names node
  pub live : (node : ℕ) → 0 < name_count tree.names node → IsSome (at table.nodes node)
  pub kind : (node : ℕ) → IsTrue (has_directory tree node) → IsTrue (is_directory (state_of table) node)
  pub placed : (node : ℕ) → 0 < name_count tree.names node → IsTrue (is_directory (state_of table) node) → IsTrue (has_directory tree node)
  pub once : (node : ℕ) → IsTrue (has_directory tree node) → name_count tree.names node ≡ 1
