-- The nodes of a file system by number.
use Rattle.std.specs.Prelude.{◌≡◌, ℕ, ◌<◌, ◌≤◌, nat_lt, Bool, ◌||◌, List, [], ◌∷◌, ◌++◌, Option, None, Some, slice_index, slice_set, length, if◌then◌else◌}
use Rattle.sp_base.specs.Table.{at}
use Rattle.kern_model.specs.declared.node.Node.{Node}
use Rattle.kern_model.specs.declared.node.NodeKind.{NodeKind}
use Rattle.kern_model.specs.State.{State, opening, total_size}
use Rattle.kern_model.specs.Files.{total_limit}

-- the nodes by number; how many links and how many holders each has, 0 where there is no node
pub record NodeTable : Type 0 where
  pub nodes : List (Option Node)
  pub links : List ℕ
  pub holders : List ℕ

-- the state that has these nodes, and is else the opening one
abbrev pub state_of : NodeTable → State
state_of table = record opening { nodes = table.nodes }

-- the root directory alone, with one link
abbrev pub fresh_nodes : NodeTable
fresh_nodes = record { nodes = opening.nodes; links = 0 ∷ 1 ∷ []; holders = 0 ∷ 0 ∷ [] }

-- the table with an empty node more, which has one link
abbrev pub with_new : NodeTable → NodeKind → NodeTable
with_new table kind = record {
  nodes = table.nodes ++ Some (record { kind = kind; bytes = [] }) ∷ [];
  links = table.links ++ 1 ∷ [];
  holders = table.holders ++ 0 ∷ [];
}

-- a table is another one, which has a first number, with an empty node more
pub record IsMadeFrom (before after : NodeTable) : Type 0 where
  pub kind : NodeKind
  pub made : after ≡ with_new before kind
  pub first : 0 < length before.nodes

-- how many links the node of a number has
abbrev pub links_of : NodeTable → ℕ → ℕ
links_of table node = slice_index table.links node

-- how many holders the node of a number has
abbrev pub holders_of : NodeTable → ℕ → ℕ
holders_of table node = slice_index table.holders node

-- each number has a count of links and one of holders, where there is no node both are 0, and all bytes are within their limit
pub record IsSound (table : NodeTable) : Type 0 where
  pub links : length table.links ≡ length table.nodes
  pub holders : length table.holders ≡ length table.nodes
  pub unlinked : (node : ℕ) → at table.nodes node ≡ None → links_of table node ≡ 0
  pub unheld : (node : ℕ) → at table.nodes node ≡ None → holders_of table node ≡ 0
  pub within : total_size (state_of table) ≤ total_limit

-- the table with another count of links of a node
abbrev pub with_links : NodeTable → ℕ → ℕ → NodeTable
with_links table node links = record table { links = slice_set table.links node links }

-- the table with another count of holders of a node
abbrev pub with_holders : NodeTable → ℕ → ℕ → NodeTable
with_holders table node holders = record table { holders = slice_set table.holders node holders }

-- the table with another node, or none, at a number
abbrev pub with_node : NodeTable → ℕ → Option Node → NodeTable
with_node table number node = record table { nodes = slice_set table.nodes number node }

-- a node stays while it has a link or a holder
abbrev pub is_kept : NodeTable → ℕ → Bool
is_kept table node = nat_lt 0 (links_of table node) || nat_lt 0 (holders_of table node)

-- the table without a node that neither a link nor a holder keeps
abbrev pub without_unkept : NodeTable → ℕ → NodeTable
without_unkept table node = if is_kept table node then table else with_node table node None
