-- How the entries of a map are seen as a table of nodes.
use Rattle.std.specs.Prelude.{nat_eq, ◌≡◌, ◌≢◌, ℕ, ◌+◌, ◌<◌, ◌≤◌, List, map, length, sum_by, count_by, Option, None, Some, is_some}
use Rattle.std.specs.List.{range_with_len}
use Rattle.std.specs.declared.hash.BuildHasherDefault.{BuildHasherDefault}
use Rattle.std.specs.declared.hash.FoldHasher.{FoldHasher}
use Rattle.std.specs.HashMap.{HashMap, get, hash_map_len}
use Rattle.kern_model.specs.declared.node.Node.{Node}
use Rattle.kern_model.specs.State.{bytes_in}
use Rattle.kern_model.specs.Files.{total_limit}
use Rattle.kern_nodes.specs.declared.inode.Inode.{Inode}
use Rattle.kern_nodes.specs.NodeTable.{NodeTable}

-- the entries by number
abbrev pub Inodes : Type 0
Inodes = HashMap ℕ Inode (BuildHasherDefault FoldHasher)

-- the node of an entry
abbrev pub node_in : Option Inode → Option Node
node_in None = None
node_in (Some inode) = Some (record { kind = inode.kind; bytes = inode.contents })

-- how many links an entry's node has, none where there is no entry
abbrev pub links_in : Option Inode → ℕ
links_in None = 0
links_in (Some inode) = inode.links

-- how many holders an entry's node has, none where there is no entry
abbrev pub holders_in : Option Inode → ℕ
holders_in None = 0
holders_in (Some inode) = inode.holders

-- the entry of a number
abbrev pub entry : Inodes → ℕ → Option Inode
entry inodes number = get nat_eq inodes number

-- what a function gives of the entry of each number below an end
unfoldable pub listed : {X : Type 0} → (Option Inode → X) → Inodes → ℕ → List X
listed f inodes end = map (λ number. f (entry inodes number)) (range_with_len 0 end)

-- the table of the entries up to the last number
abbrev pub table_of : Inodes → ℕ → NodeTable
table_of inodes last = record {
  nodes = listed node_in inodes (last + 1);
  links = listed links_in inodes (last + 1);
  holders = listed holders_in inodes (last + 1);
}

-- how many bytes a node has
abbrev pub size_in : Option Node → ℕ
size_in node = length (bytes_in node)

-- the last number, the count of the entries and the sum of all lengths are those of the nodes
pub record IsCounted (inodes : Inodes) (last bytes : ℕ) : Type 0 where
  pub last_of_all : (number : ℕ) → last < number → entry inodes number ≡ None
  pub count : count_by is_some (listed node_in inodes (last + 1)) ≡ hash_map_len inodes
  pub total : sum_by size_in (listed node_in inodes (last + 1)) ≡ bytes
  pub within : bytes ≤ total_limit

-- 1 for an entry, 0 for none
abbrev pub one_in : Option Inode → ℕ
one_in None = 0
one_in (Some inode) = 1

-- the entries have another one, or none, at a number, and are else as before
pub record Changes (old new : Inodes) (number : ℕ) (inode : Option Inode) : Type 0 where
  pub here : entry new number ≡ inode
  pub others : (other : ℕ) → other ≢ number → entry new other ≡ entry old other
  pub count : hash_map_len new + one_in (entry old number) ≡ hash_map_len old + one_in inode

-- the entry of a number, where there is one, is changed by a function, and all others are as before
abbrev pub ChangesBy : (Inode → Inode) → Inodes → Inodes → ℕ → Type 0
ChangesBy f old new number = (inode : Inode) → entry old number ≡ Some inode → Changes old new number (Some (f inode))
