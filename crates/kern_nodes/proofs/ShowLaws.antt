-- What a table says of the entries that it shows.
use Rattle.std.proofs.Common.{◌≡◌, ℕ, ◌+◌, ◌-◌, ◌<◌, ◌≤◌, [], ◌∷◌, length, get_or, Option, None, Some, IsSome, is_some, IsTrue, false, nat_eq, nat_lt, ◌&&◌, ◌^◌, refl, ap, sym, ◌∙◌, subst, arith}
use borrow.Author.Tests.{ltb-true, ltb-false}
use Rattle.std.proofs.lemmas.Bool.{and_parts}
use Rattle.std.specs.List.{sum_by, count_by}
use Rattle.std.specs.Map.{lookup}
use Rattle.std.specs.HashMap.{hash_map_len, IsEmpty}
use Rattle.kern_model.specs.State.{has_room}
use Rattle.kern_model.specs.Files.{total_limit, is_above_total}
use Rattle.kern_nodes.specs.declared.inode.Inode.{Inode}
use Rattle.kern_nodes.specs.NodeTable.{NodeTable, IsSound, state_of, links_of, holders_of}
use Rattle.kern_nodes.specs.Inode.{Inodes, entry, listed, node_in, links_in, holders_in, size_in, table_of, IsCounted}
use Rattle.kern_nodes.specs.Bytes.{contents_of}
use Rattle.kern_nodes.proofs.ListedLaws.{length-listed}
use Rattle.kern_nodes.proofs.CountLaws.{at_any, number_within, entry_of_live, size_within}

-- tables with the same lists are the same
pub same_table : (a b : NodeTable) → a.nodes ≡ b.nodes → a.links ≡ b.links → a.holders ≡ b.holders → a ≡ b
same_table a b nodes links holders = λ i. record { nodes = nodes i; links = links i; holders = holders i }

-- the entries up to the last number, all counted, are seen as a table
pub record Shows (inodes : Inodes) (last bytes : ℕ) (table : NodeTable) : Type 0 where
  pub view : table_of inodes last ≡ table
  pub counted : IsCounted inodes last bytes

-- what a table has of a number is what the entry has
pub node_at : {inodes : Inodes} {last bytes : ℕ} {table : NodeTable} (number : ℕ) → Shows inodes last bytes table → get_or table.nodes number None ≡ node_in (entry inodes number)
node_at number shows = ap (λ t. get_or t.nodes number None) (sym shows.view) ∙ at_any node_in _ _ _ number shows.counted

pub links_at : {inodes : Inodes} {last bytes : ℕ} {table : NodeTable} (number : ℕ) → Shows inodes last bytes table → links_of table number ≡ links_in (entry inodes number)
links_at number shows = ap (λ t. links_of t number) (sym shows.view) ∙ at_any links_in _ _ _ number shows.counted

pub holders_at : {inodes : Inodes} {last bytes : ℕ} {table : NodeTable} (number : ℕ) → Shows inodes last bytes table → holders_of table number ≡ holders_in (entry inodes number)
holders_at number shows = ap (λ t. holders_of t number) (sym shows.view) ∙ at_any holders_in _ _ _ number shows.counted

-- the entry of a live node
pub live_entry : {inodes : Inodes} {last bytes : ℕ} {table : NodeTable} (number : ℕ) → Shows inodes last bytes table → IsSome (get_or table.nodes number None) → (inode : Inode) × (entry inodes number ≡ Some inode)
live_entry number shows live = entry_of_live _ _ _ number shows.counted (subst (λ t. IsSome (get_or t.nodes number None)) (sym shows.view) live)

-- an entry is there where its node is
is_some-node_in : (o : Option Inode) → is_some (node_in o) ≡ is_some o
is_some-node_in None = refl
is_some-node_in (Some inode) = refl

-- there is an entry exactly where there is a node
pub is_live_is : {inodes : Inodes} {last bytes : ℕ} {table : NodeTable} (number : ℕ) → Shows inodes last bytes table → is_some (entry inodes number) ≡ is_some (get_or table.nodes number None)
is_live_is {inodes} number shows = sym (is_some-node_in (entry inodes number)) ∙ ap is_some (sym (node_at number shows))

-- the length of the table of nodes
pub length_nodes : {inodes : Inodes} {last bytes : ℕ} {table : NodeTable} → Shows inodes last bytes table → length table.nodes ≡ last + 1
length_nodes {inodes} {last} {bytes} {table} shows = ap (λ t. length t.nodes) (sym shows.view) ∙ length-listed node_in inodes (last + 1)

-- how many nodes there are
pub count_nodes : {inodes : Inodes} {last bytes : ℕ} {table : NodeTable} → Shows inodes last bytes table → count_by is_some table.nodes ≡ hash_map_len inodes
count_nodes shows = ap (λ t. count_by is_some t.nodes) (sym shows.view) ∙ shows.counted.count

-- how many bytes all nodes have
pub total_bytes : {inodes : Inodes} {last bytes : ℕ} {table : NodeTable} → Shows inodes last bytes table → sum_by size_in table.nodes ≡ bytes
total_bytes shows = ap (λ t. sum_by size_in t.nodes) (sym shows.view) ∙ shows.counted.total

-- there is room by the count of the entries and by the last number
pub has_room_is : {inodes : Inodes} {last bytes : ℕ} {table : NodeTable} → Shows inodes last bytes table → has_room (state_of table) ≡ (nat_lt (hash_map_len inodes) 65536 && nat_lt (last + 1) (2 ^ 64))
has_room_is {inodes} {last} {bytes} {table} shows =
    ap (λ n. nat_lt n 65536 && nat_lt (length table.nodes) (2 ^ 64)) (count_nodes shows)
    ∙ ap (λ n. nat_lt (hash_map_len inodes) 65536 && nat_lt n (2 ^ 64)) (length_nodes shows)

-- where there is room, the next number fits a word
pub next_fits : {inodes : Inodes} {last bytes : ℕ} {table : NodeTable} → Shows inodes last bytes table → IsTrue (has_room (state_of table)) → last + 1 < 2 ^ 64
next_fits {inodes} {last} shows room =
    ltb-true (last + 1) (2 ^ 64) (and_parts (nat_lt (hash_map_len inodes) 65536) (nat_lt (last + 1) (2 ^ 64)) (sym (has_room_is shows) ∙ room)).1

-- no node has more bytes than all have
pub contents_within : {inodes : Inodes} {last bytes : ℕ} {table : NodeTable} (number : ℕ) → Shows inodes last bytes table → IsSome (get_or table.nodes number None) → length (contents_of table number) ≤ bytes
contents_within {inodes} {last} {bytes} {table} number shows live =
    let found = live_entry number shows live in
    let less = size_within inodes last bytes number shows.counted (number_within inodes last bytes number found.0 shows.counted found.1) in
    omega (arith, less, ap size_in (node_at number shows))

-- the sum with another length, where it isn't above the limit
pub sum_within : {inodes : Inodes} {last bytes : ℕ} {table : NodeTable} (number len : ℕ) → Shows inodes last bytes table → is_above_total (state_of table) number len ≡ false → (bytes - length (contents_of table number)) + len ≤ total_limit
sum_within {inodes} {last} {bytes} {table} number len shows allowed =
    ltb-false total_limit ((bytes - length (contents_of table number)) + len)
    (ap (λ n. nat_lt total_limit ((n - length (contents_of table number)) + len)) (sym (total_bytes shows)) ∙ allowed)

-- no entries show a table without nodes
pub no_nodes : (inodes : Inodes) → IsEmpty inodes → Shows inodes 0 0 (record { nodes = None ∷ []; links = 0 ∷ []; holders = 0 ∷ [] })
unfolding listed
no_nodes inodes empty =
    let entries : (number : ℕ) → entry inodes number ≡ None = λ number. ap (lookup (nat_eq number)) empty in
    record {
      view = ap (λ (o : Option Inode). record { nodes = node_in o ∷ []; links = links_in o ∷ []; holders = holders_in o ∷ [] }) (entries 0);
      counted = record {
        last_of_all = λ n behind. entries n;
        count = ap (λ o. count_by is_some (node_in o ∷ [])) (entries 0) ∙ ap length (sym empty);
        total = ap (λ o. sum_by size_in (node_in o ∷ [])) (entries 0);
        within = omega arith;
      };
    }

-- there is no entry without a node
no_entry : (o : Option Inode) → node_in o ≡ None → o ≡ None
no_entry None gone = refl
no_entry (Some inode) gone = absurd cc

-- each number has its counts, which are 0 where there is no node, and all bytes are within their limit
pub sound : {inodes : Inodes} {last bytes : ℕ} {table : NodeTable} → Shows inodes last bytes table → IsSound table
sound {inodes} {last} {bytes} {table} shows = record {
  links = ap (λ t. length t.links) (sym shows.view) ∙ length-listed links_in inodes (last + 1) ∙ sym (length_nodes shows);
  holders = ap (λ t. length t.holders) (sym shows.view) ∙ length-listed holders_in inodes (last + 1) ∙ sym (length_nodes shows);
  unlinked = λ number gone. links_at number shows ∙ ap links_in (no_entry (entry inodes number) (sym (node_at number shows) ∙ gone));
  unheld = λ number gone. holders_at number shows ∙ ap holders_in (no_entry (entry inodes number) (sym (node_at number shows) ∙ gone));
  within = subst (λ n. n ≤ total_limit) (sym (total_bytes shows)) shows.counted.within;
}
