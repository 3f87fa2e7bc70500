-- What the table is after each kind of change to the entries that it shows.
use Rattle.std.proofs.Common.{◌≡◌, ℕ, ◌+◌, ◌-◌, ◌<◌, ◌≤◌, List, [], ◌∷◌, ◌++◌, length, get_or, subst, inl, inr, Option, None, Some, IsSome, is_some, cond, false, nat_eq, nat_lt, ◌||◌, refl, ap, sym, ◌∙◌, arith}
use Rattle.std.specs.List.{sum_by, count_by}
use Rattle.std.specs.Map.{lookup}
use Rattle.std.specs.HashMap.{IsUnchanged, hash_map_len}
use Rattle.std.proofs.lemmas.Bool.{cases_eq}
use Rattle.std.proofs.lemmas.List.{length_push}
use Rattle.std.proofs.lemmas.List.Sums.{sum_by_push}
use Rattle.kern_model.specs.declared.node.Node.{Node}
use Rattle.kern_model.specs.declared.node.NodeKind.{NodeKind}
use Rattle.kern_model.specs.State.{bytes_in, replace_bytes}
use Rattle.kern_model.specs.Files.{total_limit}
use Rattle.kern_nodes.specs.declared.inode.Inode.{Inode}
use Rattle.kern_nodes.specs.NodeTable.{NodeTable, IsMadeFrom, state_of, without_unkept, with_new, with_links, with_holders, with_node, links_of, holders_of}
use Rattle.kern_nodes.specs.Inode.{Inodes, entry, listed, node_in, links_in, holders_in, one_in, size_in, table_of, Changes, ChangesBy}
use Rattle.kern_nodes.specs.Bytes.{with_contents, contents_of}
use Rattle.kern_nodes.proofs.ListedLaws.{listed_set, listed_kept, listed_same, one_less}
use Rattle.kern_nodes.proofs.CountLaws.{number_within, size_within, counted_after, listed_added, counted_more}
use Rattle.kern_nodes.proofs.ShowLaws.{same_table, Shows, length_nodes, node_at, links_at, holders_at, live_entry, contents_within, sum_within}

-- where the entries stay, so does the table
pub unchanged : {old new : Inodes} {last bytes : ℕ} {table : NodeTable} → Shows old last bytes table → IsUnchanged old new → Shows new last bytes table
unchanged {old} {new} {last} {bytes} {table} shows same =
    let entries : (number : ℕ) → entry new number ≡ entry old number = λ number. ap (lookup (nat_eq number)) same in
    let nodes : listed node_in new (last + 1) ≡ listed node_in old (last + 1) = listed_same node_in old new (last + 1) None (λ n below. ap node_in (entries n)) in
    let links : listed links_in new (last + 1) ≡ listed links_in old (last + 1) = listed_same links_in old new (last + 1) 0 (λ n below. ap links_in (entries n)) in
    let holders : listed holders_in new (last + 1) ≡ listed holders_in old (last + 1) = listed_same holders_in old new (last + 1) 0 (λ n below. ap holders_in (entries n)) in
    record {
      view = same_table (table_of new last) (table_of old last) nodes links holders ∙ shows.view;
      counted = record {
        last_of_all = λ n behind. entries n ∙ shows.counted.last_of_all n behind;
        count = ap (count_by is_some) nodes ∙ shows.counted.count ∙ ap length (sym same);
        total = ap (sum_by size_in) nodes ∙ shows.counted.total;
        within = shows.counted.within;
      };
    }

-- after a node's count of links was set
pub links_set : {old new : Inodes} {last bytes : ℕ} {table : NodeTable} (number links : ℕ) → Shows old last bytes table → IsSome (get_or table.nodes number None)
    → ChangesBy (λ inode. record inode { links = links }) old new number
    → Shows new last bytes (with_links table number links)
links_set {old} {new} {last} {bytes} {table} number links shows live changed =
    let found = live_entry number shows live in
    let below = number_within old last bytes number found.0 shows.counted found.1 in
    let changes = changed found.0 found.1 in
    let other : Option Inode = Some (record found.0 { links = links }) in
    record {
      view = same_table (table_of new last) (with_links (table_of old last) number links)
          (listed_kept node_in old new (last + 1) number other None changes (sym (ap node_in found.1)))
          (listed_set links_in old new (last + 1) number other 0 (omega arith) changes)
          (listed_kept holders_in old new (last + 1) number other 0 changes (sym (ap holders_in found.1)))
          ∙ ap (λ t. with_links t number links) shows.view;
      counted = counted_after old new last bytes bytes number other shows.counted below changes
          (ap (λ o. bytes + size_in (node_in o)) found.1) shows.counted.within;
    }

-- after a node's count of holders was set
pub holders_set : {old new : Inodes} {last bytes : ℕ} {table : NodeTable} (number holders : ℕ) → Shows old last bytes table → IsSome (get_or table.nodes number None)
    → ChangesBy (λ inode. record inode { holders = holders }) old new number
    → Shows new last bytes (with_holders table number holders)
holders_set {old} {new} {last} {bytes} {table} number holders shows live changed =
    let found = live_entry number shows live in
    let below = number_within old last bytes number found.0 shows.counted found.1 in
    let changes = changed found.0 found.1 in
    let other : Option Inode = Some (record found.0 { holders = holders }) in
    record {
      view = same_table (table_of new last) (with_holders (table_of old last) number holders)
          (listed_kept node_in old new (last + 1) number other None changes (sym (ap node_in found.1)))
          (listed_kept links_in old new (last + 1) number other 0 changes (sym (ap links_in found.1)))
          (listed_set holders_in old new (last + 1) number other 0 (omega arith) changes)
          ∙ ap (λ t. with_holders t number holders) shows.view;
      counted = counted_after old new last bytes bytes number other shows.counted below changes
          (ap (λ o. bytes + size_in (node_in o)) found.1) shows.counted.within;
    }

-- after a node got other bytes, with the sum that goes with them, where it is within the limit
pub contents_set : {old new : Inodes} {last bytes : ℕ} {table : NodeTable} (edit : List ℕ → List ℕ) (number sum : ℕ) → Shows old last bytes table → IsSome (get_or table.nodes number None)
    → ChangesBy (λ inode. record inode { contents = edit inode.contents }) old new number
    → sum ≡ (bytes - length (contents_of table number)) + length (edit (contents_of table number)) → sum ≤ total_limit
    → Shows new last sum (with_contents table number (edit (contents_of table number)))
contents_set {old} {new} {last} {bytes} {table} edit number sum shows live changed sums within =
    let found = live_entry number shows live in
    let below = number_within old last bytes number found.0 shows.counted found.1 in
    let changes = changed found.0 found.1 in
    let other : Option Inode = Some (record found.0 { contents = edit found.0.contents }) in
    let there : get_or table.nodes number None ≡ node_in (Some found.0) = node_at number shows ∙ ap node_in found.1 in
    let part = contents_within number shows live in
    let after : sum + length (contents_of table number) ≡ bytes + length (edit (contents_of table number)) = omega (arith, part, sums) in
    record {
      view = same_table (table_of new last) (with_node (table_of old last) number (node_in other))
          (listed_set node_in old new (last + 1) number other None (omega arith) changes)
          (listed_kept links_in old new (last + 1) number other 0 changes (sym (ap links_in found.1)))
          (listed_kept holders_in old new (last + 1) number other 0 changes (sym (ap holders_in found.1)))
          ∙ ap (λ t. with_node t number (node_in other)) shows.view
          ∙ ap (λ node. with_node table number (replace_bytes node (edit (bytes_in node)))) (sym there);
      counted = counted_after old new last bytes sum number other shows.counted below changes
          (ap (λ o. sum + size_in o) (sym (node_at number shows)) ∙ after ∙ ap (λ o. bytes + length (edit (bytes_in o))) there)
          within;
    }

-- what neither a link nor a holder keeps goes
pub not_kept : (table : NodeTable) (number : ℕ) → links_of table number ≡ 0 → holders_of table number ≡ 0 → without_unkept table number ≡ with_node table number None
not_kept table number links holders =
    ap (λ n. cond (nat_lt 0 n || nat_lt 0 (holders_of table number)) table (with_node table number None)) links
    ∙ ap (λ n. cond (nat_lt 0 0 || nat_lt 0 n) table (with_node table number None)) holders

-- after a node without links and holders was taken away, whose bytes leave the sum
pub node_gone : {old new : Inodes} {last bytes : ℕ} {table : NodeTable} (number size : ℕ) → Shows old last bytes table → IsSome (get_or table.nodes number None)
    → Changes old new number None → links_of table number ≡ 0 → holders_of table number ≡ 0 → size ≡ length (contents_of table number)
    → Shows new last (bytes - size) (with_node table number None)
node_gone {old} {new} {last} {bytes} {table} number size shows live changes no_links no_holders sized =
    let found = live_entry number shows live in
    let below = number_within old last bytes number found.0 shows.counted found.1 in
    let same : size ≡ size_in (node_in (entry old number)) = sized ∙ ap size_in (node_at number shows) in
    let less : size_in (node_in (entry old number)) ≤ bytes = size_within old last bytes number shows.counted below in
    record {
      view = same_table (table_of new last) (with_node (table_of old last) number None)
          (listed_set node_in old new (last + 1) number None None (omega arith) changes)
          (listed_kept links_in old new (last + 1) number None 0 changes (sym no_links ∙ links_at number shows))
          (listed_kept holders_in old new (last + 1) number None 0 changes (sym no_holders ∙ holders_at number shows))
          ∙ ap (λ t. with_node t number None) shows.view;
      counted = counted_after old new last bytes (bytes - size) number None shows.counted below changes
          (omega (arith, less, same)) (omega (arith, shows.counted.within));
    }

-- after an empty node with one link was added behind the last number
pub node_added : {old new : Inodes} {last bytes : ℕ} {table : NodeTable} (kind : NodeKind) → Shows old last bytes table
    → Changes old new (last + 1) (Some (record { kind = kind; contents = []; links = 1; holders = 0 }))
    → Shows new (last + 1) bytes (with_new table kind)
node_added {old} {new} {last} {bytes} {table} kind shows changes =
    let added : Inode = record { kind = kind; contents = []; links = 1; holders = 0 } in
    record {
      view = same_table (table_of new (last + 1)) (with_new (table_of old last) kind)
          (listed_added node_in old new last (Some added) None changes)
          (listed_added links_in old new last (Some added) 0 changes)
          (listed_added holders_in old new last (Some added) 0 changes)
          ∙ ap (λ t. with_new t kind) shows.view;
      counted = counted_more old new last bytes added shows.counted changes refl;
    }

-- the change back
back : {old new : Inodes} {number : ℕ} → Changes old new number None → Changes new old number (entry old number)
back {old} {new} {number} changes = record {
  here = refl;
  others = λ n apart. sym (changes.others n apart);
  count = omega (arith, changes.count, ap one_in changes.here);
}

-- the list before an entry was there
listed_less : {X : Type 0} (f : Option Inode → X) (old new : Inodes) (last : ℕ) (d : X) (xs : List X) (x : X) → Changes old new (last + 1) None → listed f old ((last + 1) + 1) ≡ xs ++ x ∷ []
    → (listed f new (last + 1) ≡ xs) × (f (entry old (last + 1)) ≡ x)
listed_less f old new last d xs x changes is = one_less _ _ _ _ (sym (listed_added f new old last (entry old (last + 1)) d (back changes)) ∙ is)

-- an entry whose node is there counts
one_there : (o : Option Inode) (node : Node) → node_in o ≡ Some node → one_in o ≡ 1
one_there None node e = cc
one_there (Some inode) node e = refl

node_unmade_at : {old new : Inodes} {last bytes : ℕ} {table before : NodeTable} → Shows old (last + 1) bytes table → IsMadeFrom before table
    → Changes old new (last + 1) None → Shows new last bytes before
node_unmade_at {old} {new} {last} {bytes} {table} {before} shows from changes =
    let is : table_of old (last + 1) ≡ with_new before from.kind = shows.view ∙ from.made in
    let made : Node = record { kind = from.kind; bytes = [] } in
    let nodes = listed_less node_in old new last None before.nodes (Some made) changes (ap (λ t. t.nodes) is) in
    let links = listed_less links_in old new last 0 before.links 1 changes (ap (λ t. t.links) is) in
    let holders = listed_less holders_in old new last 0 before.holders 0 changes (ap (λ t. t.holders) is) in
    let one : Option Node → ℕ = λ o. cond (is_some o) 1 0 in
    let counted : sum_by one (before.nodes ++ Some made ∷ []) ≡ hash_map_len old = ap (λ t. sum_by one t.nodes) (sym is) ∙ shows.counted.count in
    let counts : sum_by one (before.nodes ++ Some made ∷ []) ≡ sum_by one before.nodes + 1 = sum_by_push one before.nodes (Some made) in
    let total : sum_by size_in (before.nodes ++ Some made ∷ []) ≡ bytes = ap (λ t. sum_by size_in t.nodes) (sym is) ∙ shows.counted.total in
    let totals : sum_by size_in (before.nodes ++ Some made ∷ []) ≡ sum_by size_in before.nodes + 0 = sum_by_push size_in before.nodes (Some made) in
    let fewer : hash_map_len new + 1 ≡ hash_map_len old = omega (arith, one_there (entry old (last + 1)) made nodes.1, changes.count) in
    let few : sum_by one before.nodes ≡ hash_map_len new = omega (arith, counted, counts, fewer) in
    let sum : sum_by size_in before.nodes ≡ bytes = omega (arith, total, totals) in
    record {
      view = same_table (table_of new last) before nodes.0 links.0 holders.0;
      counted = record {
        last_of_all = λ n behind. elim (cases_eq n (last + 1)) [
          | inl here ↦ ap (λ m. entry new m) here ∙ changes.here
          | inr apart ↦ (let further : last + 1 < n = omega arith in changes.others n apart ∙ shows.counted.last_of_all n further)
        ];
        count = ap (sum_by one) nodes.0 ∙ few;
        total = ap (sum_by size_in) nodes.0 ∙ sum;
        within = shows.counted.within;
      };
    }

-- the node that was made last isn't the first
pub not_first : {inodes : Inodes} {last bytes : ℕ} {table before : NodeTable} → Shows inodes last bytes table → IsMadeFrom before table → 0 < last
not_first {inodes} {last} {bytes} {table} {before} shows from =
    let longer : length table.nodes ≡ length before.nodes + 1 = ap (λ t. length t.nodes) from.made ∙ length_push before.nodes (Some (record { kind = from.kind; bytes = [] })) in
    omega (arith, length_nodes shows, longer, from.first)

-- after the node that was made last was taken away, which is as it was made
pub node_unmade : {old new : Inodes} {last bytes : ℕ} {table before : NodeTable} → Shows old last bytes table → IsMadeFrom before table
    → Changes old new last None → Shows new (last - 1) bytes before
node_unmade {old} {new} {last} {bytes} {table} {before} shows from changes =
    let one : (last - 1) + 1 ≡ last = omega (arith, not_first shows from) in
    node_unmade_at {old = old} {new = new} (subst (λ n. Shows old n bytes table) (sym one) shows) from (subst (λ n. Changes old new n None) (sym one) changes)
