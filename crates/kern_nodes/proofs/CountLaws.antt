-- The count of nodes and the sum of their lengths, when one entry changes.
use Rattle.std.proofs.Common.{◌≡◌, ◌≢◌, ℕ, ◌+◌, ◌<◌, ◌≤◌, List, [], ◌∷◌, ◌++◌, length, get_or, set, Option, None, Some, IsSome, is_some, cond, refl, ap, sym, ◌∙◌, subst, arith, ⊎_elim}
use Rattle.std.specs.List.{sum_by}
use Rattle.std.proofs.lemmas.List.{get_or_past}
use Rattle.std.proofs.lemmas.List.Sums.{sum_by-set, sum_by_push, get_or-le-sum_by}
use Rattle.std.proofs.lemmas.Bool.{cases_lt, false≢true}
use Rattle.kern_model.specs.declared.node.Node.{Node}
use Rattle.kern_model.specs.Files.{total_limit}
use Rattle.kern_nodes.specs.declared.inode.Inode.{Inode}
use Rattle.kern_nodes.specs.Inode.{Inodes, entry, listed, node_in, one_in, size_in, IsCounted, Changes}
use Rattle.kern_nodes.proofs.ListedLaws.{length-listed, at_listed, listed_more, listed_same, listed_set}

-- what the list has at any number, by the entry
pub at_any : {X : Type 0} (f : Option Inode → X) (inodes : Inodes) (last bytes number : ℕ) → IsCounted inodes last bytes → get_or (listed f inodes (last + 1)) number (f None) ≡ f (entry inodes number)
at_any f inodes last bytes number counted =
    ⊎_elim
    (λ behind. get_or_past (listed f inodes (last + 1)) number (f None) (omega (arith, length-listed f inodes (last + 1)))
    ∙ ap f (sym (counted.last_of_all number behind)))
    (λ within. at_listed f inodes (last + 1) number (f None) (omega arith))
    (cases_lt last number)

-- a number with an entry isn't above the last one
pub number_within : (inodes : Inodes) (last bytes number : ℕ) (inode : Inode) → IsCounted inodes last bytes → entry inodes number ≡ Some inode → number ≤ last
number_within inodes last bytes number inode counted has =
    ⊎_elim
    (λ behind. let no : Some inode ≡ None = sym has ∙ counted.last_of_all number behind in absurd cc)
    (λ within. within)
    (cases_lt last number)

-- the entry of a live node
pub entry_of_live : (inodes : Inodes) (last bytes number : ℕ) → IsCounted inodes last bytes → IsSome (get_or (listed node_in inodes (last + 1)) number None) → (inode : Inode) × (entry inodes number ≡ Some inode)
entry_of_live inodes last bytes number counted live =
    elim (entry inodes number) as (λ o. IsSome (node_in o) → (inode : Inode) × (o ≡ Some inode)) [
      | None ↦ λ no. absurd (false≢true no)
      | Some inode ↦ λ yes. (inode, refl)
    ] (subst IsSome (at_any node_in inodes last bytes number counted) live)

-- a node has no more bytes than all have
pub size_within : (inodes : Inodes) (last bytes number : ℕ) → IsCounted inodes last bytes → number ≤ last → size_in (node_in (entry inodes number)) ≤ bytes
size_within inodes last bytes number counted within =
    let inside : number < length (listed node_in inodes (last + 1)) = omega (arith, length-listed node_in inodes (last + 1)) in
    let there = at_any node_in inodes last bytes number counted in
    let less = get_or-le-sum_by size_in (listed node_in inodes (last + 1)) number None inside in
    omega (arith, less, ap size_in there, counted.total)

-- an entry counts as one node
one_node : (o : Option Inode) → cond (is_some (node_in o)) 1 0 ≡ one_in o
one_node None = refl
one_node (Some inode) = refl

-- the counts after an entry changed, with the sum that goes with it
pub counted_after : (old new : Inodes) (last bytes sum number : ℕ) (inode : Option Inode) → IsCounted old last bytes → number ≤ last → Changes old new number inode → sum + size_in (node_in (entry old number)) ≡ bytes + size_in (node_in inode) → sum ≤ total_limit → IsCounted new last sum
counted_after old new last bytes sum number inode counted below changes sums within =
    let before : List (Option Node) = listed node_in old (last + 1) in
    let one : Option Node → ℕ = λ o. cond (is_some o) 1 0 in
    let inside : number < length before = omega (arith, length-listed node_in old (last + 1)) in
    let there : get_or before number None ≡ node_in (entry old number) = at_any node_in old last bytes number counted in
    let after : listed node_in new (last + 1) ≡ set before number (node_in inode) =
    listed_set node_in old new (last + 1) number inode None (omega arith) changes in
    let counts : sum_by one (listed node_in new (last + 1)) + one_in (entry old number) ≡ sum_by one before + one_in inode =
    ap (λ nodes. sum_by one nodes + one_in (entry old number)) after
    ∙ ap (λ n. sum_by one (set before number (node_in inode)) + n) (sym (ap one there ∙ one_node (entry old number)))
    ∙ sum_by-set one before number (node_in inode) None inside
    ∙ ap (λ n. sum_by one before + n) (one_node inode) in
    let totals : sum_by size_in (listed node_in new (last + 1)) + size_in (node_in (entry old number)) ≡ sum_by size_in before + size_in (node_in inode) =
    ap (λ nodes. sum_by size_in nodes + size_in (node_in (entry old number))) after
    ∙ ap (λ n. sum_by size_in (set before number (node_in inode)) + n) (sym (ap size_in there))
    ∙ sum_by-set size_in before number (node_in inode) None inside in
    record {
      last_of_all = λ n behind. let apart : n ≢ number = omega arith in changes.others n apart ∙ counted.last_of_all n behind;
      count = omega (arith, counts, changes.count, counted.count);
      total = omega (arith, totals, sums, counted.total);
      within = within;
    }

-- the list of one entry more
pub listed_added : {X : Type 0} (f : Option Inode → X) (old new : Inodes) (last : ℕ) (inode : Option Inode) (d : X) → Changes old new (last + 1) inode → listed f new ((last + 1) + 1) ≡ listed f old (last + 1) ++ f inode ∷ []
listed_added f old new last inode d changes =
    listed_more f new (last + 1)
    ∙ ap (λ xs. xs ++ f (entry new (last + 1)) ∷ [])
    (listed_same f old new (last + 1) d (λ n below. let apart : n ≢ last + 1 = omega arith in ap f (changes.others n apart)))
    ∙ ap (λ x. listed f old (last + 1) ++ x ∷ []) (ap f changes.here)

-- the counts after an empty node was added
pub counted_more : (old new : Inodes) (last bytes : ℕ) (inode : Inode) → IsCounted old last bytes → Changes old new (last + 1) (Some inode) → inode.contents ≡ [] → IsCounted new (last + 1) bytes
counted_more old new last bytes inode counted changes empty =
    let before : List (Option Node) = listed node_in old (last + 1) in
    let one : Option Node → ℕ = λ o. cond (is_some o) 1 0 in
    let after = listed_added node_in old new last (Some inode) None changes in
    let was : entry old (last + 1) ≡ None = counted.last_of_all (last + 1) (omega arith) in
    let counts : sum_by one (listed node_in new ((last + 1) + 1)) ≡ sum_by one before + 1 =
    ap (sum_by one) after ∙ sum_by_push one before (node_in (Some inode)) in
    let totals : sum_by size_in (listed node_in new ((last + 1) + 1)) ≡ sum_by size_in before + length inode.contents =
    ap (sum_by size_in) after ∙ sum_by_push size_in before (node_in (Some inode)) in
    record {
      last_of_all = λ n behind. let apart : n ≢ last + 1 = omega arith in
          let further : last < n = omega arith in
          changes.others n apart ∙ counted.last_of_all n further;
      count = omega (arith, counts, changes.count, counted.count, ap one_in was);
      total = omega (arith, totals, counted.total, ap length empty);
      within = counted.within;
    }
