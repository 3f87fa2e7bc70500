-- How names and nodes go on agreeing.
use Rattle.std.specs.Prelude.{filter, ◌==◌, if◌then◌else◌, Result, OnOk, OnErr, IsTrue, IsSome, is_some}
use Rattle.std.proofs.Common.{◌≡◌, ◌≢◌, cond, ℕ, ◌+◌, ◌-◌, ◌<◌, nat_lt, Bool, true, false, ◌||◌, List, [], ◌∷◌, ◌++◌, length, get_or, set, Option, None, Some, refl, sym, ap, subst, ◌∙◌, arith, ⊎_elim}
use borrow.Author.Tests.{ltb-true, ltb-false}
use Rattle.std.proofs.lemmas.Bool.{cases_eq, eqb-true, eq-eqb, false_from_ne_true, true≢false}
use Rattle.std.proofs.lemmas.List.{get_or-set_same, get_or-set_other, get_or_push, get_or_past, length-set, length_push, nil_from_length}
use Rattle.std.specs.FinMap.{get, empty, insert, remove, entries, get-empty, len-empty, len-entries}
use Rattle.std.specs.Ordering.{nat_cmp}
use Rattle.std.specs.FinSet as set_of
use Rattle.kern_model.specs.declared.node.Node.{Node}
use Rattle.kern_model.specs.declared.node.NodeKind.{NodeKind}
use Rattle.kern_model.specs.Name.{Path, Names, path_cmp, name_count}
use Rattle.kern_model.specs.State.{root, is_directory, is_directory_kind, kind_in, replace_bytes}
use Rattle.kern_model.specs.Files.{put_over, fitting}
use Rattle.kern_model.proofs.EntryLaws as entry_laws
use Rattle.kern_names.specs.Tree.{Tree, root_alone, has_directory, with_name, without_name}
use Rattle.kern_names.proofs.InsideLaws.{either_way, in_more, beside_more, in_fewer, beside_fewer}
use Rattle.kern_names.proofs.CountLaws.{count_insert, count_remove}
use Rattle.kern_nodes.specs.NodeTable.{NodeTable, state_of, fresh_nodes, with_new, with_links, with_node, links_of, holders_of, is_kept, without_unkept}
use Rattle.kern_nodes.specs.Bytes.{with_contents, contents_of, written}
use Rattle.kern_files.specs.Parts.{Agree}
use Rattle.kern_files.proofs.ListsLaws.{within_length, beside_push, kept_by}

-- what stands under a path has a name
pub named : (names : Names) (path : Path) (node : ℕ) → get names path ≡ Some node → 0 < name_count names node
named names path node e = ltb-true 0 (name_count names node) (entry_laws.counted names path node e)

-- one, where a node is the other
abbrev pub one_if : ℕ → ℕ → ℕ
one_if node other = if node == other then 1 else 0

pub one_same : (m n : ℕ) → m ≡ n → one_if m n ≡ 1
one_same m n e = ap (λ b. cond b 1 0) (eq-eqb m n e)

one_other : (m n : ℕ) → m ≢ n → one_if m n ≡ 0
one_other m n ne = ap (λ b. cond b 1 0) (false_from_ne_true (m == n) (λ t. ne (eqb-true m n t)))

turned : {m n : ℕ} → m ≢ n → n ≢ m
turned ne e = ne (sym e)

-- ---- a node whose bytes change, and one that nothing keeps

same_kind : (o : Option Node) (bytes : List ℕ) → is_directory_kind (kind_in (replace_bytes o bytes)) ≡ is_directory_kind (kind_in o)
same_kind None bytes = refl
same_kind (Some node) bytes = refl

same_live : (o : Option Node) (bytes : List ℕ) → is_some (replace_bytes o bytes) ≡ is_some o
same_live None bytes = refl
same_live (Some node) bytes = refl

pub agree_contents : (tree : Tree) (table : NodeTable) (number : ℕ) (bytes : List ℕ) → Agree tree table → Agree tree (with_contents table number bytes)
agree_contents tree table number bytes a =
    let other = replace_bytes (get_or table.nodes number None) bytes in
    let kinds : (n : ℕ) → is_directory (state_of (with_contents table number bytes)) n ≡ is_directory (state_of table) n =
    kept_by (λ (o : Option Node). is_directory_kind (kind_in o)) table.nodes number other None (same_kind (get_or table.nodes number None) bytes) in
    let lives : (n : ℕ) → is_some (get_or (set table.nodes number other) n None) ≡ is_some (get_or table.nodes n None) =
    kept_by (λ (o : Option Node). is_some o) table.nodes number other None (same_live (get_or table.nodes number None) bytes) in
    record {
      long = a.long ∙ sym (length-set table.nodes number other);
      counted = a.counted;
      live = λ n c. lives n ∙ a.live n c;
      kind = λ n h. kinds n ∙ a.kind n h;
      placed = λ n c d. a.placed n c (sym (kinds n) ∙ d);
      once = a.once;
    }

-- where a node was written
pub agree_written : (tree : Tree) (table : NodeTable) (node start : ℕ) (bytes : List ℕ) → Agree tree table → Agree tree (written table node start bytes)
agree_written tree table node start bytes a = elim (length bytes == 0) as (λ b. Agree tree (cond b table (with_contents table node (put_over (contents_of table node) start (fitting start bytes))))) [
  | true ↦ a
  | false ↦ agree_contents tree table node (put_over (contents_of table node) start (fitting start bytes)) a
]

-- what follows from either answer
pub after_answer : {V E : Type 0} (tree : Tree) (old new done : NodeTable) (r : Result V E) → OnOk r (new ≡ done) → OnErr r (new ≡ old) → Agree tree old → Agree tree done → Agree tree new
after_answer tree old new done r ok err before after =
    either_way r ok err (λ (e : new ≡ done). subst (λ t. Agree tree t) (sym e) after) (λ (e : new ≡ old). subst (λ t. Agree tree t) (sym e) before)

agree_without : (tree : Tree) (table : NodeTable) (node : ℕ) → Agree tree table → name_count tree.names node ≡ 0 → Agree tree (with_node table node None)
agree_without tree table node a none =
    let apart : (n : ℕ) → 0 < name_count tree.names n → n ≢ node = λ n c e. (let z : name_count tree.names n ≡ 0 = ap (name_count tree.names) e ∙ none in omega arith) in
    let same : (n : ℕ) → 0 < name_count tree.names n → get_or (set table.nodes node None) n None ≡ get_or table.nodes n None = λ n c. get_or-set_other table.nodes node n None None (apart n c) in
    record {
      long = a.long ∙ sym (length-set table.nodes node None);
      counted = a.counted;
      live = λ n c. ap (λ (o : Option Node). is_some o) (same n c) ∙ a.live n c;
      kind = λ n h. ap (λ (o : Option Node). is_directory_kind (kind_in o)) (same n (omega (arith, a.once n h))) ∙ a.kind n h;
      placed = λ n c d. a.placed n c (sym (ap (λ (o : Option Node). is_directory_kind (kind_in o)) (same n c)) ∙ d);
      once = a.once;
    }

none_left : (l h : ℕ) → (nat_lt 0 l || nat_lt 0 h) ≡ false → l ≡ 0
none_left l h e = elim (nat_lt 0 l) as (λ b. nat_lt 0 l ≡ b → (b || nat_lt 0 h) ≡ false → l ≡ 0) [
  | true ↦ λ t k. absurd (true≢false k)
  | false ↦ λ t k. omega (arith, ltb-false 0 l t)
] refl e

pub agree_unkept : (tree : Tree) (table : NodeTable) (node : ℕ) → Agree tree table → Agree tree (without_unkept table node)
agree_unkept tree table node a = elim (is_kept table node) as (λ b. is_kept table node ≡ b → Agree tree (cond b table (with_node table node None))) [
  | true ↦ λ t. a
  | false ↦ λ t. agree_without tree table node a (sym (a.counted node) ∙ none_left (links_of table node) (holders_of table node) t)
] refl

-- ---- a name fewer, and a name more

pub agree_fewer : (tree : Tree) (table : NodeTable) (path : Path) (node : ℕ) → get tree.names path ≡ Some node → Agree tree table
    → Agree (without_name tree path node) (with_links table node (links_of table node - 1))
agree_fewer tree table path node there a =
    let less : (n : ℕ) → one_if node n + name_count (remove tree.names path) n ≡ name_count tree.names n = λ n. count_remove tree.names path node n there in
    let has = named tree.names path node there in
    let inside : node < length table.links = omega (arith, within_length table.nodes node (a.live node has), a.long) in
    let other : (n : ℕ) → n ≢ node → name_count (remove tree.names path) n ≡ name_count tree.names n = λ n ne. omega (arith, less n, one_other node n (turned ne)) in
    let own : name_count (remove tree.names path) node + 1 ≡ name_count tree.names node = omega (arith, less node, one_same node node refl) in
    let apart : (n : ℕ) → IsTrue (set_of.contains (set_of.remove tree.directories node) n) → n ≢ node = λ n h e. true≢false (sym h ∙ ap (set_of.contains (set_of.remove tree.directories node)) e ∙ in_fewer tree.directories node) in
    let was : (n : ℕ) → IsTrue (set_of.contains (set_of.remove tree.directories node) n) → IsTrue (has_directory tree n) = λ n h. sym (beside_fewer tree.directories node n (apart n h)) ∙ h in
    record {
      long = length-set table.links node (links_of table node - 1) ∙ a.long;
      counted = λ n. ⊎_elim
          (λ e. ap (λ (m : ℕ). get_or (set table.links node (links_of table node - 1)) m 0) e ∙ get_or-set_same table.links node (links_of table node - 1) 0 inside
          ∙ (let k : links_of table node - 1 ≡ name_count (remove tree.names path) node = omega (arith, a.counted node, own) in k) ∙ ap (name_count (remove tree.names path)) (sym e))
          (λ ne. get_or-set_other table.links node n (links_of table node - 1) 0 ne ∙ a.counted n ∙ sym (other n ne))
          (cases_eq n node);
      live = λ n c. a.live n (omega (arith, less n));
      kind = λ n h. a.kind n (was n h);
      placed = λ n c d. (let in_tree = a.placed n (omega (arith, less n)) d in ⊎_elim
          (λ e. (let one : name_count tree.names node ≡ 1 = sym (ap (name_count tree.names) e) ∙ a.once n in_tree in
          let some : 0 < name_count (remove tree.names path) node = subst (λ m. 0 < name_count (remove tree.names path) m) e c in absurd (omega (arith, own, one, some))))
          (λ ne. beside_fewer tree.directories node n ne ∙ in_tree)
          (cases_eq n node));
      once = λ n h. other n (apart n h) ∙ a.once n (was n h);
    }

pub agree_more : (tree : Tree) (table : NodeTable) (path : Path) (node : ℕ) → get tree.names path ≡ None → IsSome (get_or table.nodes node None) → is_directory (state_of table) node ≡ false → Agree tree table
    → Agree (with_name tree path node false) (with_links table node (links_of table node + 1))
agree_more tree table path node free live plain a =
    let more : (n : ℕ) → name_count (insert tree.names path node) n ≡ one_if node n + name_count tree.names n = λ n. count_insert tree.names path node n free in
    let inside : node < length table.links = omega (arith, within_length table.nodes node live, a.long) in
    let other : (n : ℕ) → n ≢ node → name_count (insert tree.names path node) n ≡ name_count tree.names n = λ n ne. omega (arith, more n, one_other node n (turned ne)) in
    let own : name_count (insert tree.names path node) node ≡ name_count tree.names node + 1 = omega (arith, more node, one_same node node refl) in
    let apart : (n : ℕ) → IsTrue (is_directory (state_of table) n) → n ≢ node = λ n d e. true≢false (sym d ∙ ap (is_directory (state_of table)) e ∙ plain) in
    record {
      long = length-set table.links node (links_of table node + 1) ∙ a.long;
      counted = λ n. ⊎_elim
          (λ e. ap (λ (m : ℕ). get_or (set table.links node (links_of table node + 1)) m 0) e ∙ get_or-set_same table.links node (links_of table node + 1) 0 inside
          ∙ (let k : links_of table node + 1 ≡ name_count (insert tree.names path node) node = omega (arith, a.counted node, own) in k) ∙ ap (name_count (insert tree.names path node)) (sym e))
          (λ ne. get_or-set_other table.links node n (links_of table node + 1) 0 ne ∙ a.counted n ∙ sym (other n ne))
          (cases_eq n node);
      live = λ n c. ⊎_elim (λ e. subst (λ m. IsSome (get_or table.nodes m None)) (sym e) live) (λ ne. a.live n (omega (arith, other n ne))) (cases_eq n node);
      kind = a.kind;
      placed = λ n c d. a.placed n (omega (arith, other n (apart n d))) d;
      once = λ n h. other n (apart n (a.kind n h)) ∙ a.once n h;
    }

-- ---- a new node

pub agree_new : (tree : Tree) (table : NodeTable) (path : Path) (kind : NodeKind) → get tree.names path ≡ None → Agree tree table
    → Agree (with_name tree path (length table.nodes) (is_directory_kind kind)) (with_new table kind)
agree_new tree table path kind free a =
    let next = length table.nodes in
    let made : Node = record { kind = kind; bytes = [] } in
    let more : (n : ℕ) → name_count (insert tree.names path next) n ≡ one_if next n + name_count tree.names n = λ n. count_insert tree.names path next n free in
    let other : (n : ℕ) → n ≢ next → name_count (insert tree.names path next) n ≡ name_count tree.names n = λ n ne. omega (arith, more n, one_other next n (turned ne)) in
    let unused : name_count tree.names next ≡ 0 = sym (a.counted next) ∙ get_or_past table.links next 0 (omega (arith, a.long)) in
    let own : name_count (insert tree.names path next) next ≡ 1 = omega (arith, more next, one_same next next refl, unused) in
    let new_there : get_or (table.nodes ++ Some made ∷ []) next None ≡ Some made = get_or_push table.nodes (Some made) None next refl in
    let old_there : (n : ℕ) → n ≢ next → get_or (table.nodes ++ Some made ∷ []) n None ≡ get_or table.nodes n None = beside_push table.nodes (Some made) None in
    let new_kind : is_directory (state_of (with_new table kind)) next ≡ is_directory_kind kind = ap (λ (o : Option Node). is_directory_kind (kind_in o)) new_there in
    let old_kind : (n : ℕ) → n ≢ next → is_directory (state_of (with_new table kind)) n ≡ is_directory (state_of table) n = λ n ne. ap (λ (o : Option Node). is_directory_kind (kind_in o)) (old_there n ne) in
    let unplaced : IsTrue (has_directory tree next) → ⊥ = λ h. (let one = a.once next h in omega (arith, one, unused)) in
    record {
      long = length_push table.links 1 ∙ ap (λ n. n + 1) a.long ∙ sym (length_push table.nodes (Some made));
      counted = λ n. ⊎_elim
          (λ e. ap (λ (m : ℕ). get_or (table.links ++ 1 ∷ []) m 0) e ∙ get_or_push table.links 1 0 next a.long ∙ sym own ∙ ap (name_count (insert tree.names path next)) (sym e))
          (λ ne. beside_push table.links 1 0 n (λ e. ne (e ∙ a.long)) ∙ a.counted n ∙ sym (other n ne))
          (cases_eq n next);
      live = λ n c. ⊎_elim
          (λ e. ap (λ (m : ℕ). is_some (get_or (table.nodes ++ Some made ∷ []) m None)) e ∙ ap (λ (o : Option Node). is_some o) new_there)
          (λ ne. ap (λ (o : Option Node). is_some o) (old_there n ne) ∙ a.live n (omega (arith, other n ne)))
          (cases_eq n next);
      kind = λ n h. ⊎_elim
          (λ e. ap (is_directory (state_of (with_new table kind))) e ∙ new_kind ∙ kind_by (is_directory_kind kind) refl (subst (λ m. IsTrue (has_directory (with_name tree path next (is_directory_kind kind)) m)) e h) unplaced)
          (λ ne. old_kind n ne ∙ a.kind n (sym (beside (is_directory_kind kind) n ne) ∙ h))
          (cases_eq n next);
      placed = λ n c d. ⊎_elim
          (λ e. ap (has_directory (with_name tree path next (is_directory_kind kind))) e ∙ here (is_directory_kind kind) (sym new_kind ∙ ap (is_directory (state_of (with_new table kind))) (sym e) ∙ d))
          (λ ne. beside (is_directory_kind kind) n ne ∙ a.placed n (omega (arith, other n ne)) (sym (old_kind n ne) ∙ d))
          (cases_eq n next);
      once = λ n h. ⊎_elim
          (λ e. ap (name_count (insert tree.names path next)) e ∙ own)
          (λ ne. other n ne ∙ a.once n (sym (beside (is_directory_kind kind) n ne) ∙ h))
          (cases_eq n next);
    }
  where
    beside : (b : Bool) (n : ℕ) → n ≢ length table.nodes → has_directory (with_name tree path (length table.nodes) b) n ≡ has_directory tree n
    beside true n ne = beside_more tree.directories (length table.nodes) n ne
    beside false n ne = refl

    here : (b : Bool) → b ≡ true → IsTrue (has_directory (with_name tree path (length table.nodes) b) (length table.nodes))
    here true e = in_more tree.directories (length table.nodes)
    here false e = absurd (true≢false (sym e))

    kind_by : (b : Bool) → is_directory_kind kind ≡ b → IsTrue (has_directory (with_name tree path (length table.nodes) (is_directory_kind kind)) (length table.nodes)) → (IsTrue (has_directory tree (length table.nodes)) → ⊥) → is_directory_kind kind ≡ true
    kind_by true t h never = t
    kind_by false t h never = absurd (never (subst (λ b. IsTrue (has_directory (with_name tree path (length table.nodes) b) (length table.nodes))) t h))

-- ---- names that go to other places, and the root alone

pub agree_moved : (tree moved : Tree) (table : NodeTable) → moved.directories ≡ tree.directories → ((n : ℕ) → name_count moved.names n ≡ name_count tree.names n) → Agree tree table → Agree moved table
agree_moved tree moved table same counts a =
    let has : (n : ℕ) → has_directory moved n ≡ has_directory tree n = λ n. ap (λ (s : set_of.FinSet _). set_of.contains s n) same in
    record {
      long = a.long;
      counted = λ n. a.counted n ∙ sym (counts n);
      live = λ n c. a.live n (omega (arith, counts n));
      kind = λ n h. a.kind n (sym (has n) ∙ h);
      placed = λ n c d. has n ∙ a.placed n (omega (arith, counts n)) d;
      once = λ n h. counts n ∙ a.once n (sym (has n) ∙ h);
    }

no_names : (n : ℕ) → name_count empty n ≡ 0
no_names n = ap (λ (es : List (Path × ℕ)). length (filter (λ e. e.1 == n) es)) (nil_from_length (entries {R = path_cmp} empty) (sym (len-entries {R = path_cmp} empty) ∙ len-empty path_cmp ℕ))

pub agree_fresh : Agree root_alone fresh_nodes
agree_fresh =
    let counts : (n : ℕ) → name_count (insert empty [] root) n ≡ one_if root n + name_count empty n = λ n. count_insert empty [] root n (get-empty path_cmp []) in
    let top : name_count (insert empty [] root) root ≡ 1 = omega (arith, counts root, no_names root) in
    let other : (n : ℕ) → n ≢ root → name_count (insert empty [] root) n ≡ 0 = λ n ne. omega (arith, counts n, no_names n, one_other root n (turned ne)) in
    let number : (n : ℕ) → IsTrue (has_directory root_alone n) → n ≡ root = λ n h. ⊎_elim (λ e. e) (λ ne. absurd (true≢false (sym h ∙ beside_more set_of.empty root n ne ∙ set_of.contains-empty nat_cmp n))) (cases_eq n root) in
    let only : (n : ℕ) → 0 < name_count (insert empty [] root) n → n ≡ root = λ n c. ⊎_elim (λ e. e) (λ ne. absurd (omega (arith, other n ne))) (cases_eq n root) in
    record {
      long = refl;
      counted = λ n. ⊎_elim (λ e. ap (links_of fresh_nodes) e ∙ sym top ∙ ap (name_count (insert empty [] root)) (sym e)) (λ ne. no_links n ne ∙ sym (other n ne)) (cases_eq n root);
      live = λ n c. ap (λ (m : ℕ). is_some (get_or fresh_nodes.nodes m None)) (only n c);
      kind = λ n h. ap (is_directory (state_of fresh_nodes)) (number n h);
      placed = λ n c d. ap (has_directory root_alone) (only n c) ∙ in_more set_of.empty root;
      once = λ n h. ap (name_count (insert empty [] root)) (number n h) ∙ top;
    }
  where
    no_links : (n : ℕ) → n ≢ root → links_of fresh_nodes n ≡ 0
    no_links n ne = ⊎_elim (λ e. ap (links_of fresh_nodes) e) (λ other. get_or_past fresh_nodes.links n 0 (omega arith)) (cases_eq n 0)
