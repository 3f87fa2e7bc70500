-- How many names a node has, how many nodes there are and how many bytes they have, once one of these changes.
use Rattle.std.specs.Prelude.{slice_set, not, filter, sum_by}
use Rattle.std.proofs.Common.{◌≡◌, cond, ℕ, zero, suc, ◌+◌, ◌≤◌, Bool, true, false, ◌==◌, List, [], ◌∷◌, ◌++◌, length, Option, None, refl, sym, ap, ◌∙◌, arith}
use Rattle.std.proofs.lemmas.List.Sums.{sum_by-cons}
use Rattle.std.specs.declared.cmp.Ordering.TheVariants.{Less, Equal, Greater}
use Rattle.std.specs.FinMap.{empty, entries, entries_sorted, insert, remove, from_entries, put, entries-insert}
use Rattle.sp_base.specs.Table.{at}
use Rattle.kern_model.specs.Name.{Path, Names, path_cmp, is_same_path, name_count, moved_by, moved_entries, below, renamed}
use Rattle.kern_model.proofs.NamesLaws.{paths_total, stands_for, none_stand, remove_stands, entries_of, entries_are}

-- ---- names of a node

-- 1 where a test passes
abbrev pub one_if : Bool → ℕ
one_if b = cond b 1 0

-- how many entries are a node's
abbrev count : ℕ → List (Path × ℕ) → ℕ
count node es = length (filter (λ e. e.1 == node) es)

count_cons : (node : ℕ) (e : Path × ℕ) (es : List (Path × ℕ)) → count node (e ∷ es) ≡ one_if (e.1 == node) + count node es
count_cons node e es = elim (e.1 == node) as (λ b. length (cond b (e ∷ filter (λ e. e.1 == node) es) (filter (λ e. e.1 == node) es)) ≡ one_if b + count node es) [ true ↦ omega arith | false ↦ omega arith ]

count_put : (node : ℕ) (path : Path) (new : ℕ) (es : List (Path × ℕ)) → count node (put path_cmp path new es) ≤ count node es + one_if (new == node)
count_put node path new [] = let e = count_cons node (path, new) [] in omega arith
count_put node path new (e ∷ es) =
    let was = count_cons node e es in
    let front = count_cons node (path, new) (e ∷ es) in
    let same = count_cons node (e.0, new) es in
    let behind = count_cons node e (put path_cmp path new es) in
    let later = count_put node path new es in
    elim (path_cmp path e.0) as (λ o. path_cmp path e.0 ≡ o → count node (put path_cmp path new (e ∷ es)) ≤ count node (e ∷ es) + one_if (new == node)) [
      | Less ↦ λ t. rw t (omega (arith, front))
      | Equal ↦ λ t. rw t (omega (arith, same, was))
      | Greater ↦ λ t. rw t (omega (arith, behind, later, was))
    ] refl

-- a name more is one of the new node's at the most
pub count_insert : (names : Names) (path : Path) (new node : ℕ) → name_count (insert names path new) node ≤ name_count names node + one_if (new == node)
count_insert names path new node =
    let put_in = count_put node path new (entries names) in
    let is : name_count (insert names path new) node ≡ count node (put path_cmp path new (entries names)) = ap (λ (es : List (Path × ℕ)). count node es) (entries-insert paths_total names path new) in
    omega arith

count_filter : (node : ℕ) (keep : Path × ℕ → Bool) (es : List (Path × ℕ)) → count node (filter keep es) ≤ count node es
count_filter node keep [] = omega arith
count_filter node keep (e ∷ es) =
    let was = count_cons node e es in
    let kept = count_cons node e (filter keep es) in
    let later = count_filter node keep es in
    elim (keep e) as (λ b. count node (cond b (e ∷ filter keep es) (filter keep es)) ≤ count node (e ∷ es)) [ true ↦ omega arith | false ↦ omega arith ]

-- a name fewer leaves no more
pub count_remove : (names : Names) (path : Path) (node : ℕ) → name_count (remove names path) node ≤ name_count names node
count_remove names path node =
    let kept = filter (λ e. not (is_same_path e.0 path)) (entries names) in
    let stands = remove_stands (entries names) kept path (entries_sorted names) refl in
    let is = entries_are kept (remove names path) (stands.1 ∙ ap (λ (m : Names). remove m path) (stands_for names (entries names) refl).1) stands.0 in
    let fewer = count_filter node (λ e. not (is_same_path e.0 path)) (entries names) in
    let same : name_count (remove names path) node ≡ count node kept = ap (λ (es : List (Path × ℕ)). count node es) is in
    omega arith

pub count_empty : (node : ℕ) → name_count empty node ≡ 0
count_empty node = ap (λ (m : Names). name_count m node) (sym none_stand) ∙ ap (λ (es : List (Path × ℕ)). count node es) (entries_of [] tt)

count_entries : (es : List (Path × ℕ)) (node : ℕ) → name_count (from_entries es) node ≤ count node es
count_entries [] node = let e = count_empty node in omega arith
count_entries (e ∷ es) node =
    let later = count_entries es node in
    let more = count_insert (from_entries es) e.0 e.1 node in
    let is = count_cons node e es in
    omega arith

count_moved : (old new : Path) (es : List (Path × ℕ)) (node : ℕ) → count node (moved_entries old new es) ≡ count node es
count_moved old new [] node = refl
count_moved old new (e ∷ es) node =
    let later = count_moved old new es node in
    let was = count_cons node e es in
    let is = count_cons node (moved_by e.0 new (below e.0 old), e.1) (moved_entries old new es) in
    omega arith

-- a rename leaves no more
pub count_renamed : (names : Names) (old new : Path) (node : ℕ) → name_count (renamed names old new) node ≤ name_count names node
count_renamed names old new node =
    let most = count_entries (moved_entries old new (entries names)) node in
    let same = count_moved old new (entries names) node in
    omega arith

-- ---- tables

-- a sum over a table once something is set, beyond its end too
pub sum_set : {X : Type 0} (f : Option X → ℕ) (table : List (Option X)) (n : ℕ) (x : Option X) → f None ≡ 0 → sum_by f (slice_set table n x) + f (at table n) ≤ sum_by f table + f x
sum_set f [] n x none = omega arith
sum_set f (y ∷ table) zero x none =
    let was = sum_by-cons f y table in
    let is = sum_by-cons f x table in
    omega arith
sum_set f (y ∷ table) (suc n) x none =
    let later = sum_set f table n x none in
    let was = sum_by-cons f y table in
    let is = sum_by-cons f y (slice_set table n x) in
    omega arith

-- what holds of all numbers and of what is put behind them holds of all numbers then
pub all_end : {X : Type 0} (P : Option X → Type 0) (table : List (Option X)) (x : Option X) → P x → ((q : ℕ) → P (at table q)) → (q : ℕ) → P (at (table ++ x ∷ []) q)
all_end P [] x p h zero = p
all_end P [] x p h (suc q) = h q
all_end P (y ∷ table) x p h zero = h zero
all_end P (y ∷ table) x p h (suc q) = all_end P table x p (λ q. h (suc q)) q
