-- A list of names in order stands for the map of which it is the entries.
use Rattle.std.specs.Prelude.{slice_set, filter, not, Bool, true, false, ◌==◌, find as list_find}
use Rattle.std.proofs.Common.{◌≡◌, cond, ℕ, zero, suc, ◌≤◌, List, [], ◌∷◌, ◌++◌, length, take, drop, get_or, Option, Some, None, T, refl, sym, ap, subst, ◌∙◌, arith}
use Rattle.std.specs.Cmp.{IsTotalOrder}
use Rattle.std.specs.Cmp.Lexicographic.{nat_list_cmp_total, lists_total}
use Rattle.std.specs.FinMap.{IsAntisymmetric, nat_cmp-IsAntisymmetric, slice_cmp-IsAntisymmetric, same_map, get-entries, get-from_sorted, get-empty, empty, entries, entries_sorted, entries-insert, entries-from_sorted, insert, remove, get-remove, from_entries, find, put, is_sorted}
use Rattle.std.specs.FinMap.Entries.{is_sorted-where_key, find-where_key}
use Rattle.std.specs.List.{AllByRecursion, insert as insert_at, list_any}
use Rattle.std.specs.Option.{option_map}
use Rattle.std.specs.declared.cmp.Ordering.TheVariants.{Less, Equal, Greater}
use Rattle.kern_model.specs.declared.name_map.Name.{Name}
use Rattle.kern_model.specs.Name.{Path, Names, path_cmp, is_same_path, is_in, below, name_count, path_of, has_entries, renamed, moved_entries}
use Rattle.kern_model.specs.NameMap.{entry_of, list_of, map_of, IsBefore, IsAtPlace, IsSame, IsOther}

pub paths_total : IsTotalOrder path_cmp
paths_total = lists_total nat_list_cmp_total

pub exact_paths : IsAntisymmetric path_cmp
exact_paths = slice_cmp-IsAntisymmetric (slice_cmp-IsAntisymmetric nat_cmp-IsAntisymmetric)

-- the entries of a map are in order, and stand for it
pub stands_for : (m : Names) (es : List (Path × ℕ)) → entries m ≡ es → T (is_sorted path_cmp es) × (map_of es ≡ m)
stands_for m es e =
    let sorted : T (is_sorted path_cmp es) = subst (λ (l : List (Path × ℕ)). T (is_sorted path_cmp l)) e (entries_sorted m) in
    (sorted, same_map paths_total exact_paths (map_of es) m (λ q. get-from_sorted path_cmp es q sorted ∙ ap (λ (l : List (Path × ℕ)). find path_cmp q l) (sym e) ∙ sym (get-entries m q)))

-- a name goes behind those that stand before its path
pub put_past : (path : Path) (node : ℕ) (front rest : List Name) → AllByRecursion (IsBefore path) front → put path_cmp path node (list_of (front ++ rest)) ≡ list_of front ++ put path_cmp path node (list_of rest)
put_past path node [] rest h = refl
put_past path node (name ∷ front) rest h = rw h.0 (ap (λ (l : List (Path × ℕ)). entry_of name ∷ l) (put_past path node front rest h.1))

-- a new path goes before the first one that stands behind it
pub put_new : (path : Path) (node : ℕ) (rest : List Name) → IsAtPlace path rest → IsOther path rest → put path_cmp path node (list_of rest) ≡ (path, node) ∷ list_of rest
put_new path node [] at other = refl
put_new path node (name ∷ rest) at other =
    elim (path_cmp path name.path) as (λ r. path_cmp path name.path ≡ r → put path_cmp path node (list_of (name ∷ rest)) ≡ (path, node) ∷ list_of (name ∷ rest)) [
      | Less ↦ λ e. rw e refl
      | Equal ↦ λ e. absurd (other e)
      | Greater ↦ λ e. absurd (at e)
    ] refl

-- a path that is there gets another node
pub put_again : (path : Path) (node : ℕ) (name : Name) (rest : List Name) → path_cmp path name.path ≡ Equal → put path_cmp path node (list_of (name ∷ rest)) ≡ (name.path, node) ∷ list_of rest
put_again path node name rest e = rw e refl

-- a new name in its place
pub inserted : (path : Path) (node i : ℕ) (names : List Name) → i ≤ length names → AllByRecursion (IsBefore path) (take i names) → IsAtPlace path (drop i names) → IsOther path (drop i names)
    → list_of (insert_at names i (record { path = path; node = node })) ≡ put path_cmp path node (list_of names)
inserted path node zero [] le before at other = refl
inserted path node zero (name ∷ names) le before at other = sym (put_new path node (name ∷ names) at other)
inserted path node (suc i) [] le before at other = absurd (omega (arith, le))
inserted path node (suc i) (name ∷ names) le before at other = rw before.0 (ap (λ (l : List (Path × ℕ)). entry_of name ∷ l) (inserted path node i names (omega (arith, le)) before.1 at other))

-- another node for a path that is there
pub replaced : (path key : Path) (node i : ℕ) (names : List Name) (first : Name) → first.path ≡ key → first ≡ get_or names i first → AllByRecursion (IsBefore path) (take i names) → IsSame path (drop i names)
    → list_of (slice_set names i (record { path = key; node = node })) ≡ put path_cmp path node (list_of names)
replaced path key node zero [] first e is before same = absurd same
replaced path key node zero (name ∷ names) first e is before same = rw (← e, is) (sym (put_again path node name names same))
replaced path key node (suc i) [] first e is before same = absurd same
replaced path key node (suc i) (name ∷ names) first e is before same = rw before.0 (ap (λ (l : List (Path × ℕ)). entry_of name ∷ l) (replaced path key node i names first e is before.1 same))

-- a map stands for its entries in order
pub entries_of : (es : List (Path × ℕ)) → T (is_sorted path_cmp es) → entries (map_of es) ≡ es
entries_of es sorted = entries-from_sorted path_cmp es sorted

-- no names stand for the empty map
pub none_stand : map_of [] ≡ empty
none_stand = same_map paths_total exact_paths (map_of []) empty (λ q. get-from_sorted path_cmp [] q tt ∙ sym (get-empty path_cmp q))

-- names stand for the map with one more
pub insert_stands : (old new : List (Path × ℕ)) (path : Path) (node : ℕ) → T (is_sorted path_cmp old) → new ≡ put path_cmp path node old → T (is_sorted path_cmp new) × (map_of new ≡ insert (map_of old) path node)
insert_stands old new path node sorted is =
    stands_for (insert (map_of old) path node) new (entries-insert paths_total (map_of old) path node ∙ ap (λ (l : List (Path × ℕ)). put path_cmp path node l) (entries_of old sorted) ∙ sym is)

-- a test of the other answer chooses the other way round
pub turned : {X : Type 0} (b : Bool) (x y : X) → cond (not b) x y ≡ cond b y x
turned false x y = refl
turned true x y = refl

-- names stand for the map with one fewer
pub remove_stands : (old new : List (Path × ℕ)) (path : Path) → T (is_sorted path_cmp old) → new ≡ filter (λ e. not (is_same_path e.0 path)) old → T (is_sorted path_cmp new) × (map_of new ≡ remove (map_of old) path)
remove_stands old new path sorted is =
    let kept : T (is_sorted path_cmp new) = subst (λ (l : List (Path × ℕ)). T (is_sorted path_cmp l)) (sym is) (is_sorted-where_key path_cmp (λ p. not (is_same_path p path)) old sorted) in (
      kept,
      same_map paths_total exact_paths (map_of new) (remove (map_of old) path) (λ q.
          get-from_sorted path_cmp new q kept
          ∙ ap (λ (l : List (Path × ℕ)). find path_cmp q l) is
          ∙ find-where_key path_cmp (λ p. not (is_same_path p path)) q (λ x e. ap (λ p. not (is_same_path p path)) (sym (exact_paths q x e))) old
          ∙ turned (is_same_path q path) (find path_cmp q old) None
          ∙ ap (λ (o : Option ℕ). cond (is_same_path q path) None o) (sym (get-from_sorted path_cmp old q sorted))
          ∙ sym (get-remove paths_total (map_of old) path q)),
    )

-- the entries of the names that are kept
pub kept_names : (path : Path) (names : List Name) → list_of (filter (λ name. not (is_same_path name.path path)) names) ≡ filter (λ e. not (is_same_path e.0 path)) (list_of names)
kept_names path [] = refl
kept_names path (name ∷ names) =
    elim (is_same_path name.path path) as (λ b. list_of (cond (not b) (name ∷ filter (λ name. not (is_same_path name.path path)) names) (filter (λ name. not (is_same_path name.path path)) names)) ≡ cond (not b) (entry_of name ∷ filter (λ e. not (is_same_path e.0 path)) (list_of names)) (filter (λ e. not (is_same_path e.0 path)) (list_of names))) [
      | false ↦ ap (λ (l : List (Path × ℕ)). entry_of name ∷ l) (kept_names path names)
      | true ↦ kept_names path names
    ]

-- the entries of the map that a list in order stands for
pub entries_are : (es : List (Path × ℕ)) (m : Names) → map_of es ≡ m → T (is_sorted path_cmp es) → entries m ≡ es
entries_are es m is sorted = ap (λ (n : Names). entries n) (sym is) ∙ entries_of es sorted

-- how many names a node has, by the entries
pub count_is : (m : Names) (es : List (Path × ℕ)) (node : ℕ) → entries m ≡ es → name_count m node ≡ length (filter (λ e. e.1 == node) es)
count_is m es node is = ap (λ (l : List (Path × ℕ)). length (filter (λ e. e.1 == node) l)) is

-- a node's path, by the entries
pub path_is : (m : Names) (es : List (Path × ℕ)) (node : ℕ) → entries m ≡ es → path_of m node ≡ option_map (λ e. e.0) (list_find (λ e. e.1 == node) es)
path_is m es node is = ap (λ (l : List (Path × ℕ)). option_map (λ e. e.0) (list_find (λ e. e.1 == node) l)) is

-- whether a directory has entries, by the entries
pub has_entries_is : (m : Names) (es : List (Path × ℕ)) (directory : Path) → entries m ≡ es → has_entries m directory ≡ list_any (λ e. is_in directory e.0) es
has_entries_is m es directory is = ap (λ (l : List (Path × ℕ)). list_any (λ e. is_in directory e.0) l) is

-- a rename, by the entries
pub renamed_is : (m : Names) (es : List (Path × ℕ)) (old new : Path) → entries m ≡ es → renamed m old new ≡ from_entries (moved_entries old new es)
renamed_is m es old new is = ap (λ (l : List (Path × ℕ)). from_entries (moved_entries old new l)) is

-- a path that is the same as the top has nothing before it
pub below_same : (path top : Path) → is_same_path path top ≡ true → below path top ≡ Some []
below_same [] top e = rw e refl
below_same (component ∷ path) top e = rw e refl
