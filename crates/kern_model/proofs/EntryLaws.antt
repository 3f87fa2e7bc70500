-- Names by their entries: which nodes have a name, which path a directory has, and where nothing stands.
use Rattle.std.specs.Prelude.{filter, find as list_find, nat_lt}
use Rattle.std.proofs.Common.{◌≡◌, cond, ℕ, Bool, List, [], ◌∷◌, length, Option, None, Some, true, false, ◌&&◌, ◌||◌, ◌==◌, T, refl, sym, ap, subst, ◌∙◌, arith}
use Rattle.std.proofs.lemmas.Bool.{eq-eqb, eqb-true, lt-ltb, true≢false}
use Rattle.std.specs.List.{list_any}
use Rattle.std.specs.Ordering.{is_eq, is_lt}
use Rattle.std.specs.Option.{option_map}
use Rattle.std.specs.FinMap.{get, entries, entries_sorted, find, is_sorted, get-entries}
use Rattle.std.specs.FinMap.Entries.{below_all}
use Rattle.std.specs.declared.cmp.Ordering.TheVariants.{Less, Equal, Greater}
use Rattle.kern_model.specs.Name.{Path, Names, path_cmp, is_same_path, is_in, has_entries, name_count, path_of}
use Rattle.kern_model.proofs.BelowLaws.{same_test, other_test}

counted_in : (path : Path) (node : ℕ) (es : List (Path × ℕ)) → find path_cmp path es ≡ Some node → nat_lt 0 (length (filter (λ e. e.1 == node) es)) ≡ true
counted_in path node [] h = absurd cc
counted_in path node (e ∷ es) h =
    elim (e.1 == node) as (λ b. (e.1 == node) ≡ b → nat_lt 0 (length (cond b (e ∷ filter (λ e. e.1 == node) es) (filter (λ e. e.1 == node) es))) ≡ true) [
      | true ↦ λ t. lt-ltb 0 _ (omega arith)
      | false ↦ λ t. elim (is_same_path path e.0) as (λ b. cond b (Some e.1) (find path_cmp path es) ≡ Some node → nat_lt 0 (length (filter (λ e. e.1 == node) es)) ≡ true) [
        | true ↦ λ k. let same : e.1 ≡ node = cc in absurd (true≢false (sym (eq-eqb e.1 node same) ∙ t))
        | false ↦ λ k. counted_in path node es k
      ] h
    ] refl

-- a node that stands under a path has a name
pub counted : (names : Names) (path : Path) (node : ℕ) → get names path ≡ Some node → nat_lt 0 (name_count names node) ≡ true
counted names path node e = counted_in path node (entries names) (sym (get-entries names path) ∙ e)

parts : (a b : Bool) → T (a && b) → T a × T b
parts true b h = (tt, h)
parts false b h = absurd h

none_later : (path : Path) (es : List (Path × ℕ)) → T (below_all path_cmp path es) → find path_cmp path es ≡ None
none_later path [] h = refl
none_later path (e ∷ es) h =
    elim (path_cmp path e.0) as (λ r. T (is_lt r && below_all path_cmp path es) → cond (is_eq r) (Some e.1) (find path_cmp path es) ≡ None) [
      | Less ↦ λ h. none_later path es h
      | Equal ↦ λ h. absurd h
      | Greater ↦ λ h. absurd h
    ] h

-- what is found behind an entry isn't at that entry's path
apart_later : (path key : Path) (node : ℕ) (es : List (Path × ℕ)) → T (below_all path_cmp key es) → find path_cmp path es ≡ Some node → is_same_path path key ≡ false
apart_later path key node es below h = other_test path key (λ same.
    let k : None ≡ Some node = sym (none_later key es below) ∙ ap (λ (p : Path). find path_cmp p es) (sym same) ∙ h in cc)

placed_in : (node : ℕ) (es : List (Path × ℕ)) (x : Path × ℕ) → T (is_sorted path_cmp es) → list_find (λ e. e.1 == node) es ≡ Some x → find path_cmp x.0 es ≡ Some node
placed_in node [] x sorted h = absurd cc
placed_in node (e ∷ es) x sorted h =
    elim (e.1 == node) as (λ b. (e.1 == node) ≡ b → cond b (Some e) (list_find (λ e. e.1 == node) es) ≡ Some x → find path_cmp x.0 (e ∷ es) ≡ Some node) [
      | true ↦ λ t k. let same : ◌≡◌ {A = Path × ℕ} e x = cc in
          subst (λ (y : Path × ℕ). find path_cmp y.0 (e ∷ es) ≡ Some node) same
          (ap (λ b. cond b (Some e.1) (find path_cmp e.0 es)) (same_test e.0) ∙ ap (λ (n : ℕ). Some n) (eqb-true e.1 node t))
      | false ↦ λ t k.
          let both = parts _ _ sorted in
          let later = placed_in node es x both.1 k in
          ap (λ b. cond b (Some e.1) (find path_cmp x.0 es)) (apart_later x.0 e.0 node es both.0 later) ∙ later
    ] refl h

placed_by : (node : ℕ) (es : List (Path × ℕ)) (o : Option (Path × ℕ)) (path : Path) → T (is_sorted path_cmp es) → list_find (λ e. e.1 == node) es ≡ o → option_map (λ e. e.0) o ≡ Some path → find path_cmp path es ≡ Some node
placed_by node es None path sorted found h = let k : None ≡ Some path = h in absurd cc
placed_by node es (Some x) path sorted found h = let k : x.0 ≡ path = cc in subst (λ (p : Path). find path_cmp p es ≡ Some node) k (placed_in node es x sorted found)

-- the path of a node leads to it
pub placed : (names : Names) (node : ℕ) (path : Path) → path_of names node ≡ Some path → get names path ≡ Some node
placed names node path e = get-entries names path ∙ placed_by node (entries names) _ path (entries_sorted names) refl e

no_entry_in : (component : List ℕ) (directory : Path) (es : List (Path × ℕ)) → list_any (λ e. is_in directory e.0) es ≡ false → find path_cmp (component ∷ directory) es ≡ None
no_entry_in component directory [] h = refl
no_entry_in component directory (e ∷ es) h =
    elim (is_in directory e.0) as (λ b. is_in directory e.0 ≡ b → (b || list_any (λ e. is_in directory e.0) es) ≡ false → find path_cmp (component ∷ directory) (e ∷ es) ≡ None) [
      | true ↦ λ t k. absurd (true≢false k)
      | false ↦ λ t k. ap (λ b. cond b (Some e.1) (find path_cmp (component ∷ directory) es))
          (other_test (component ∷ directory) e.0 (λ same. true≢false (sym (same_test directory) ∙ ap (λ (p : Path). is_in directory p) same ∙ t)))
          ∙ no_entry_in component directory es k
    ] refl h

-- nothing stands in a directory without entries
pub no_entry : (names : Names) (directory : Path) → has_entries names directory ≡ false → (component : List ℕ) → get names (component ∷ directory) ≡ None
no_entry names directory e component = get-entries names (component ∷ directory) ∙ no_entry_in component directory (entries names) e
