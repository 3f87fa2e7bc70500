-- What is below a path, and what stands under each path after a rename.
use Rattle.std.proofs.Common.{◌≡◌, ◌≢◌, ℕ, List, [], ◌∷◌, ◌++◌, length, None, Some, true, false, cond, refl, ap, sym, ◌∙◌, subst, arith, length-append}
use Rattle.std.specs.Option.{option_map}
use Rattle.std.specs.Ordering.{is_eq}
use Rattle.std.specs.List.{AllByRecursion}
use Rattle.std.specs.FinMap.{get, entries, find, get-from_entries, get-entries}
use Rattle.std.proofs.lemmas.List.{append_cancel_right}
use Rattle.std.proofs.lemmas.Bool.{false_from_ne_true, true≢false, false≢true}
use Rattle.std.proofs.lemmas.Cmp.{eq_by_cmp_equiv}
use Rattle.std.specs.declared.cmp.Ordering.{Ordering}
use Rattle.std.specs.declared.cmp.Ordering.TheVariants.{Less, Equal, Greater}
use Rattle.kern_model.specs.Name.{Path, Names, path_cmp, is_same_path, below, moved_by, moved_entries, renamed}
use Rattle.kern_model.proofs.NamesLaws.{paths_total, exact_paths}

pub same_test : (p : Path) → is_same_path p p ≡ true
same_test p = (eq_by_cmp_equiv paths_total).refl p

equal_from : (r : Ordering) → is_eq r ≡ true → r ≡ Equal
equal_from Less e = absurd (false≢true e)
equal_from Equal e = refl
equal_from Greater e = absurd (false≢true e)

pub path_from_test : (p q : Path) → is_same_path p q ≡ true → p ≡ q
path_from_test p q e = exact_paths p q (equal_from (path_cmp p q) e)

pub other_test : (p q : Path) → p ≢ q → is_same_path p q ≡ false
other_test p q ne = false_from_ne_true _ (λ e. ne (path_from_test p q e))

longer : (r p : Path) (c : List ℕ) → c ∷ (r ++ p) ≢ p
longer r p c e = let a : length (c ∷ (r ++ p)) ≡ length p = ap length e in omega (arith, length-append r p)

-- what stands before the top is told
pub below_told : (top r : Path) → below (r ++ top) top ≡ Some r
below_told [] [] = ap (λ b. cond b (Some []) None) (same_test [])
below_told (x ∷ top) [] = ap (λ b. cond b (Some []) (option_map (λ (s : Path). x ∷ s) (below top (x ∷ top)))) (same_test (x ∷ top))
below_told top (c ∷ r) =
    ap (λ b. cond b (Some []) (option_map (λ (s : Path). c ∷ s) (below (r ++ top) top))) (other_test (c ∷ (r ++ top)) top (longer r top c))
    ∙ ap (option_map (λ (s : Path). c ∷ s)) (below_told top r)

-- and nothing else is
pub below_is : (top p r : Path) → below p top ≡ Some r → p ≡ r ++ top
below_is top [] r h =
    elim (is_same_path [] top) as (λ b. is_same_path [] top ≡ b → cond b (Some []) None ≡ Some r → [] ≡ r ++ top) [
      | true ↦ λ t h. let k : [] ≡ r = cc in subst (λ (r : Path). [] ≡ r ++ top) k (path_from_test [] top t)
      | false ↦ λ t h. let k : None ≡ Some r = h in absurd cc
    ] refl h
below_is top (c ∷ p) r h =
    elim (is_same_path (c ∷ p) top) as (λ b. is_same_path (c ∷ p) top ≡ b → cond b (Some []) (option_map (λ (s : Path). c ∷ s) (below p top)) ≡ Some r → c ∷ p ≡ r ++ top) [
      | true ↦ λ t h. let k : [] ≡ r = cc in subst (λ (r : Path). c ∷ p ≡ r ++ top) k (path_from_test (c ∷ p) top t)
      | false ↦ λ t h. elim (below p top) as (λ o. below p top ≡ o → option_map (λ (s : Path). c ∷ s) o ≡ Some r → c ∷ p ≡ r ++ top) [
        | None ↦ λ u h. let k : None ≡ Some r = h in absurd cc
        | Some s ↦ λ u h. let k : c ∷ s ≡ r = cc in subst (λ (r : Path). c ∷ p ≡ r ++ top) k (ap (λ (q : Path). c ∷ q) (below_is top p s u))
      ] refl h
    ] refl h

-- a path with nothing told before the top is none below it
pub not_below : (top q p : Path) → below p top ≡ None → p ≢ q ++ top
not_below top q p t s = let k : Some q ≡ None = sym (below_told top q) ∙ ap (λ (p : Path). below p top) (sym s) ∙ t in cc

-- two paths of which neither is below the other have nothing in common below them
apart_below : (old new : Path) → ((r : Path) → new ≢ r ++ old) → ((r : Path) → old ≢ r ++ new) → (q r : Path) → q ++ old ≢ r ++ new
apart_below old new a b [] r e = b r e
apart_below old new a b (c ∷ q) [] e = a (c ∷ q) (sym e)
apart_below old new a b (c ∷ q) (d ∷ r) e = apart_below old new a b q r cc

abbrev Absent : Path → List (Path × ℕ) → Type 0
Absent new es = AllByRecursion (λ e. (r : Path) → e.0 ≢ r ++ new) es

-- a path that isn't found is no entry's
absent_from : (new : Path) (es : List (Path × ℕ)) → ((r : Path) → find path_cmp (r ++ new) es ≡ None) → Absent new es
absent_from new [] h = tt
absent_from new (e ∷ es) h = (
  λ r is. let t : is_same_path (r ++ new) e.0 ≡ true = subst (λ (p : Path). is_same_path (r ++ new) p ≡ true) (sym is) (same_test (r ++ new)) in
      let k : Some e.1 ≡ None = sym (ap (λ b. cond b (Some e.1) (find path_cmp (r ++ new) es)) t) ∙ h r in absurd cc,
  absent_from new es (λ r. elim (is_same_path (r ++ new) e.0) as (λ b. cond b (Some e.1) (find path_cmp (r ++ new) es) ≡ None → find path_cmp (r ++ new) es ≡ None) [
    | true ↦ λ k. let j : Some e.1 ≡ None = k in absurd cc
    | false ↦ λ k. k
  ] (h r)),
)

module _ (old new : Path) (a : (r : Path) → new ≢ r ++ old) (b : (r : Path) → old ≢ r ++ new) where
  find_elsewhere : (p : Path) → ((r : Path) → p ≢ r ++ old) → ((r : Path) → p ≢ r ++ new) → (es : List (Path × ℕ)) → find path_cmp p (moved_entries old new es) ≡ find path_cmp p es
  find_elsewhere p g h [] = refl
  find_elsewhere p g h (e ∷ es) =
      elim (below e.0 old) as (λ o. below e.0 old ≡ o → cond (is_same_path p (moved_by e.0 new o)) (Some e.1) (find path_cmp p (moved_entries old new es)) ≡ cond (is_same_path p e.0) (Some e.1) (find path_cmp p es)) [
        | None ↦ λ t. ap (cond (is_same_path p e.0) (Some e.1)) (find_elsewhere p g h es)
        | Some r ↦ λ t. ap (λ x. cond x (Some e.1) (find path_cmp p (moved_entries old new es))) (other_test p (r ++ new) (h r))
            ∙ find_elsewhere p g h es
            ∙ sym (ap (λ x. cond x (Some e.1) (find path_cmp p es)) (other_test p e.0 (λ s. g r (s ∙ below_is old e.0 r t))))
      ] refl

  -- an entry that isn't below the old path isn't at a path below it
  away : (q p : Path) → below p old ≡ None → is_same_path (q ++ old) p ≡ false
  away q p t = other_test (q ++ old) p (λ s. not_below old q p t (sym s))

  find_old : (q : Path) (es : List (Path × ℕ)) → find path_cmp (q ++ old) (moved_entries old new es) ≡ None
  find_old q [] = refl
  find_old q (e ∷ es) =
      elim (below e.0 old) as (λ o. below e.0 old ≡ o → cond (is_same_path (q ++ old) (moved_by e.0 new o)) (Some e.1) (find path_cmp (q ++ old) (moved_entries old new es)) ≡ None) [
        | None ↦ λ t. ap (λ x. cond x (Some e.1) (find path_cmp (q ++ old) (moved_entries old new es))) (away q e.0 t) ∙ find_old q es
        | Some r ↦ λ t. ap (λ x. cond x (Some e.1) (find path_cmp (q ++ old) (moved_entries old new es))) (other_test (q ++ old) (r ++ new) (apart_below old new a b q r)) ∙ find_old q es
      ] refl

  -- one path below the new one is another one exactly where the same holds below the old one
  same_below : (q r : Path) → is_same_path (q ++ new) (r ++ new) ≡ is_same_path (q ++ old) (r ++ old)
  same_below q r =
      elim (is_same_path q r) as (λ x. is_same_path q r ≡ x → is_same_path (q ++ new) (r ++ new) ≡ is_same_path (q ++ old) (r ++ old)) [
        | true ↦ λ t. let k : q ≡ r = path_from_test q r t in
            subst (λ (s : Path). is_same_path (q ++ new) (s ++ new) ≡ is_same_path (q ++ old) (s ++ old)) k (same_test (q ++ new) ∙ sym (same_test (q ++ old)))
        | false ↦ λ t. let ne : q ≢ r = λ s. true≢false (sym (subst (λ (u : Path). is_same_path q u ≡ true) s (same_test q)) ∙ t) in
            other_test (q ++ new) (r ++ new) (λ s. ne (append_cancel_right q r new s)) ∙ sym (other_test (q ++ old) (r ++ old) (λ s. ne (append_cancel_right q r old s)))
      ] refl

  find_new : (q : Path) (es : List (Path × ℕ)) → Absent new es → find path_cmp (q ++ new) (moved_entries old new es) ≡ find path_cmp (q ++ old) es
  find_new q [] h = refl
  find_new q (e ∷ es) h =
      elim (below e.0 old) as (λ o. below e.0 old ≡ o → cond (is_same_path (q ++ new) (moved_by e.0 new o)) (Some e.1) (find path_cmp (q ++ new) (moved_entries old new es)) ≡ cond (is_same_path (q ++ old) e.0) (Some e.1) (find path_cmp (q ++ old) es)) [
        | None ↦ λ t. ap (λ x. cond x (Some e.1) (find path_cmp (q ++ new) (moved_entries old new es))) (other_test (q ++ new) e.0 (λ s. h.0 q (sym s)))
            ∙ find_new q es h.1
            ∙ sym (ap (λ x. cond x (Some e.1) (find path_cmp (q ++ old) es)) (away q e.0 t))
        | Some r ↦ λ t. ap (cond (is_same_path (q ++ new) (r ++ new)) (Some e.1)) (find_new q es h.1)
            ∙ ap (λ x. cond x (Some e.1) (find path_cmp (q ++ old) es)) (same_below q r ∙ ap (is_same_path (q ++ old)) (sym (below_is old e.0 r t)))
      ] refl

  -- every other path has the same node
  pub get_elsewhere : (names : Names) (p : Path) → ((r : Path) → p ≢ r ++ old) → ((r : Path) → p ≢ r ++ new) → get (renamed names old new) p ≡ get names p
  get_elsewhere names p g h = get-from_entries paths_total (moved_entries old new (entries names)) p ∙ find_elsewhere p g h (entries names) ∙ sym (get-entries names p)

  -- nothing is left below the old path
  pub get_old : (names : Names) (q : Path) → get (renamed names old new) (q ++ old) ≡ None
  get_old names q = get-from_entries paths_total (moved_entries old new (entries names)) (q ++ old) ∙ find_old q (entries names)

  -- below the new path stands what stood below the old one
  pub get_new : (names : Names) → ((r : Path) → get names (r ++ new) ≡ None) → (q : Path) → get (renamed names old new) (q ++ new) ≡ get names (q ++ old)
  get_new names free q =
      get-from_entries paths_total (moved_entries old new (entries names)) (q ++ new)
      ∙ find_new q (entries names) (absent_from new (entries names) (λ r. sym (get-entries names (r ++ new)) ∙ free r))
      ∙ sym (get-entries names (q ++ old))
