-- What stands under each path once a name is put or taken away.
use Rattle.std.proofs.Common.{◌≡◌, ◌≢◌, ◌⊎◌, inl, inr, cond, ℕ, true, false, Some, None, refl, sym, ap, ◌∙◌}
use Rattle.std.specs.FinMap.{get, insert, remove, get-insert, get-remove}
use Rattle.kern_model.specs.Name.{Path, Names, is_same_path}
use Rattle.kern_model.proofs.NamesLaws.{paths_total}
use Rattle.kern_model.proofs.BelowLaws.{same_test, path_from_test, other_test}

-- some path names a node
pub record HasName (names : Names) (node : ℕ) : Type 0 where
  pub path : Path
  pub stands : get names path ≡ Some node

-- where nothing is, is not where something is
pub apart_from : (names : Names) (free path : Path) (node : ℕ) → get names free ≡ None → get names path ≡ Some node → path ≢ free
apart_from names free path node none some same = let k : None ≡ Some node = sym none ∙ ap (λ (p : Path). get names p) (sym same) ∙ some in cc

-- paths to two nodes are two
pub paths_apart : (names : Names) (path other : Path) (node n : ℕ) → get names path ≡ Some node → get names other ≡ Some n → n ≢ node → other ≢ path
paths_apart names path other node n e f ne same = let k : Some n ≡ Some node = sym f ∙ ap (λ (p : Path). get names p) same ∙ e in ne cc

-- what stands under a path then is the new node under the new name, or stood there before
pub insert_cases : (names : Names) (new : Path) (node : ℕ) (path : Path) (n : ℕ) → get (insert names new node) path ≡ Some n → ((path ≡ new) × (node ≡ n)) ⊎ (get names path ≡ Some n)
insert_cases names new node path n e =
    elim (is_same_path path new) as (λ b. is_same_path path new ≡ b → cond b (Some node) (get names path) ≡ Some n → ((path ≡ new) × (node ≡ n)) ⊎ (get names path ≡ Some n)) [
      | true ↦ λ t k. inl (path_from_test path new t, cc)
      | false ↦ λ t k. inr k
    ] refl (sym (get-insert paths_total names new node path) ∙ e)

-- every other path keeps its node
pub insert_other : (names : Names) (new : Path) (node : ℕ) (path : Path) → path ≢ new → get (insert names new node) path ≡ get names path
insert_other names new node path ne = get-insert paths_total names new node path ∙ ap (λ b. cond b (Some node) (get names path)) (other_test path new ne)

-- the new name has the new node
pub insert_same : (names : Names) (new : Path) (node : ℕ) → get (insert names new node) new ≡ Some node
insert_same names new node = get-insert paths_total names new node new ∙ ap (λ b. cond b (Some node) (get names new)) (same_test new)

-- what stands under a path then stood there before
pub remove_was : (names : Names) (gone path : Path) (n : ℕ) → get (remove names gone) path ≡ Some n → get names path ≡ Some n
remove_was names gone path n e =
    elim (is_same_path path gone) as (λ b. cond b None (get names path) ≡ Some n → get names path ≡ Some n) [
      | true ↦ λ k. absurd cc
      | false ↦ λ k. k
    ] (sym (get-remove paths_total names gone path) ∙ e)

-- every other path keeps its node
pub remove_other : (names : Names) (gone path : Path) → path ≢ gone → get (remove names gone) path ≡ get names path
remove_other names gone path ne = get-remove paths_total names gone path ∙ ap (λ b. cond b None (get names path)) (other_test path gone ne)

-- nothing stands where a name was taken away
pub remove_same : (names : Names) (path : Path) → get (remove names path) path ≡ None
remove_same names path = get-remove paths_total names path path ∙ ap (λ b. cond b None (get names path)) (same_test path)
