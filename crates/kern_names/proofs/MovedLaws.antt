-- A name that goes to another place.
use Rattle.std.proofs.Common.{◌≡◌, ◌≢◌, ℕ, List, [], ◌∷◌, ◌++◌, Option, None, Some, refl, ap, sym, subst, ◌∙◌, ◌⊎◌, inl, inr}
use Rattle.std.specs.Prelude.{IsSome}
use Rattle.std.proofs.lemmas.Bool.{cases_eq}
use Rattle.std.proofs.lemmas.List.{append_cancel_right}
use Rattle.std.specs.FinMap.{get}
use Rattle.kern_model.specs.Name.{Path, Names, name_count, renamed}
use Rattle.kern_model.specs.State.{root}
use Rattle.kern_model.proofs.BelowLaws.{get_elsewhere, get_old, get_new}
use Rattle.kern_names.specs.Edges.{Edges, Parents, step, resolve, HasPath, IsTree}
use Rattle.kern_names.proofs.CountLaws.{count_renamed}
use Rattle.kern_names.proofs.ShownLaws.{below_cases, not_child, not_longer, none_below, none_some, same_node, nothing, apart}

module _ (edge after : Edges) (up parents : Parents) (tree : IsTree edge up) (from to node : ℕ) (old_name new_name : List ℕ) (old_path new_path : Path)
    (at : resolve edge old_path ≡ Some from) (into : resolve edge new_path ≡ Some to) (within : IsSome (up from)) (under : IsSome (up to))
    (there : edge from old_name ≡ Some node) (free : edge to new_name ≡ None) (outside : (r : Path) → new_path ≢ r ++ old_name ∷ old_path)
    (gone : after from old_name ≡ None) (come : after to new_name ≡ Some node)
    (kept : (d : ℕ) (c : List ℕ) → ((d ≡ from) × (c ≡ old_name) → ⊥) → ((d ≡ to) × (c ≡ new_name) → ⊥) → after d c ≡ edge d c)
    (up_kept : (n : ℕ) → n ≢ node → parents n ≡ up n) (up_plain : up node ≡ None → parents node ≡ None) (up_moved : IsSome (up node) → parents node ≡ Some to) where
  abbrev old : Path
  old = old_name ∷ old_path

  abbrev new : Path
  new = new_name ∷ new_path

  stood : resolve edge old ≡ Some node
  stood = ap (λ o. step edge o old_name) at ∙ there

  new_free : (r : Path) → resolve edge (r ++ new) ≡ None
  new_free r = none_below edge r new (ap (λ o. step edge o new_name) into ∙ free)

  -- a path that is below neither has what it had
  elsewhere : (p : Path) → ((r : Path) → p ≢ r ++ old) → ((r : Path) → p ≢ r ++ new) → resolve after p ≡ resolve edge p
  elsewhere [] a b = refl
  elsewhere (c ∷ q) a b =
      let here : resolve after q ≡ resolve edge q = elsewhere q (λ r e. a (c ∷ r) (ap (λ (s : Path). c ∷ s) e)) (λ r e. b (c ∷ r) (ap (λ (s : Path). c ∷ s) e)) in
      elim (resolve edge q) as (λ o. resolve edge q ≡ o → resolve after (c ∷ q) ≡ resolve edge (c ∷ q)) [
        | None ↦ λ e. ap (λ o. step after o c) (here ∙ e) ∙ sym (ap (λ o. step edge o c) e)
        | Some d ↦ λ e.
            let same : after d c ≡ edge d c = kept d c
            (λ (h : (d ≡ from) × (c ≡ old_name)). let k : q ≡ old_path = tree.once q old_path from (e ∙ ap (λ (m : ℕ). Some m) h.0) at within in a [] (λ i. h.1 i ∷ k i))
            (λ (h : (d ≡ to) × (c ≡ new_name)). let k : q ≡ new_path = tree.once q new_path to (e ∙ ap (λ (m : ℕ). Some m) h.0) into under in b [] (λ i. h.1 i ∷ k i)) in
            ap (λ o. step after o c) (here ∙ e) ∙ same ∙ sym (ap (λ o. step edge o c) e)
      ] refl

  -- nothing is left below the old path
  old_gone : (r : Path) → resolve after (r ++ old) ≡ None
  old_gone [] =
      let here : resolve after old_path ≡ resolve edge old_path = elsewhere old_path (λ r. not_longer old_path r old_name)
      (λ r e. none_some (sym (new_free r) ∙ ap (resolve edge) (sym e) ∙ at)) in
      ap (λ o. step after o old_name) (here ∙ at) ∙ gone
  old_gone (c ∷ r) = ap (λ o. step after o c) (old_gone r)

  into_after : resolve after new_path ≡ Some to
  into_after = elsewhere new_path outside (λ r. not_longer new_path r new_name) ∙ into

  -- what was below the old path is below the new one
  new_has : (r : Path) → resolve after (r ++ new) ≡ resolve edge (r ++ old)
  new_has [] = ap (λ o. step after o new_name) into_after ∙ come ∙ sym stood
  new_has (c ∷ r) =
      elim (resolve edge (r ++ old)) as (λ o. resolve edge (r ++ old) ≡ o → resolve after (c ∷ (r ++ new)) ≡ resolve edge (c ∷ (r ++ old))) [
        | None ↦ λ e. ap (λ o. step after o c) (new_has r ∙ e) ∙ sym (ap (λ o. step edge o c) e)
        | Some d ↦ λ e.
            let same : after d c ≡ edge d c = kept d c
            (λ (h : (d ≡ from) × (c ≡ old_name)). not_longer old_path r old_name (sym (tree.once (r ++ old) old_path from (e ∙ ap (λ (m : ℕ). Some m) h.0) at within)))
            (λ (h : (d ≡ to) × (c ≡ new_name)). outside r (sym (tree.once (r ++ old) new_path to (e ∙ ap (λ (m : ℕ). Some m) h.0) into under))) in
            ap (λ o. step after o c) (new_has r ∙ e) ∙ same ∙ sym (ap (λ o. step edge o c) e)
      ] refl

  new_apart : (r : Path) → new ≢ r ++ old
  new_apart [] e = none_some (sym (new_free []) ∙ ap (resolve edge) e ∙ stood)
  new_apart (c ∷ r) e = outside r (let k : new_path ≡ r ++ old = cc in k)

  old_apart : (r : Path) → old ≢ r ++ new
  old_apart r e = none_some (sym (new_free r) ∙ ap (resolve edge) (sym e) ∙ stood)

  -- each node has as many names as before
  pub names_counted : (names : Names) → ((p : Path) → get names p ≡ resolve edge p) → (n : ℕ) → name_count (renamed names old new) n ≡ name_count names n
  names_counted names same = count_renamed old new new_apart old_apart names (λ r. same (r ++ new) ∙ new_free r)

  -- the names after the rename are what stands under each path
  pub names_moved : (names : Names) → ((p : Path) → get names p ≡ resolve edge p) → (p : Path) → get (renamed names old new) p ≡ resolve after p
  names_moved names same p = elim (below_cases new p) [
    | inl b ↦ ap (get (renamed names old new)) b.1 ∙ get_new old new new_apart old_apart names (λ r. same (r ++ new) ∙ new_free r) b.0
        ∙ same (b.0 ++ old) ∙ sym (new_has b.0) ∙ ap (resolve after) (sym b.1)
    | inr b ↦ elim (below_cases old p) [
      | inl a ↦ ap (get (renamed names old new)) a.1 ∙ get_old old new new_apart old_apart names a.0 ∙ sym (old_gone a.0) ∙ ap (resolve after) (sym a.1)
      | inr a ↦ get_elsewhere old new new_apart old_apart names p a b ∙ same p ∙ sym (elsewhere p a b)
    ]
  ]

  -- what stands under a path stood below the old one, or under the same
  record IsMoved (p : Path) (n : ℕ) : Type 0 where
    rest : Path
    is : p ≡ rest ++ new
    before : resolve edge (rest ++ old) ≡ Some n

  record IsElsewhere (p : Path) (n : ℕ) : Type 0 where
    far : (r : Path) → p ≢ r ++ old
    before : resolve edge p ≡ Some n

  came : (p : Path) (n : ℕ) → resolve after p ≡ Some n → IsMoved p n ⊎ IsElsewhere p n
  came p n e = elim (below_cases new p) [
    | inl b ↦ inl (record { rest = b.0; is = b.1; before = sym (new_has b.0) ∙ ap (resolve after) (sym b.1) ∙ e })
    | inr b ↦ elim (below_cases old p) [
      | inl a ↦ absurd (none_some (sym (old_gone a.0) ∙ ap (resolve after) (sym a.1) ∙ e))
      | inr a ↦ inr (record { far = a; before = sym (elsewhere p a b) ∙ e })
    ]
  ]

  once_from : (p q : Path) (n : ℕ) → IsMoved p n ⊎ IsElsewhere p n → IsMoved q n ⊎ IsElsewhere q n → IsSome (up n) → p ≡ q
  once_from p q n (inl a) (inl b) some =
      a.is ∙ ap (λ (r : Path). r ++ new) (append_cancel_right a.rest b.rest old (tree.once (a.rest ++ old) (b.rest ++ old) n a.before b.before some)) ∙ sym b.is
  once_from p q n (inl a) (inr b) some = absurd (b.far a.rest (tree.once q (a.rest ++ old) n b.before a.before some))
  once_from p q n (inr a) (inl b) some = absurd (a.far b.rest (tree.once p (b.rest ++ old) n a.before b.before some))
  once_from p q n (inr a) (inr b) some = tree.once p q n a.before b.before some

  -- what was no directory is none
  before_by : (n : ℕ) (o : Option ℕ) → up n ≡ o → IsSome (parents n) → IsSome (up n)
  before_by n (Some d) e some = subst (λ (o : Option ℕ). IsSome o) (sym e) refl
  before_by n None e some = elim (cases_eq n node) [
    | inl same ↦ (let none : parents n ≡ None = ap parents same ∙ up_plain (ap up (sym same) ∙ e) in absurd (nothing (parents n) none some))
    | inr ne ↦ (let none : parents n ≡ None = up_kept n ne ∙ e in absurd (nothing (parents n) none some))
  ]

  before_some : (n : ℕ) → IsSome (parents n) → IsSome (up n)
  before_some n some = before_by n (up n) refl some

  after_by : (n : ℕ) (o : Option ℕ) → up n ≡ o → parents n ≡ None → up n ≡ None
  after_by n None e none = e
  after_by n (Some d) e none = elim (cases_eq n node) [
    | inl same ↦ absurd (none_some (sym none ∙ ap parents same ∙ up_moved (subst (λ (o : Option ℕ). IsSome o) (sym (ap up (sym same) ∙ e)) refl)))
    | inr ne ↦ sym (up_kept n ne) ∙ none
  ]

  at_old : (r : Path) → resolve edge (r ++ old) ≡ Some node → IsSome (up node) → r ++ old ≡ old
  at_old r e some = tree.once (r ++ old) old node e stood some

  -- a directory that stood elsewhere
  above_elsewhere : (c : List ℕ) (p : Path) (n : ℕ) → ((r : Path) → c ∷ p ≢ r ++ old) → resolve edge (c ∷ p) ≡ Some n → IsSome (up n) → parents n ≡ resolve after p
  above_elsewhere c p n far e some =
      let other : n ≢ node = λ same. far [] (tree.once (c ∷ p) old n e (stood ∙ ap (λ (m : ℕ). Some m) (sym same)) some) in
      up_kept n other ∙ tree.above c p n e some
      ∙ sym (elsewhere p (λ r s. far (c ∷ r) (ap (λ (q : Path). c ∷ q) s)) (λ r s. none_some (sym (ap (λ o. step edge o c) (new_free r)) ∙ ap (λ (q : Path). step edge (resolve edge q) c) (sym s) ∙ e)))

  -- a directory that stood below the old path
  above_moved : (c : List ℕ) (p : Path) (n : ℕ) (rest : Path) → c ∷ p ≡ rest ++ new → resolve edge (rest ++ old) ≡ Some n → IsSome (up n) → parents n ≡ resolve after p
  above_moved c p n [] is e some =
      let same : n ≡ node = same_node (sym e ∙ stood) in
      let above : p ≡ new_path = cc in
      ap parents same ∙ up_moved (subst (λ (m : ℕ). IsSome (up m)) same some) ∙ sym (ap (resolve after) above ∙ into_after)
  above_moved c p n (d ∷ rest) is e some =
      let above : p ≡ rest ++ new = cc in
      let other : n ≢ node = λ same. not_longer_by rest d (tree.once (d ∷ (rest ++ old)) old n e (stood ∙ ap (λ (m : ℕ). Some m) (sym same)) some) in
      up_kept n other ∙ tree.above d (rest ++ old) n e some ∙ sym (ap (resolve after) above ∙ new_has rest)
    where
      not_longer_by : (r : Path) (x : List ℕ) → x ∷ (r ++ old) ≢ old
      not_longer_by r x same = not_longer old_path r old_name (let k : r ++ old ≡ old_path = cc in sym k)

  above_from : (c : List ℕ) (p : Path) (n : ℕ) → IsMoved (c ∷ p) n ⊎ IsElsewhere (c ∷ p) n → IsSome (up n) → parents n ≡ resolve after p
  above_from c p n (inl m) some = above_moved c p n m.rest m.is m.before some
  above_from c p n (inr m) some = above_elsewhere c p n m.far m.before some

  place_from : (n : ℕ) (p : Path) → resolve edge p ≡ Some n → HasPath after n
  place_from n p e = elim (below_cases old p) [
    | inl a ↦ record { path = a.0 ++ new; leads = new_has a.0 ∙ ap (resolve edge) (sym a.1) ∙ e }
    | inr a ↦ record { path = p; leads = elsewhere p a (λ r s. none_some (sym (new_free r) ∙ ap (resolve edge) (sym s) ∙ e)) ∙ e }
  ]

  apart_root : root ≢ node
  apart_root e =
      let top : IsSome (up root) = subst (λ (o : Option ℕ). IsSome o) (sym tree.top) refl in
      let k : [] ≡ old = tree.once [] old root refl (stood ∙ ap (λ (m : ℕ). Some m) (sym e)) top in cc

  -- directories with the name in its new place are a tree
  pub tree_moved : IsTree after parents
  tree_moved = record {
    top = up_kept root apart_root ∙ tree.top;
    plain = λ n c none. (let before : up n ≡ None = after_by n (up n) refl none in
        kept n c (λ k. apart up n from before within k.0) (λ k. apart up n to before under k.0) ∙ tree.plain n c before);
    once = λ p q n hp hq some. once_from p q n (came p n hp) (came q n hq) (before_some n some);
    above = λ c p n h some. above_from c p n (came (c ∷ p) n h) (before_some n some);
    placed = λ n some. (let place = tree.placed n (before_some n some) in place_from n place.path place.leads);
  }
