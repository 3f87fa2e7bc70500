-- What stays true of the passes over a step.
use Rattle.std.proofs.Common.{◌≡◌, ◌≢◌, ◌⊎◌, ℕ, zero, suc, ◌≤◌, List, [], ◌∷◌, ◌++◌, length, set, refl, sym, ap, ◌∙◌, subst, ⊎_elim, inl, inr, arith}
use mathlib.Core.Logic.{dite}
use mathlib.Core.Option.{some, some-injective, some-ne-none}
use native.Mathlib.Decide.{ℕ_discrete}
use lib.ListN.{get_elem?}
use Rattle.atomic_table.proofs.Lists.{at_set, set_else}
use Rattle.std.proofs.lemmas.List.{append-nil, append_assoc}
use Rattle.atomic_table.specs.Table.{State}
use Rattle.turn_lock.specs.declared.view.Entry.{Entry}
use Rattle.turn_lock.specs.declared.view.Player.{Player}
use Rattle.turn_lock.specs.declared.view.Known.{Known}
use Rattle.turn_lock.specs.declared.view.Stage.TheVariants.{Spent}
use Rattle.turn_lock.specs.declared.view.View.{View}
use Rattle.turn_lock.specs.declared.view.Slot.{Slot}
use Rattle.turn_lock.specs.Passes.{Has, HasName, IsWhole}
use Rattle.turn_lock.specs.Rule.{Fits, IsAt, Apart, Below, Unknown, Kept}

-- the last of a list that is one longer
pub at_end : {A : Type 0} (l : List A) (a b : A) (j : ℕ) → get_elem? (l ++ a ∷ []) j ≡ some b → (get_elem? l j ≡ some b) ⊎ ((j ≡ length l) × (a ≡ b))
at_end [] a b zero e = inr (refl, some-injective a b e)
at_end [] a b (suc j) e = absurd (some-ne-none b (sym e))
at_end (x ∷ xs) a b zero e = inl e
at_end (x ∷ xs) a b (suc j) e = ⊎_elim (λ h. inl h) (λ h. inr (ap suc h.0, h.1)) (at_end xs a b j e)

pub at_here : {A : Type 0} (l : List A) (i : ℕ) (a w : A) → get_elem? l i ≡ some a → get_elem? (set l i w) i ≡ some w
at_here [] i a w e = absurd (some-ne-none a (sym e))
at_here (x ∷ xs) zero a w e = refl
at_here (x ∷ xs) (suc i) a w e = at_here xs i a w e

module _ {O E R : Type 0} where
  -- each pass of the one has the name of a pass of the other, with no smaller count
  abbrev pub Covers : Known O E R → Known O E R → Type 0
  Covers v w = (m : Player E R) → Has v m → (m' : Player E R) × Has w m' × (m.name ≡ m'.name) × (m'.splits ≤ m.splits)

  pub covers_self : (v : Known O E R) → Covers v v
  covers_self v m h = (m, h, refl, omega arith)

  -- each pass of the one has the name of a pass of the other
  abbrev pub Names : Known O E R → Known O E R → Type 0
  Names v w = (m : Player E R) → Has v m → (m' : Player E R) × Has w m' × (m.name ≡ m'.name)

  pub names_self : (v : Known O E R) → Names v v
  names_self v m h = (m, h, refl)

  -- each view of the one table has a view of the other that it is related to
  abbrev pub From : (Known O E R → Known O E R → Type 0) → List (View O E R) → List (View O E R) → Type 0
  From like after before = (j : ℕ) (u : View O E R) → IsAt after j u → (v : View O E R) × IsAt before j v × like u.known v.known

  pub apart_from : (after before : List (View O E R)) → From Covers after before → Apart before → Apart after
  apart_from after before f h j k v w ne p q a b ha hb =
      let x = f j v p in
      let y = f k w q in
      let c = x.2 a ha in
      let d = y.2 b hb in
      λ e. h j k x.0 y.0 ne x.1 y.1 c.0 d.0 c.1 d.1 (sym c.2 ∙ e ∙ d.2)

  pub below_from : (after before : List (View O E R)) → From Covers after before → Below before → Below after
  below_from after before f h j k v w p q a b ha hb n more e =
      let x = f j v p in
      let y = f k w q in
      let c = x.2 a ha in
      let d = y.2 b hb in
      let lt = h j k x.0 y.0 x.1 y.1 c.0 d.0 c.1 d.1 n more (sym d.2 ∙ e ∙ ap (λ l. l ++ n ∷ more) c.2) in
      let le = c.3 in
      omega arith

  -- a name that no pass has afterwards, none had before
  pub unknown_from : (after before : List (View O E R)) (log : List (Entry E R)) → From Names before after → Unknown before log → Unknown after log
  unknown_from after before log f h name none = h name (λ j v p a ha e. let x = f j v p in let c = x.2 a ha in none j x.0 x.1 c.0 c.1 (sym c.2 ∙ e))

  pub set_from : (like : Known O E R → Known O E R → Type 0) (views : List (View O E R)) (id : ℕ) (v w : View O E R) → ((k : Known O E R) → like k k) → IsAt views id v → like w.known v.known → From like (set views id w) views
  set_from like views id v w self at c j u p =
      ⊎_elim
      (λ (x : (j ≡ id) × (w ≡ u)). (v, subst (λ k. IsAt views k v) (sym x.0) at, subst (λ z. like z.known v.known) x.1 c))
      (λ (x : (j ≢ id) × (get_elem? views j ≡ some u)). (u, (x.1, p.1), self u.known))
      (at_set views id j w u p.0)

  pub from_set : (like : Known O E R → Known O E R → Type 0) (views : List (View O E R)) (id : ℕ) (v w : View O E R) → ((k : Known O E R) → like k k) → IsAt views id v → w.stage ≢ Spent → like v.known w.known → From like views (set views id w)
  from_set like views id v w self at live c j u p =
      dite (ℕ_discrete j id)
      (λ e.
      let here : get_elem? (set views id w) id ≡ some w = at_here views id v w at.0 in
      let same : v ≡ u = some-injective v u (sym at.0 ∙ subst (λ k. get_elem? views k ≡ some u) e p.0) in
      (w, (subst (λ k. get_elem? (set views id w) k ≡ some w) (sym e) here, live), subst (λ z. like z.known w.known) same c))
      (λ n. (u, (set_else views id j w n ∙ p.0, p.1), self u.known))

  -- a change that keeps names and counts
  pub same_set : (views : List (View O E R)) (id : ℕ) (v w : View O E R) → IsAt views id v → Covers w.known v.known → From Covers (set views id w) views
  same_set views id v w = set_from Covers views id v w covers_self

  pub back_set : (views : List (View O E R)) (id : ℕ) (v w : View O E R) → IsAt views id v → w.stage ≢ Spent → Names v.known w.known → From Names views (set views id w)
  back_set views id v w = from_set Names views id v w names_self

  -- what holds of each view after one was changed
  pub each_set : (views : List (View O E R)) (id : ℕ) (w : View O E R) (P : ℕ → View O E R → Type 0) → ((j : ℕ) (u : View O E R) → j ≢ id → IsAt views j u → P j u) → P id w
      → (j : ℕ) (u : View O E R) → IsAt (set views id w) j u → P j u
  each_set views id w P others mine j u p =
      ⊎_elim
      (λ (x : (j ≡ id) × (w ≡ u)). subst (λ k. P k u) (sym x.0) (subst (λ z. P id z) x.1 mine))
      (λ (x : (j ≢ id) × (get_elem? views j ≡ some u)). others j u x.0 (x.1, p.1))
      (at_set views id j w u p.0)

  -- all names of the table are names of the whole pass
  pub reaches : (views : List (View O E R)) (id : ℕ) (v : View O E R) → Below views → IsAt views id v → IsWhole v.known → (j : ℕ) (u : View O E R) → IsAt views j u → (a : Player E R) → Has u.known a
      → (more p : List ℕ) → HasName v.known p → a.name ≡ p ++ more → HasName v.known (p ++ more)
  reaches views id v below at whole j u atu a ha [] p h e = subst (HasName v.known) (sym (append-nil p)) h
  reaches views id v below at whole j u atu a ha (k ∷ more) p h e =
      let lt = below id j v u at atu h.0 a h.1 ha k more (e ∙ ap (λ l. l ++ k ∷ more) (sym h.2)) in
      let next : HasName v.known (p ++ k ∷ []) = subst (λ l. HasName v.known (l ++ k ∷ [])) h.2 (whole.1 h.0 k h.1 lt) in
      let same : (p ++ k ∷ []) ++ more ≡ p ++ (k ∷ more) = append_assoc p (k ∷ []) more in
      subst (HasName v.known) same (reaches views id v below at whole j u atu a ha more (p ++ k ∷ []) next (e ∙ sym same))

module _ {O E R : Type 0} (step : O → E → R → O → Type 0) (o : O) where
  -- a step that changes nothing but what passes know
  pub kept_views : (s : State (Slot O E R) (View O E R)) (h : Kept step o s) (views : List (View O E R)) → ((j : ℕ) (u : View O E R) → IsAt views j u → Fits o h.history h.now h.lock h.holder j u)
      → Apart views → Below views → Unknown views h.history → Kept step o record { words = s.words; homes = s.homes; views = views }
  kept_views s h views seats apart below unknown = record {
    history = h.history;
    now = h.now;
    lock = h.lock;
    holder = h.holder;
    runs = h.runs;
    words = h.words;
    bit = h.bit;
    home = h.home;
    out = h.out;
    seats = seats;
    apart = apart;
    below = below;
    unknown = unknown;
  }
