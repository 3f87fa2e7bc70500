-- Joining a pass into another keeps the rule.
use Rattle.std.proofs.Common.{◌≡◌, ◌≢◌, ◌⊎◌, ℕ, List, set, refl, sym, ap, ◌∙◌, subst, ⊎_elim, inl, inr}
use mathlib.Core.Logic.{dite}
use native.Mathlib.Decide.{ℕ_discrete}
use mathlib.Core.Option.{some, some-injective}
use lib.ListN.{get_elem?}
use Rattle.atomic_table.specs.Table.{State, Joins}
use Rattle.atomic_table.proofs.Lists.{at_set, set_else}
use Rattle.turn_lock.specs.declared.view.Player.{Player}
use Rattle.turn_lock.specs.declared.view.Stage.TheVariants.{Idle, Spent}
use Rattle.turn_lock.specs.declared.view.View.{View}
use Rattle.turn_lock.specs.declared.view.Slot.{Slot}
use Rattle.turn_lock.specs.Passes.{IsIn, Has, joining}
use Rattle.turn_lock.specs.Rule.{Fits, IsAt, Kept, idle, spent}
use Rattle.turn_lock.proofs.Names.{in_append, in_left, in_right, longer_begins}
use Rattle.turn_lock.proofs.Views.{kept_views, at_here}

module _ {O E R : Type 0} (step : O → E → R → O → Type 0) (o : O) where
  abbrev S : Type 0
  S = State (Slot O E R) (View O E R)

  pub joins : (id other : ℕ) (v w : View O E R) → v.stage ≡ Idle → w.stage ≡ Idle → Joins (Kept step o) id v other w (idle (joining v.known w.known)) spent
  joins id other v w stage stage' s h at apart' at' = kept
    where
      both : View O E R
      both = idle (joining v.known w.known)

      one : List (View O E R)
      one = set s.views id both

      two : List (View O E R)
      two = set one other spent

      here : IsAt s.views id v
      here = (at, λ e. absurd (cc))

      there : IsAt s.views other w
      there = (sym (set_else s.views id other both apart') ∙ at', λ e. absurd (cc))

      f : Fits o h.history h.now h.lock h.holder id v
      f = h.seats id v here

      g : Fits o h.history h.now h.lock h.holder other w
      g = h.seats other w there

      live : both.stage ≢ Spent
      live e = absurd (cc)

      -- a seat afterwards is the one that took the other in, or neither of them
      after : (j : ℕ) (u : View O E R) → IsAt two j u → ((j ≡ id) × (both ≡ u)) ⊎ ((j ≢ id) × (j ≢ other) × IsAt s.views j u)
      after j u p =
          ⊎_elim
          (λ (x : (j ≡ other) × (spent ≡ u)). absurd (p.1 (ap (λ (z : View O E R). z.stage) (sym x.1))))
          (λ (x : (j ≢ other) × (get_elem? one j ≡ some u)).
          ⊎_elim
          (λ (y : (j ≡ id) × (both ≡ u)). inl y)
          (λ (y : (j ≢ id) × (get_elem? s.views j ≡ some u)). inr (y.0, x.0, (y.1, p.1)))
          (at_set s.views id j both u x.1))
          (at_set one other j spent u p.0)

      of_two : (m : Player E R) → Has both.known m → Has v.known m ⊎ Has w.known m
      of_two m (inl e) = inl (inl e)
      of_two m (inr (inl e)) = inr (inl e)
      of_two m (inr (inr i)) = ⊎_elim (λ x. inr (inr x)) (λ x. inl (inr x)) (in_append m w.known.joined v.known.joined i)

      from_left : (m : Player E R) → Has v.known m → Has both.known m
      from_left m (inl e) = inl e
      from_left m (inr i) = inr (inr (in_right m w.known.joined v.known.joined i))

      from_right : (m : Player E R) → Has w.known m → Has both.known m
      from_right m (inl e) = inr (inl e)
      from_right m (inr i) = inr (inr (in_left m w.known.joined v.known.joined i))

      -- where a pass of the table stood before
      source : (j : ℕ) (u : View O E R) → IsAt two j u → (m : Player E R) → Has u.known m → (i : ℕ) × (x : View O E R) × IsAt s.views i x × Has x.known m × ((i ≡ j) ⊎ ((j ≡ id) × (i ≡ other)))
      source j u p m hm =
          ⊎_elim
          (λ (x : (j ≡ id) × (both ≡ u)).
          ⊎_elim
          (λ (l : Has v.known m). (id, v, here, l, inl (sym x.0)))
          (λ (r : Has w.known m). (other, w, there, r, inr (x.0, refl)))
          (of_two m (subst (λ z. Has z.known m) (sym x.1) hm)))
          (λ (x : (j ≢ id) × (j ≢ other) × IsAt s.views j u). (j, u, x.2, hm, inl refl))
          (after j u p)

      not_other : (j : ℕ) (u : View O E R) → IsAt two j u → j ≢ other
      not_other j u p e = ⊎_elim (λ (x : (j ≡ id) × (both ≡ u)). apart' (sym e ∙ x.0)) (λ (x : (j ≢ id) × (j ≢ other) × IsAt s.views j u). x.1 e) (after j u p)

      differs : (i k j l : ℕ) → j ≢ l → j ≢ other → l ≢ other → ((i ≡ j) ⊎ ((j ≡ id) × (i ≡ other))) → ((k ≡ l) ⊎ ((l ≡ id) × (k ≡ other))) → i ≢ k
      differs i k j l ne a b (inl x) (inl y) e = ne (sym x ∙ e ∙ y)
      differs i k j l ne a b (inl x) (inr y) e = a (sym x ∙ e ∙ y.1)
      differs i k j l ne a b (inr x) (inl y) e = b (sym y ∙ sym e ∙ x.1)
      differs i k j l ne a b (inr x) (inr y) e = ne (x.0 ∙ sym y.0)

      mine : Fits o h.history h.now h.lock h.holder id both
      mine = record {
        opened = f.opened;
        seen = longer_begins h.history v.known.seen w.known.seen f.seen g.seen;
        calls = λ m hm. ⊎_elim (λ x. f.calls m x) (λ x. g.calls m x) (of_two m hm);
        own = not_own;
        turn = λ p t. absurd (cc);
      }
        where
          not_own : (m : Player E R) → IsIn m both.known.joined → m.name ≢ v.known.own.name
          not_own m (inl e) = h.apart other id w v apart' there here m v.known.own (inl e) (inl refl)
          not_own m (inr i) = ⊎_elim (λ x. h.apart other id w v apart' there here m v.known.own (inr x) (inl refl)) (λ x. f.own m x) (in_append m w.known.joined v.known.joined i)

      kept : Kept step o record { words = s.words; homes = s.homes; views = two }
      kept = kept_views step o s h two
          (λ j u p. ⊎_elim
          (λ (x : (j ≡ id) × (both ≡ u)). subst (λ k. Fits o h.history h.now h.lock h.holder k u) (sym x.0) (subst (λ z. Fits o h.history h.now h.lock h.holder id z) x.1 mine))
          (λ (x : (j ≢ id) × (j ≢ other) × IsAt s.views j u). h.seats j u x.2)
          (after j u p))
          (λ j k x y ne p q a b ha hb.
          let l = source j x p a ha in
          let r = source k y q b hb in
          h.apart l.0 r.0 l.1 r.1 (differs l.0 r.0 j k ne (not_other j x p) (not_other k y q) l.4 r.4) l.2 r.2 a b l.3 r.3)
          (λ j k x y p q a b ha hb n more e.
          let l = source j x p a ha in
          let r = source k y q b hb in
          h.below l.0 r.0 l.1 r.1 l.2 r.2 a b l.3 r.3 n more e)
          (λ name none. h.unknown name (λ j u p a ha. dite (ℕ_discrete j other)
          (λ e.
          let same : w ≡ u = some-injective w u (sym there.0 ∙ subst (λ k. get_elem? s.views k ≡ some u) e p.0) in
          none id both at_both a (from_right a (subst (λ z. Has z.known a) (sym same) ha)))
          (λ n. dite (ℕ_discrete j id)
          (λ e.
          let same : v ≡ u = some-injective v u (sym at ∙ subst (λ k. get_elem? s.views k ≡ some u) e p.0) in
          none id both at_both a (from_left a (subst (λ z. Has z.known a) (sym same) ha)))
          (λ ne. none j u (set_else one other j spent n ∙ set_else s.views id j both ne ∙ p.0, p.1) a ha))))
        where
          at_both : IsAt two id both
          at_both = (set_else one other id spent (λ e. apart' (sym e)) ∙ at_here s.views id v both at, live)
