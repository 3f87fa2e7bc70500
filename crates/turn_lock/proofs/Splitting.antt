-- Splitting a pass off another keeps the rule.
use Rattle.std.proofs.Common.{◌≡◌, ◌≢◌, ℕ, ◌+◌, ◌<◌, List, [], ◌∷◌, ◌++◌, length, set, refl, sym, ap, ◌∙◌, subst, ⊎_elim, inl, inr, arith, length-append}
use Rattle.std.proofs.lemmas.List.{append_assoc}
use mathlib.Core.Option.{some}
use lib.ListN.{get_elem?}
use Rattle.atomic_table.specs.Table.{State, Splits}
use Rattle.atomic_table.proofs.Lists.{at_longer}
use Rattle.turn_lock.specs.declared.view.Player.{Player}
use Rattle.turn_lock.specs.declared.view.Stage.TheVariants.{Idle, Spent}
use Rattle.turn_lock.specs.declared.view.View.{View}
use Rattle.turn_lock.specs.declared.view.Slot.{Slot}
use Rattle.turn_lock.specs.History.{calls_by}
use Rattle.turn_lock.specs.Passes.{Has, counted, child}
use Rattle.turn_lock.specs.Rule.{Fits, IsAt, Apart, Below, Kept, idle}
use Rattle.turn_lock.proofs.Names.{snoc_extends}
use Rattle.turn_lock.proofs.Views.{kept_views, at_here, at_end, Covers, Names, apart_from, below_from, unknown_from, same_set, back_set, each_set}

module _ {O E R : Type 0} (step : O → E → R → O → Type 0) (o : O) where
  abbrev S : Type 0
  S = State (Slot O E R) (View O E R)

  pub splits : (id : ℕ) (v : View O E R) → v.stage ≡ Idle → Splits (Kept step o) id v (idle (counted v.known)) (idle (child v.known))
  splits id v stage s h at = kept
    where
      here : IsAt s.views id v
      here = (at, λ e. absurd (cc))

      f : Fits o h.history h.now h.lock h.holder id v
      f = h.seats id v here

      w : View O E R
      w = idle (counted v.known)

      c : View O E R
      c = idle (child v.known)

      live : w.stage ≢ Spent
      live e = absurd (cc)

      there : Covers w.known v.known
      there m (inl e) = (v.known.own, inl refl, ap (λ (z : Player E R). z.name) e, (let k : m.splits ≡ v.known.own.splits + 1 = ap (λ (z : Player E R). z.splits) e in omega arith))
      there m (inr i) = (m, inr i, refl, omega arith)

      back : Names v.known w.known
      back m (inl e) = (w.known.own, inl refl, ap (λ (z : Player E R). z.name) e)
      back m (inr i) = (m, inr i, refl)

      one : List (View O E R)
      one = set s.views id w

      fresh : (j : ℕ) (u : View O E R) → IsAt s.views j u → (a : Player E R) → Has u.known a → a.name ≢ v.known.own.name ++ v.known.own.splits ∷ []
      fresh j u p a ha e = absurd (let lt = h.below id j v u here p v.known.own a (inl refl) ha v.known.own.splits [] e in omega arith)

      new_calls : (m : Player E R) → Has c.known m → calls_by m.name h.history ≡ m.calls
      new_calls m (inl e) = ap (λ (z : Player E R). calls_by z.name h.history) e ∙ h.unknown (v.known.own.name ++ v.known.own.splits ∷ []) fresh ∙ sym (ap (λ (z : Player E R). z.calls) e)
      new_calls m (inr i) = absurd i

      own_calls : (m : Player E R) → Has w.known m → calls_by m.name h.history ≡ m.calls
      own_calls m (inl e) = ap (λ (z : Player E R). calls_by z.name h.history) e ∙ f.calls v.known.own (inl refl) ∙ sym (ap (λ (z : Player E R). z.calls) e)
      own_calls m (inr i) = f.calls m (inr i)

      mine : Fits o h.history h.now h.lock h.holder id w
      mine = record { opened = f.opened; seen = f.seen; calls = own_calls; own = f.own; turn = λ p t. absurd (cc) }

      theirs : (j : ℕ) → Fits o h.history h.now h.lock h.holder j c
      theirs j = record { opened = f.opened; seen = f.seen; calls = new_calls; own = λ m i. absurd i; turn = λ p t. absurd (cc) }

      seats : (j : ℕ) (u : View O E R) → IsAt (one ++ c ∷ []) j u → Fits o h.history h.now h.lock h.holder j u
      seats j u p =
          ⊎_elim
          (λ (x : get_elem? one j ≡ some u). each_set s.views id w (λ k z. Fits o h.history h.now h.lock h.holder k z) (λ k z ne q. h.seats k z q) mine j u (x, p.1))
          (λ (x : (j ≡ length one) × (c ≡ u)). subst (λ z. Fits o h.history h.now h.lock h.holder j z) x.1 (theirs j))
          (at_end one c u j p.0)

      new_name : (m : Player E R) → Has c.known m → m.name ≡ v.known.own.name ++ v.known.own.splits ∷ []
      new_name m (inl e) = ap (λ (z : Player E R). z.name) e
      new_name m (inr i) = absurd i

      new_count : (m : Player E R) → Has c.known m → m.splits ≡ 0
      new_count m (inl e) = ap (λ (z : Player E R). z.splits) e
      new_count m (inr i) = absurd i

      fresh_there : (j : ℕ) (u : View O E R) → IsAt one j u → (a : Player E R) → Has u.known a → a.name ≢ v.known.own.name ++ v.known.own.splits ∷ []
      fresh_there j u p a ha e =
          let x = same_set s.views id v w here there j u p in
          let y = x.2 a ha in
          fresh j x.0 x.1 y.0 y.1 (sym y.2 ∙ e)

      apart : Apart (one ++ c ∷ [])
      apart j k x y ne p q a b ha hb =
          ⊎_elim
          (λ (i : get_elem? one j ≡ some x).
          ⊎_elim
          (λ (l : get_elem? one k ≡ some y). apart_from one s.views (same_set s.views id v w here there) h.apart j k x y ne (i, p.1) (l, q.1) a b ha hb)
          (λ (l : (k ≡ length one) × (c ≡ y)). λ e. fresh_there j x (i, p.1) a ha (e ∙ new_name b (subst (λ z. Has z.known b) (sym l.1) hb)))
          (at_end one c y k q.0))
          (λ (i : (j ≡ length one) × (c ≡ x)).
          ⊎_elim
          (λ (l : get_elem? one k ≡ some y). λ e. fresh_there k y (l, q.1) b hb (sym e ∙ new_name a (subst (λ z. Has z.known a) (sym i.1) ha)))
          (λ (l : (k ≡ length one) × (c ≡ y)). absurd (ne (i.0 ∙ sym l.0)))
          (at_end one c y k q.0))
          (at_end one c x j p.0)

      -- a pass with the name of this one is this one
      counts : (j : ℕ) (u : View O E R) → IsAt one j u → (a : Player E R) → Has u.known a → a.name ≡ v.known.own.name → v.known.own.splits < a.splits
      counts = each_set s.views id w (λ j u. (a : Player E R) → Has u.known a → a.name ≡ v.known.own.name → v.known.own.splits < a.splits)
          (λ j u ne p a ha e. absurd (h.apart j id u v ne p here a v.known.own ha (inl refl) e))
          own_count
        where
          own_count : (a : Player E R) → Has w.known a → a.name ≡ v.known.own.name → v.known.own.splits < a.splits
          own_count a (inl e) n = let k : a.splits ≡ v.known.own.splits + 1 = ap (λ (z : Player E R). z.splits) e in omega arith
          own_count a (inr i) n = absurd (f.own a i n)

      below_new : (j : ℕ) (x : View O E R) → IsAt one j x → (a : Player E R) → Has x.known a → (n : ℕ) (more : List ℕ) → v.known.own.name ++ v.known.own.splits ∷ [] ≡ a.name ++ n ∷ more → n < a.splits
      below_new j x p a ha n more e =
          ⊎_elim
          (λ (z : (a.name ≡ v.known.own.name) × (n ≡ v.known.own.splits)). let k = z.1 in let l = counts j x p a ha z.0 in omega arith)
          (λ (z : (rest : List ℕ) × (v.known.own.name ≡ a.name ++ n ∷ rest)). below_from one s.views (same_set s.views id v w here there) h.below j id x w p (at_here s.views id v w at, live) a w.known.own ha (inl refl) n z.0 z.1)
          (snoc_extends a.name v.known.own.name v.known.own.splits n more e)

      -- no name extends the new one
      above_new : (k : ℕ) (y : View O E R) → IsAt one k y → (b : Player E R) → Has y.known b → (n : ℕ) (more : List ℕ) → b.name ≡ (v.known.own.name ++ v.known.own.splits ∷ []) ++ n ∷ more → ⊥
      above_new k y q b hb n more e =
          let x = same_set s.views id v w here there k y q in
          let z = x.2 b hb in
          let lt = h.below id k v x.0 here x.1 v.known.own z.0 (inl refl) z.1 v.known.own.splits (n ∷ more) (sym z.2 ∙ e ∙ append_assoc v.known.own.name (v.known.own.splits ∷ []) (n ∷ more)) in
          absurd (omega arith)

      below : Below (one ++ c ∷ [])
      below j k x y p q a b ha hb n more e =
          ⊎_elim
          (λ (i : get_elem? one j ≡ some x).
          ⊎_elim
          (λ (l : get_elem? one k ≡ some y). below_from one s.views (same_set s.views id v w here there) h.below j k x y (i, p.1) (l, q.1) a b ha hb n more e)
          (λ (l : (k ≡ length one) × (c ≡ y)). below_new j x (i, p.1) a ha n more (sym (new_name b (subst (λ z. Has z.known b) (sym l.1) hb)) ∙ e))
          (at_end one c y k q.0))
          (λ (i : (j ≡ length one) × (c ≡ x)).
          let named : a.name ≡ v.known.own.name ++ v.known.own.splits ∷ [] = new_name a (subst (λ z. Has z.known a) (sym i.1) ha) in
          let e' : b.name ≡ (v.known.own.name ++ v.known.own.splits ∷ []) ++ n ∷ more = e ∙ ap (λ l. l ++ n ∷ more) named in
          ⊎_elim
          (λ (l : get_elem? one k ≡ some y). absurd (above_new k y (l, q.1) b hb n more e'))
          (λ (l : (k ≡ length one) × (c ≡ y)). absurd (let t = sym (new_name b (subst (λ z. Has z.known b) (sym l.1) hb)) ∙ e' in
          let u = ap length t in omega (arith, length-append (v.known.own.name ++ v.known.own.splits ∷ []) (n ∷ more))))
          (at_end one c y k q.0))
          (at_end one c x j p.0)

      kept : Kept step o record { words = s.words; homes = s.homes; views = set s.views id w ++ c ∷ [] }
      kept = kept_views step o s h (set s.views id w ++ c ∷ []) seats apart below
          (unknown_from (one ++ c ∷ []) s.views h.history (λ j u p. let x = back_set s.views id v w here live back j u p in (x.0, (at_longer one (c ∷ []) j x.0 x.1.0, x.1.1), x.2)) h.unknown)
