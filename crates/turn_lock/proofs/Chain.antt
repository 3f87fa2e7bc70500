-- The steps of one turn, one after the other.
use Rattle.std.proofs.Common.{◌≡◌, ℕ, ◌+◌, ◌%◌, List, [], ◌∷◌, ◌++◌, refl, sym, ap, ◌∙◌, subst, inl}
use Rattle.std.proofs.lemmas.Option.{same_Some}
use Rattle.atomic_table.specs.Table.{Me, Step, Allows, rest}
use Rattle.turn_lock.specs.declared.view.Known.{Known}
use Rattle.turn_lock.specs.declared.view.Stage.TheVariants.{Idle, Holding}
use Rattle.turn_lock.specs.declared.view.View.{View}
use Rattle.turn_lock.specs.declared.view.Slot.{Slot}
use Rattle.turn_lock.specs.History.{entry, Runs}
use Rattle.turn_lock.specs.Passes.{IsWhole, Closes}
use Rattle.turn_lock.specs.Rule.{Kept, Took, Committed, Freed, holding, idle, called, first_slot, IsOneSlot, Carries, Tells, Played}
use Rattle.turn_lock.proofs.Names.{same_name, calls_snoc}
use Rattle.turn_lock.proofs.Turns.{commits, frees, runs_snoc}

module _ {O E R : Type 0} where
  pub emptied : (c d : List (ℕ × Slot O E R)) (x y : Slot O E R) → c ≡ (0, x) ∷ [] → d ≡ (0, y) ∷ rest c → IsOneSlot d
  emptied c d x y is e = (y, e ∙ ap (λ l. (0, y) ∷ rest l) is)

  pub filled : (c d : List (ℕ × Slot O E R)) (y : Slot O E R) → IsOneSlot c → d ≡ (0, y) ∷ rest c → d ≡ (0, y) ∷ []
  filled c d y one e = e ∙ ap (λ l. (0, y) ∷ rest l) one.1

module _ {O E R : Type 0} (step : O → E → R → O → Type 0) where
  abbrev M : Type 0
  M = Me (Slot O E R) (View O E R)

  -- the object that the seat took is that after the history
  pub same_object : (m n : M) (obj : O) → (t : Took step m n) → Carries n.1 obj → t.1 ≡ obj
  same_object m n obj t k =
      let xy : t.2 ≡ k.0 = same_Some t.2 k.0 (sym (ap (λ (z : M). first_slot z.1) t.4) ∙ ap first_slot k.1) in
      same_Some t.1 obj (sym t.3 ∙ ap (λ (z : Slot O E R). z.object) xy ∙ k.2)

  -- the view of a seat that carries the object of its turn
  has_turn : (m n p : M) (obj : O) → (t : Took step m n) → Carries n.1 obj → p.0 ≡ n.0 → p.0 ≡ holding m.0.known t.0 obj
  has_turn m n p obj t k same = same ∙ ap (λ (z : M). z.0) t.4 ∙ ap (λ z. holding m.0.known t.0 z) (same_object m n obj t k)

  -- the view once the call was counted
  abbrev counted_call : M → O → E → R → View O E R
  counted_call p now e r = record { stage = Holding now; known = called p.0.known e r }

  -- what the call was, as the commit tells it
  told : (st : Step (Slot O E R)) (p q : M) (count : ℕ) (now : O) (e : E) (r : R) → Tells p.1 now e r → Committed st p count q → q ≡ (counted_call p now e r, p.1)
  told st p q count now e r tells k =
      let xy : k.0 ≡ tells.0 = same_Some k.0 tells.0 (sym k.4 ∙ ap first_slot tells.3) in
      let ev : k.1 ≡ tells.1 = same_Some k.1 tells.1 (sym k.6 ∙ ap (λ (z : Slot O E R). z.event) xy ∙ tells.5) in
      let rep : k.2 ≡ tells.2 = same_Some k.2 tells.2 (sym k.7 ∙ ap (λ (z : Slot O E R). z.reply) xy ∙ tells.7) in
      let ob : k.3 ≡ now = same_Some k.3 now (sym k.5 ∙ ap (λ (z : Slot O E R). z.object) xy ∙ tells.4) in
      let ev' : k.1.value ≡ e = ap (λ z. z.value) ev ∙ tells.6 in
      let rep' : k.2.value ≡ r = ap (λ z. z.value) rep ∙ tells.8 in
      k.8 ∙ (λ i. (counted_call p (ob i) (ev' i) (rep' i), p.1))

  pub played_ok : (st : Step (Slot O E R)) (m n p q f : M) (count : ℕ) (obj now : O) (e : E) (r : R) → Took step m n → Carries n.1 obj → p.0 ≡ n.0 → Tells p.1 now e r → step obj e r now → Committed st p count q
      → f ≡ (idle q.0.known, rest q.1) → Played step m.0.known e r f.0.known
  played_ok st m n p q f count obj now e r t k same tells go c is =
      let known = m.0.known in
      let after : Known O E R = called (holding known t.0 obj).known e r in
      let f_is : after ≡ f.0.known =
      sym (ap (λ (z : M). z.0.known) is ∙ ap (λ (z : M). z.0.known) (told st p q count now e r tells c) ∙ ap (λ (v : View O E R). called v.known e r) (has_turn m n p obj t k same)) in
      let new = entry known.own.name e r in
      let h = t.5 in
      subst (λ z. Played step known e r z) f_is (record {
        legal = (now, (h.legal.0, h.legal.1, runs_snoc step h.legal.0 t.1 now t.0 known.own.name e r h.legal.2 (subst (λ z. step z e r now) (sym (same_object m n obj t k)) go)));
        seen = (h.begins.0, ap (λ l. l ++ new ∷ []) h.begins.1);
        own = refl;
        once = calls_snoc known.own.name known.own.name e r t.0 (same_name known.own.name) ∙ ap (λ l. l ++ new ∷ []) (h.calls known.own (inl refl));
        joined = refl;
        opening = refl;
      })

  pub ended : (st : Step (Slot O E R)) (p q f : M) (count : ℕ) (now : O) (e : E) (r : R) → Tells p.1 now e r → Committed st p count q → f ≡ (idle q.0.known, rest q.1) → (f.1 ≡ []) × (f.0.stage ≡ Idle)
  ended st p q f count now e r tells c is =
      (ap (λ (z : M). z.1) is ∙ ap (λ (z : M). rest z.1) (told st p q count now e r tells c) ∙ ap rest tells.3, ap (λ (z : M). z.0.stage) is)

  pub closed : (m n : M) (obj : O) → IsWhole m.0.known → Took step m n → Carries n.1 obj → Closes step m.0.known obj
  closed m n obj whole t k =
      let h = t.5 in
      record {
        history = t.0;
        legal = (h.legal.0, h.legal.1, subst (λ z. Runs step h.legal.0 t.0 z) (same_object m n obj t k) h.legal.2);
        begins = h.begins;
        calls = h.calls;
        others = h.others whole;
      }

module _ {O E R : Type 0} (step : O → E → R → O → Type 0) (o : O) where
  pub commit_ok : (slots id : ℕ) (st : Step (Slot O E R)) (m n p : Me (Slot O E R) (View O E R)) (obj now : O) (e : E) (r : R) → Took step m n → Carries n.1 obj → p.0 ≡ n.0 → Tells p.1 now e r → step obj e r now
      → Allows (Kept step o) slots id p 1 (λ k. (k + 1) % 18446744073709551616) (Committed st p)
  commit_ok slots id st m n p obj now e r t k same tells go =
      let stage : p.0.stage ≡ Holding obj = ap (λ (v : View O E R). v.stage) (has_turn step m n p obj t k same) in
      commits step o slots id p.0 p.1 st tells.0 tells.1 tells.2 obj now stage (ap first_slot tells.3) tells.4 tells.5 tells.7
      (subst (λ (z : E × R). step obj z.0 z.1 now) (λ i. (sym tells.6 i, sym tells.8 i)) go)

  pub free_ok : (slots id : ℕ) (st st' : Step (Slot O E R)) (p q : Me (Slot O E R) (View O E R)) (count : ℕ) (now : O) (e : E) (r : R) → Tells p.1 now e r → Committed st p count q
      → Allows (Kept step o) slots id q 0 (λ _. 0) (λ n. Freed st' q n)
  free_ok slots id st st' p q count now e r tells k =
      let is = told step st p q count now e r tells k in
      frees step o slots id q.0 q.1 st' tells.0 now (ap (λ (z : Me (Slot O E R) (View O E R)). z.0.stage) is) (ap (λ (z : Me (Slot O E R) (View O E R)). z.1) is ∙ tells.3) tells.4
