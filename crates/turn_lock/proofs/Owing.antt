-- What a pass owes, from call to call.
use Rattle.std.proofs.Common.{◌≡◌, ◌⊎◌, ℕ, ◌+◌, List, [], ◌∷◌, ◌++◌, refl, sym, ap, ◌∙◌, subst, ⊎_elim, inl, inr, arith}
use mathlib.Core.Logic.{dite}
use native.Mathlib.Decide.{ℕ_discrete}
use Rattle.turn_lock.specs.declared.view.Player.{Player}
use Rattle.turn_lock.specs.declared.view.Known.{Known}
use Rattle.turn_lock.specs.Passes.{IsIn, next_name, beginner, Has, HasName, IsWhole, with_call, counted, child, joining}
use Rattle.turn_lock.specs.Owing.{Owes, IsPaid, IsLater, Returns}
use Rattle.turn_lock.proofs.Names.{in_append, in_left, in_right}

module _ {O E R : Type 0} where
  -- a pass with the same names and counts
  abbrev Like : Known O E R → Known O E R → Type 0
  Like v w = (m : Player E R) → Has v m → (n : Player E R) × Has w n × (m.name ≡ n.name) × (m.splits ≡ n.splits)

  owes_like : (v w : Known O E R) (names : List (List ℕ)) → Like w v → Like v w → Owes v names → Owes w names
  owes_like v w names back there h m k hm lt =
      let x = back m hm in
      let y = h x.0 k x.1 (let c = x.3 in omega arith) in
      ⊎_elim
      (λ (z : HasName v (x.0.name ++ k ∷ [])). let t = there z.0 z.1 in inl (t.0, t.1, sym t.2 ∙ z.2 ∙ ap (λ l. l ++ k ∷ []) (sym x.2)))
      (λ z. inr (subst (λ l. IsIn (l ++ k ∷ []) names) (sym x.2) z))
      y

  -- a call changes nothing of what is owed
  pub owes_play : (k w : Known O E R) (e : E) (r : R) (names : List (List ℕ)) → w.own ≡ with_call k.own e r → w.joined ≡ k.joined → Owes k names → Owes w names
  owes_play k w e r names own joined h = owes_like k w names back there h
    where
      back : Like w k
      back m (inl x) = (k.own, inl refl, ap (λ (z : Player E R). z.name) (x ∙ own), ap (λ (z : Player E R). z.splits) (x ∙ own))
      back m (inr i) = (m, inr (subst (λ l. IsIn m l) joined i), refl, refl)

      there : Like k w
      there m (inl x) = (w.own, inl refl, ap (λ (z : Player E R). z.name) (x ∙ refl) ∙ sym (ap (λ (z : Player E R). z.name) own), ap (λ (z : Player E R). z.splits) x ∙ sym (ap (λ (z : Player E R). z.splits) own))
      there m (inr i) = (m, inr (subst (λ l. IsIn m l) (sym joined) i), refl, refl)

  pub owes_split : (v : Known O E R) (names : List (List ℕ)) → Owes v names → Owes (counted v) (names ++ (v.own.name ++ v.own.splits ∷ []) ∷ [])
  owes_split v names h m k (inl e) lt =
      let c : m.splits ≡ v.own.splits + 1 = ap (λ (z : Player E R). z.splits) e in
      let n : m.name ≡ v.own.name = ap (λ (z : Player E R). z.name) e in
      dite (ℕ_discrete k v.own.splits)
      (λ is. inr (in_right _ names _ (inl (λ i. n i ++ is i ∷ []))))
      (λ ne. ⊎_elim
      (λ (z : HasName v (v.own.name ++ k ∷ [])). inl (lift z n))
      (λ z. inr (in_left _ names _ (subst (λ l. IsIn (l ++ k ∷ []) names) (sym n) z)))
      (h v.own k (inl refl) (omega arith)))
    where
      lift : HasName v (v.own.name ++ k ∷ []) → m.name ≡ v.own.name → HasName (counted v) (m.name ++ k ∷ [])
      lift (x, inl s, t) n = ((counted v).own, inl refl, sym (ap (λ (z : Player E R). z.name) s) ∙ t ∙ ap (λ l. l ++ k ∷ []) (sym n))
      lift (x, inr s, t) n = (x, inr s, t ∙ ap (λ l. l ++ k ∷ []) (sym n))
  owes_split v names h m k (inr i) lt = ⊎_elim (λ z. inl (lift z)) (λ z. inr (in_left _ names _ z)) (h m k (inr i) lt)
    where
      lift : HasName v (m.name ++ k ∷ []) → HasName (counted v) (m.name ++ k ∷ [])
      lift (x, inl s, t) = ((counted v).own, inl refl, sym (ap (λ (z : Player E R). z.name) s) ∙ t)
      lift (x, inr s, t) = (x, inr s, t)

  pub owes_join : (v w : Known O E R) (name : List ℕ) (names : List (List ℕ)) → w.own.name ≡ name → Owes v (name ∷ names) → Owes w [] → Owes (joining v w) names
  owes_join v w name names is h g m k hm lt = ⊎_elim left right (parts m hm)
    where
      from_left : (x : Player E R) → Has v x → Has (joining v w) x
      from_left x (inl e) = inl e
      from_left x (inr i) = inr (inr (in_right x w.joined v.joined i))

      from_right : (x : Player E R) → Has w x → Has (joining v w) x
      from_right x (inl e) = inr (inl e)
      from_right x (inr i) = inr (inr (in_left x w.joined v.joined i))

      parts : (x : Player E R) → Has (joining v w) x → Has v x ⊎ Has w x
      parts x (inl e) = inl (inl e)
      parts x (inr (inl e)) = inr (inl e)
      parts x (inr (inr i)) = ⊎_elim (λ a. inr (inr a)) (λ a. inl (inr a)) (in_append x w.joined v.joined i)

      left : Has v m → HasName (joining v w) (m.name ++ k ∷ []) ⊎ IsIn (m.name ++ k ∷ []) names
      left a = ⊎_elim
          (λ (z : HasName v (m.name ++ k ∷ [])). inl (z.0, from_left z.0 z.1, z.2))
          (λ (z : (m.name ++ k ∷ [] ≡ name) ⊎ IsIn (m.name ++ k ∷ []) names). ⊎_elim (λ e. inl (w.own, from_right w.own (inl refl), is ∙ sym e)) (λ i. inr i) z)
          (h m k a lt)

      right : Has w m → HasName (joining v w) (m.name ++ k ∷ []) ⊎ IsIn (m.name ++ k ∷ []) names
      right a = ⊎_elim (λ (z : HasName w (m.name ++ k ∷ [])). inl (z.0, from_right z.0 z.1, z.2)) (λ z. absurd z) (g m k a lt)

  pub owes_none : (v : Known O E R) → v.own.splits ≡ 0 → v.joined ≡ [] → Owes v []
  owes_none v c j m k (inl e) lt = absurd (let z = ap (λ (x : Player E R). x.splits) e in omega arith)
  owes_none v c j m k (inr i) lt = absurd (subst (λ l. IsIn m l) j i)

  pub whole_of : (v : Known O E R) → v.own.name ≡ [] → Owes v [] → IsWhole v
  whole_of v name h = ((v.own, inl refl, name), (λ m k hm lt. ⊎_elim (λ z. z) (λ z. absurd z) (h m k hm lt)))

module _ {O E R : Type 0} where
  pub paid_first : (o : O) (k : Known O E R) → k ≡ beginner o → IsPaid k
  paid_first o k is = subst (λ (z : Known O E R). IsPaid z) (sym is) (record { owes = owes_none (beginner o) refl refl })

  pub paid_child : (k lent : Known O E R) → lent ≡ child k → IsPaid lent
  paid_child k lent is = subst (λ (z : Known O E R). IsPaid z) (sym is) (record { owes = owes_none (child k) refl refl })

  pub later_self : (k : Known O E R) → IsPaid k → IsLater k k []
  later_self k paid = record { name = refl; owes = paid.owes }

  -- a call changes nothing of what is owed
  pub later_play : (k w x : Known O E R) (e : E) (r : R) (owed : List (List ℕ)) → IsLater k w owed → x.own ≡ with_call w.own e r → x.joined ≡ w.joined → IsLater k x owed
  later_play k w x e r owed h own joined = record {
    name = ap (λ (z : Player E R). z.name) own ∙ h.name;
    owes = owes_play w x e r owed own joined h.owes;
  }

  -- a pass that is split off is owed
  pub later_split : (k w x lent : Known O E R) (owed : List (List ℕ)) → IsLater k w owed → x ≡ counted w → lent ≡ child w → IsLater k x (owed ++ lent.own.name ∷ [])
  later_split k w x lent owed h is new = record {
    name = ap (λ (z : Known O E R). z.own.name) is ∙ h.name;
    owes = subst (λ (z : List ℕ). Owes x (owed ++ z ∷ [])) (sym (ap (λ (z : Known O E R). z.own.name) new))
        (subst (λ (z : Known O E R). Owes z (owed ++ next_name w.own ∷ [])) (sym is) (owes_split w owed h.owes));
  }

  -- a pass that comes back and is joined is owed no longer
  pub later_join : (k w x lent back : Known O E R) (owed : List (List ℕ)) → IsLater k w (lent.own.name ∷ owed) → Returns lent back → x ≡ joining w back → IsLater k x owed
  later_join k w x lent back owed h returns is = record {
    name = ap (λ (z : Known O E R). z.own.name) is ∙ h.name;
    owes = subst (λ (z : Known O E R). Owes z owed) (sym is) (owes_join w back lent.own.name owed returns.name h.owes returns.owes);
  }

  -- the first pass may close the lock once nothing is owed
  pub whole_first : (o : O) (k later : Known O E R) → k ≡ beginner o → Returns k later → IsWhole later
  whole_first o k later is h = whole_of later (h.name ∙ ap (λ (z : Known O E R). z.own.name) is) h.owes
