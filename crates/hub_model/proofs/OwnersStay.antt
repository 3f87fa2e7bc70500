-- Owners stay while the journal, and all that was done to hand processes over, grow.
use Rattle.std.proofs.Common.{◌≡◌, ◌≢◌, ℕ, zero, suc, Bool, true, false, cond, List, [], ◌∷◌, ◌++◌, length, Option, Some, None, refl, sym, ap, ◌∙◌, arith}
use Rattle.std.specs.Prelude.{◌==◌, option_and_then}
use Rattle.std.specs.List.{AllByRecursion}
use Rattle.std.proofs.lemmas.Bool.Decides.{nat_tests}
use Rattle.kern_model.specs.declared.journal.Entry.{Entry}
use Rattle.hub_model.specs.Owners.{fork_of, made_at, maker_of, owner_by}
use Rattle.hub_model.specs.declared.handover.Handover.{Handover}
use Rattle.hub_model.specs.declared.handover.Handover.TheVariants.{Attached, Forked, Readied, Joined, Imaged, Cancelled}

-- ---- numbers

pub same_number : (n : ℕ) → (n == n) ≡ true
same_number n = grind (arith, nat_tests)

pub other_number : (a b : ℕ) → a ≢ b → (a == b) ≡ false
other_number a b ne = grind (arith, nat_tests)

-- ---- the process of an entry

-- what the entry at a place made is the same in a longer journal
pub made_front : (journal more : List Entry) (place p : ℕ) → made_at journal place ≡ Some p → made_at (journal ++ more) place ≡ Some p
made_front [] more place p h = absurd (cc)
made_front (e ∷ journal) more zero p h = h
made_front (e ∷ journal) more (suc place) p h = made_front journal more place p h

-- what the last entry made
pub made_last : (journal : List Entry) (e : Entry) → made_at (journal ++ e ∷ []) (length journal) ≡ Some e.outcome.ret0
made_last [] e = refl
made_last (x ∷ journal) e = made_last journal e

-- ---- owners

-- the connection that a handover hands a process to
abbrev pub receiver : Handover → Option ℕ
receiver (Attached c place) = Some c.0
receiver (Joined c number) = Some c.0
receiver (Imaged c number) = Some c.0
receiver _ = None

-- no handover is to this connection
abbrev pub HasNothing : ℕ → List Handover → Type 0
HasNothing c handovers = AllByRecursion (λ h. receiver h ≡ Some c → ⊥) handovers

cond_stays : (b : Bool) (first first' rest rest' : Option ℕ) (p : ℕ) → (first ≡ Some p → first' ≡ Some p) → (rest ≡ Some p → rest' ≡ Some p)
    → cond b first rest ≡ Some p → cond b first' rest' ≡ Some p
cond_stays true first first' rest rest' p one other h = one h
cond_stays false first first' rest rest' p one other h = other h

bind_stays : (o : Option ℕ) (f g : ℕ → Option ℕ) (p : ℕ) → ((n : ℕ) → f n ≡ Some p → g n ≡ Some p) → option_and_then f o ≡ Some p → option_and_then g o ≡ Some p
bind_stays None f g p stays h = h
bind_stays (Some n) f g p stays h = stays n h

-- an owner is the same in a longer journal
pub owner_front : (journal more : List Entry) (handovers : List Handover) (c p : ℕ) → owner_by journal handovers c ≡ Some p → owner_by (journal ++ more) handovers c ≡ Some p
owner_front journal more [] c p h = absurd (cc)
owner_front journal more (Attached d place ∷ earlier) c p h =
    cond_stays (d.0 == c) (made_at journal place.0) (made_at (journal ++ more) place.0) (owner_by journal earlier c) (owner_by (journal ++ more) earlier c) p
    (made_front journal more place.0 p) (owner_front journal more earlier c p) h
owner_front journal more (Joined d number ∷ earlier) c p h =
    cond_stays (d.0 == c) (option_and_then (made_at journal) (fork_of earlier number)) (option_and_then (made_at (journal ++ more)) (fork_of earlier number))
    (owner_by journal earlier c) (owner_by (journal ++ more) earlier c) p
    (bind_stays (fork_of earlier number) (made_at journal) (made_at (journal ++ more)) p (λ n. made_front journal more n p)) (owner_front journal more earlier c p) h
owner_front journal more (Imaged d number ∷ earlier) c p h =
    cond_stays (d.0 == c) (option_and_then (owner_by journal earlier) (maker_of earlier number)) (option_and_then (owner_by (journal ++ more) earlier) (maker_of earlier number))
    (owner_by journal earlier c) (owner_by (journal ++ more) earlier c) p
    (bind_stays (maker_of earlier number) (owner_by journal earlier) (owner_by (journal ++ more) earlier) p (λ n. owner_front journal more earlier n p))
    (owner_front journal more earlier c p) h
owner_front journal more (Forked number place ∷ earlier) c p h = owner_front journal more earlier c p h
owner_front journal more (Readied number d ∷ earlier) c p h = owner_front journal more earlier c p h
owner_front journal more (Cancelled number ∷ earlier) c p h = owner_front journal more earlier c p h

-- a test of another number fails
pub skipped : (d c : ℕ) (first rest : Option ℕ) → (◌≡◌ {A = Option ℕ} (Some d) (Some c) → ⊥) → cond (d == c) first rest ≡ rest
skipped d c first rest not = ap (λ b. cond b first rest) (other_number d c (λ e. not (ap (λ (n : ℕ). Some n) e)))

-- a connection that nothing was handed to has no owner
pub unowned : (journal : List Entry) (handovers : List Handover) (c : ℕ) → HasNothing c handovers → owner_by journal handovers c ≡ None
unowned journal [] c none = refl
unowned journal (Attached d place ∷ earlier) c none = skipped d.0 c _ (owner_by journal earlier c) none.0 ∙ unowned journal earlier c none.1
unowned journal (Joined d number ∷ earlier) c none = skipped d.0 c _ (owner_by journal earlier c) none.0 ∙ unowned journal earlier c none.1
unowned journal (Imaged d number ∷ earlier) c none = skipped d.0 c _ (owner_by journal earlier c) none.0 ∙ unowned journal earlier c none.1
unowned journal (Forked number place ∷ earlier) c none = unowned journal earlier c none.1
unowned journal (Readied number d ∷ earlier) c none = unowned journal earlier c none.1
unowned journal (Cancelled number ∷ earlier) c none = unowned journal earlier c none.1

-- an owner is the same after a handover to a connection that nothing was handed to before
pub owner_after : (journal : List Entry) (h : Handover) (handovers : List Handover) (d p : ℕ) → (receiver h ≡ Some d → HasNothing d handovers)
    → owner_by journal handovers d ≡ Some p → owner_by journal (h ∷ handovers) d ≡ Some p
owner_after journal h handovers d p first is = by_kind h first where
  clash : HasNothing d handovers → ⊥
  clash none = let k : None ≡ Some p = sym (unowned journal handovers d none) ∙ is in cc

  not_his : (c : ℕ) (made : Option ℕ) → (◌≡◌ {A = Option ℕ} (Some c) (Some d) → HasNothing d handovers) → cond (c == d) made (owner_by journal handovers d) ≡ Some p
  not_his c made first = skipped c d made (owner_by journal handovers d) (λ e. clash (first e)) ∙ is

  by_kind : (h : Handover) → (receiver h ≡ Some d → HasNothing d handovers) → owner_by journal (h ∷ handovers) d ≡ Some p
  by_kind (Attached c place) first = not_his c.0 _ first
  by_kind (Joined c number) first = not_his c.0 _ first
  by_kind (Imaged c number) first = not_his c.0 _ first
  by_kind (Forked number place) first = is
  by_kind (Readied number c) first = is
  by_kind (Cancelled number) first = is
