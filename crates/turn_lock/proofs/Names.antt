-- Names, the calls of one name, and beginnings of a history.
use Rattle.std.proofs.Common.{◌≡◌, ◌≢◌, ◌⊎◌, ℕ, List, [], ◌∷◌, ◌++◌, length, Bool, true, false, refl, sym, ap, ◌∙◌, ⊎_elim, inl, inr, eq-eqb, ne_eqb}
use Rattle.std.proofs.lemmas.List.{append-nil, append_assoc}
use Rattle.std.specs.Prelude.{if◌then◌else◌, nat_lt}
use mathlib.Core.Logic.{dite}
use native.Mathlib.Decide.{ℕ_discrete}
use Rattle.turn_lock.specs.declared.view.Entry.{Entry}
use Rattle.turn_lock.specs.History.{is_name, BeginsWith, entry, calls_by, longer}
use Rattle.turn_lock.specs.Passes.{IsIn}

pub same_name : (xs : List ℕ) → is_name xs xs ≡ true
same_name [] = refl
same_name (x ∷ xs) = rw (eq-eqb x x refl) (same_name xs)

pub other_name : (xs ys : List ℕ) → xs ≢ ys → is_name xs ys ≡ false
other_name [] [] n = absurd (n refl)
other_name [] (y ∷ ys) n = refl
other_name (x ∷ xs) [] n = refl
other_name (x ∷ xs) (y ∷ ys) n =
    dite (ℕ_discrete x y)
    (λ e. rw (eq-eqb x y e) (other_name xs ys (λ t. n (λ i. e i ∷ t i))))
    (λ ne. rw (ne_eqb x y ne) refl)

pub in_append : {A : Type 0} (x : A) (xs ys : List A) → IsIn x (xs ++ ys) → IsIn x xs ⊎ IsIn x ys
in_append x [] ys h = inr h
in_append x (z ∷ xs) ys (inl e) = inl (inl e)
in_append x (z ∷ xs) ys (inr h) = ⊎_elim (λ a. inl (inr a)) (λ b. inr b) (in_append x xs ys h)

pub in_left : {A : Type 0} (x : A) (xs ys : List A) → IsIn x xs → IsIn x (xs ++ ys)
in_left x [] ys h = absurd h
in_left x (z ∷ xs) ys (inl e) = inl e
in_left x (z ∷ xs) ys (inr h) = inr (in_left x xs ys h)

pub in_right : {A : Type 0} (x : A) (xs ys : List A) → IsIn x ys → IsIn x (xs ++ ys)
in_right x [] ys h = h
in_right x (z ∷ xs) ys h = inr (in_right x xs ys h)

pub begins_self : {A : Type 0} (xs : List A) → BeginsWith xs xs
begins_self xs = ([], sym (append-nil xs))

pub begins_more : {A : Type 0} (xs ys more : List A) → BeginsWith xs ys → BeginsWith (xs ++ more) ys
begins_more xs ys more h = (h.0 ++ more, ap (λ l. l ++ more) h.1 ∙ append_assoc ys h.0 more)

-- no name goes on behind its end
pub nil_longer : (xs : List ℕ) (n : ℕ) (ys : List ℕ) → [] ≡ xs ++ n ∷ ys → ⊥
nil_longer [] n ys e = absurd (cc)
nil_longer (x ∷ xs) n ys e = absurd (cc)

-- a name with one number more that extends another: it is that name, or that name's beginning was longer
pub snoc_extends : (p q : List ℕ) (c n : ℕ) (more : List ℕ) → q ++ c ∷ [] ≡ p ++ n ∷ more → ((p ≡ q) × (n ≡ c)) ⊎ ((rest : List ℕ) × (q ≡ p ++ n ∷ rest))
snoc_extends [] [] c n more e = inl (refl, cc)
snoc_extends [] (y ∷ q) c n more e = inr (q, cc)
snoc_extends (x ∷ p) [] c n more e = absurd (nil_longer p n more (cc))
snoc_extends (x ∷ p) (y ∷ q) c n more e =
    ⊎_elim
    (λ (h : (p ≡ q) × (n ≡ c)). let a = h.0 in inl (cc, h.1))
    (λ (h : (rest : List ℕ) × (q ≡ p ++ n ∷ rest)). let a = h.1 in inr (h.0, cc))
    (snoc_extends p q c n more (cc))

module _ {E R : Type 0} where
  pub calls_snoc : (name by : List ℕ) (event : E) (reply : R) (log : List (Entry E R)) → is_name name by ≡ true → calls_by name (log ++ entry by event reply ∷ []) ≡ calls_by name log ++ entry by event reply ∷ []
  calls_snoc name by event reply [] same = rw same refl
  calls_snoc name by event reply (e ∷ es) same = go (is_name name e.name) (calls_snoc name by event reply es same)
    where
      go : (b : Bool) → calls_by name (es ++ entry by event reply ∷ []) ≡ calls_by name es ++ entry by event reply ∷ [] → (if b then e ∷ calls_by name (es ++ entry by event reply ∷ []) else calls_by name (es ++ entry by event reply ∷ [])) ≡ (if b then e ∷ calls_by name es else calls_by name es) ++ entry by event reply ∷ []
      go true ih = ap (λ l. e ∷ l) ih
      go false ih = ih

  pub calls_other : (name by : List ℕ) (event : E) (reply : R) (log : List (Entry E R)) → is_name name by ≡ false → calls_by name (log ++ entry by event reply ∷ []) ≡ calls_by name log
  calls_other name by event reply [] other = rw other refl
  calls_other name by event reply (e ∷ es) other = go (is_name name e.name) (calls_other name by event reply es other)
    where
      go : (b : Bool) → calls_by name (es ++ entry by event reply ∷ []) ≡ calls_by name es → (if b then e ∷ calls_by name (es ++ entry by event reply ∷ []) else calls_by name (es ++ entry by event reply ∷ [])) ≡ (if b then e ∷ calls_by name es else calls_by name es)
      go true ih = ap (λ l. e ∷ l) ih
      go false ih = ih

  -- of two beginnings of one history the longer one is a beginning too
  pub longer_begins : (history xs ys : List (Entry E R)) → BeginsWith history xs → BeginsWith history ys → BeginsWith history (longer xs ys)
  longer_begins history xs ys a b = go (nat_lt (length xs) (length ys))
    where
      go : (c : Bool) → BeginsWith history (if c then ys else xs)
      go true = b
      go false = a
