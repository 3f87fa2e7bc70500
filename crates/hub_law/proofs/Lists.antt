-- Lists that grow at their end: what holds of each item, what stands at a place, and what of a whole is at its front.
use Rattle.std.proofs.Common.{◌≡◌, ◌⊎◌, inl, inr, ℕ, zero, suc, List, [], ◌∷◌, ◌++◌, length, Some, slice_get, refl, ap}
use Rattle.std.specs.List.{AllByRecursion}

-- what holds of each item of two lists holds of each of both
pub all_append : {X : Type 0} (P : X → Type 0) (xs ys : List X) → AllByRecursion P xs → AllByRecursion P ys → AllByRecursion P (xs ++ ys)
all_append P [] ys h k = k
all_append P (x ∷ xs) ys h k = (h.0, all_append P xs ys h.1 k)

-- what holds of each item holds of one among them
pub all_one : {X : Type 0} (P : X → Type 0) (xs : List X) (y : X) (ys : List X) → AllByRecursion P (xs ++ y ∷ ys) → P y
all_one P [] y ys h = h.0
all_one P (x ∷ xs) y ys h = all_one P xs y ys h.1

-- what stands at a place stands there when the list has grown
pub get_grows : {X : Type 0} (xs ys : List X) (p : ℕ) (x : X) → slice_get xs p ≡ Some x → slice_get (xs ++ ys) p ≡ Some x
get_grows [] ys p x h = absurd (cc)
get_grows (y ∷ xs) ys zero x h = h
get_grows (y ∷ xs) ys (suc p) x h = get_grows xs ys p x h

-- the last item stands at the end
pub get_end : {X : Type 0} (xs : List X) (x : X) → slice_get (xs ++ x ∷ []) (length xs) ≡ Some x
get_end [] x = refl
get_end (y ∷ xs) x = get_end xs x

-- what stands at a place of a list with one item more stood there before, or is that item
pub get_push : {X : Type 0} (xs : List X) (x : X) (p : ℕ) (y : X) → slice_get (xs ++ x ∷ []) p ≡ Some y
    → (slice_get xs p ≡ Some y) ⊎ ((p ≡ length xs) × (x ≡ y))
get_push [] x zero y h = inr (refl, cc)
get_push [] x (suc p) y h = absurd (cc)
get_push (z ∷ xs) x zero y h = inl h
get_push (z ∷ xs) x (suc p) y h = elim (get_push xs x p y h) [
  | inl before ↦ inl before
  | inr at ↦ inr (ap suc at.0, at.1)
]

-- the front of nothing is nothing
pub empty_front : {X : Type 0} (xs ys : List X) → xs ++ ys ≡ [] → xs ≡ []
empty_front [] ys h = refl
empty_front (x ∷ xs) ys h = absurd (cc)
