-- Requests under way in rising order.
use Rattle.std.proofs.Common.{◌≡◌, ℕ, ◌+◌, ◌<◌, ◌≤◌, Bool, true, false, List, [], ◌∷◌, ◌++◌, sym, subst, arith}
use Rattle.sp_frames.specs.declared.frame.Frame.{Frame}
use Rattle.world_model.proofs.Lane.{Rises, RisesBy, is_copy}

-- the last number is at most the other
pub rises_most : (last : ℕ) (frames : List Frame) (most : ℕ) → Rises last frames most → last ≤ most
rises_most last [] most h = h
rises_most last (f ∷ frames) most h = by_copy (is_copy f.body) (λ n k. rises_most n frames most k) h
  where
    by_copy : (b : Bool) → ((n : ℕ) → Rises n frames most → n ≤ most) → RisesBy b last f (λ n. Rises n frames most) → last ≤ most
    by_copy true later h = later last h
    by_copy false later h = let here = h.0 in let rest = later f.number.0 h.1 in omega (arith, here, rest)

-- what rises behind a frame may be something else
behind : (last : ℕ) (f : Frame) (old new : ℕ → Type 0) → ((n : ℕ) → old n → new n) → (b : Bool) → RisesBy b last f old → RisesBy b last f new
behind last f old new goes true h = goes last h
behind last f old new goes false h = (h.0, goes f.number.0 h.1)

-- a request more is under way
pub rises_more : (last : ℕ) (frames : List Frame) (most : ℕ) (f : Frame) → is_copy f.body ≡ false → f.number.0 ≡ most + 1 → Rises last frames most
    → Rises last (frames ++ f ∷ []) (most + 1)
rises_more last [] most f no_copy e h =
    let above : last < f.number.0 = omega (arith, e, h) in
    let below : f.number.0 ≤ most + 1 = omega (arith, e) in
    subst (λ (b : Bool). RisesBy b last f (λ n. n ≤ most + 1)) (sym no_copy) (above, below)
rises_more last (g ∷ frames) most f no_copy e h =
    behind last g (λ n. Rises n frames most) (λ n. Rises n (frames ++ f ∷ []) (most + 1)) (λ n k. rises_more n frames most f no_copy e k) (is_copy g.body) h

-- a copy more is under way
pub rises_copy : (last : ℕ) (frames : List Frame) (most : ℕ) (f : Frame) → is_copy f.body ≡ true → Rises last frames most → Rises last (frames ++ f ∷ []) most
rises_copy last [] most f copy h = subst (λ (b : Bool). RisesBy b last f (λ n. n ≤ most)) (sym copy) h
rises_copy last (g ∷ frames) most f copy h =
    behind last g (λ n. Rises n frames most) (λ n. Rises n (frames ++ f ∷ []) most) (λ n k. rises_copy n frames most f copy k) (is_copy g.body) h
