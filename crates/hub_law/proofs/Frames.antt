-- The frames of a number among all that came or were sent, and the last error among them.
use Rattle.std.proofs.Common.{◌≡◌, ◌≢◌, ◌⊎◌, inl, inr, ℕ, ◌+◌, ◌==◌, true, false, cond, not, ◌&&◌, List, [], ◌∷◌, ◌++◌, refl, sym, ap, ◌∙◌, subst, append-nil}
use Rattle.std.specs.List.{AllByRecursion}
use Rattle.std.proofs.lemmas.Bool.{and_from, and_left, and_right, eq-eqb, ne_eqb}
use Rattle.std.proofs.lemmas.List.Elements.{filter-append}
use Rattle.sp_base.specs.declared.names.ReqNo.{ReqNo}
use Rattle.sp_frames.specs.declared.frame.Frame.{Frame}
use Rattle.kern_model.specs.declared.outcome.OutPiece.{OutPiece}
use Rattle.kern_model.specs.declared.outcome.Outcome.{Outcome}
use Rattle.hub_model.specs.Frames.{puts_from, told}
use Rattle.hub_law.specs.Frames.{answers_to, is_last_error, numbered}
use Rattle.hub_law.specs.Serves.{HasOneLast}
use Rattle.hub_law.proofs.Lists.{all_append}

-- ---- what comes

pub numbered-append : (n : ℕ) (xs ys : List Frame) → numbered n (xs ++ ys) ≡ numbered n xs ++ numbered n ys
numbered-append n xs ys = filter-append (λ f. f.number.0 == n) xs ys

pub numbered_here : (n : ℕ) (f : Frame) → f.number.0 ≡ n → numbered n (f ∷ []) ≡ f ∷ []
numbered_here n f e = ap (λ b. cond b (f ∷ []) []) (eq-eqb f.number.0 n e)

pub numbered_other : (n : ℕ) (f : Frame) → f.number.0 ≢ n → numbered n (f ∷ []) ≡ []
numbered_other n f ne = ap (λ b. cond b (f ∷ []) []) (ne_eqb f.number.0 n ne)

-- ---- what goes out

-- frames are of a request's number, and none is a last error
abbrev pub AreOf : ReqNo → List Frame → Type 0
AreOf r frames = AllByRecursion (λ f. (f.number.0 ≡ r.0) × (is_last_error f.body ≡ false)) frames

-- none of the frames is a last error
abbrev pub ArePlain : List Frame → Type 0
ArePlain frames = AllByRecursion (λ f. is_last_error f.body ≡ false) frames

pub plain_of : (r : ReqNo) (frames : List Frame) → AreOf r frames → ArePlain frames
plain_of r [] h = tt
plain_of r (f ∷ frames) h = (h.0.1, plain_of r frames h.1)

pub answers-append : (n : ℕ) (xs ys : List Frame) → answers_to n (xs ++ ys) ≡ answers_to n xs ++ answers_to n ys
answers-append n xs ys = filter-append (λ f. (f.number.0 == n) && not (is_last_error f.body)) xs ys

pub answers_here : (r : ReqNo) (frames : List Frame) → AreOf r frames → answers_to r.0 frames ≡ frames
answers_here r [] h = refl
answers_here r (f ∷ frames) h =
    ap (λ b. cond b (f ∷ answers_to r.0 frames) (answers_to r.0 frames))
    (and_from (f.number.0 == r.0) (not (is_last_error f.body)) (eq-eqb f.number.0 r.0 h.0.0) (ap not h.0.1))
    ∙ ap (λ fs. f ∷ fs) (answers_here r frames h.1)

pub answers_other : (n : ℕ) (r : ReqNo) (frames : List Frame) → n ≢ r.0 → AreOf r frames → answers_to n frames ≡ []
answers_other n r [] ne h = refl
answers_other n r (f ∷ frames) ne h =
    ap (λ b. cond b (f ∷ answers_to n frames) (answers_to n frames))
    (and_left (f.number.0 == n) (not (is_last_error f.body)) (ne_eqb f.number.0 n (λ e. ne (sym e ∙ h.0.0))))
    ∙ answers_other n r frames ne h.1

-- a last error answers no number
pub answers_last : (n : ℕ) (f : Frame) → is_last_error f.body ≡ true → answers_to n (f ∷ []) ≡ []
answers_last n f e = ap (λ b. cond b (f ∷ []) []) (and_right (f.number.0 == n) (not (is_last_error f.body)) (ap not e))

-- what is handed out next is among the answers of its number
pub answers_among : (sent : List Frame) (f : Frame) (queue : List Frame) → is_last_error f.body ≡ false
    → answers_to f.number.0 (sent ++ f ∷ queue) ≡ answers_to f.number.0 sent ++ f ∷ answers_to f.number.0 queue
answers_among sent f queue plain =
    answers-append f.number.0 sent (f ∷ queue)
    ∙ ap (λ fs. answers_to f.number.0 sent ++ fs)
    (answers-append f.number.0 (f ∷ []) queue ∙ ap (λ fs. fs ++ answers_to f.number.0 queue) (answers_here f.number (f ∷ []) ((refl, plain), tt)))

puts_of : (r : ReqNo) (index : ℕ) (pieces : List OutPiece) → AreOf r (puts_from r index pieces)
puts_of r index [] = tt
puts_of r index (piece ∷ pieces) = ((refl, refl), puts_of r (index + 1) pieces)

-- what tells a call's outcome is of its number
pub told_of : (r : ReqNo) (outcome : Outcome) (place : ℕ) → AreOf r (told r outcome place)
told_of r outcome place = all_append (λ f. (f.number.0 ≡ r.0) × (is_last_error f.body ≡ false)) (puts_from r 0 outcome.outs) _ (puts_of r 0 outcome.outs) ((refl, refl), tt)

-- ---- the last error

-- frames without one, and then one
pub one_last : (frames : List Frame) (f : Frame) → ArePlain frames → HasOneLast (frames ++ f ∷ [])
one_last frames f plain = (frames, f ∷ [], refl, plain, inr (f, refl))

-- frames without one
pub none_last : (frames : List Frame) → ArePlain frames → HasOneLast frames
none_last frames plain = (frames, [], sym (append-nil frames), plain, inl refl)

last_front : (x : Frame) (frames more front last : List Frame) → (x ∷ frames) ++ more ≡ front ++ last → ArePlain front → (last ≡ []) ⊎ ((f : Frame) × (last ≡ f ∷ []))
    → ((front' : List Frame) → frames ++ more ≡ front' ++ last → ArePlain front' → HasOneLast frames) → HasOneLast (x ∷ frames)
last_front x frames more [] last e plain (inl none) rest = absurd (cc)
last_front x [] more [] last e plain (inr one) rest = ([], x ∷ [], refl, tt, inr (x, refl))
last_front x (y ∷ frames) more [] last e plain (inr one) rest = absurd (let k : x ∷ y ∷ (frames ++ more) ≡ one.0 ∷ [] = e ∙ one.1 in cc)
last_front x frames more (y ∷ front) last e plain few rest =
    let same : x ≡ y = cc in
    let tail : frames ++ more ≡ front ++ last = cc in
    let h = rest front tail plain.1 in
    (x ∷ h.0, h.1, ap (λ fs. x ∷ fs) h.2, (subst (λ (f : Frame). is_last_error f.body ≡ false) (sym same) plain.0, h.3), h.4)

last_by : (frames more front last : List Frame) → frames ++ more ≡ front ++ last → ArePlain front → (last ≡ []) ⊎ ((f : Frame) × (last ≡ f ∷ [])) → HasOneLast frames
last_by [] more front last e plain few = ([], [], refl, tt, inl refl)
last_by (x ∷ frames) more front last e plain few = last_front x frames more front last e plain few (λ front' e' plain'. last_by frames more front' last e' plain' few)

-- what was sent of frames with one last error at the most has one at the most, and last
pub last_of_front : (frames more : List Frame) → HasOneLast (frames ++ more) → HasOneLast frames
last_of_front frames more h = last_by frames more h.0 h.1 h.2 h.3 h.4
