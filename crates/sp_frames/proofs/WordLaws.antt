-- Words as bytes and back.
use Rattle.std.proofs.Common.{◌≡◌, ℕ, zero, suc, ◌*◌, ◌^◌, ◌<◌, List, [], ◌∷◌, length, get_or, take, drop, refl, ap, arith, length-append}
use Rattle.std.specs.List.{flat_map, AllByRecursion}
use Rattle.std.proofs.lemmas.List.{take_at, drop_at, take-append-drop, length-take, length-drop}
use Rattle.sp_frames.specs.Fields.{le64, of64}
use Rattle.sp_frames.specs.Reading.{words_at}
use Rattle.sp_frames.specs.Fields.{IsBytes}
use Rattle.sp_frames.proofs.FieldLaws.{IsBytes-drop, IsBytes-take, field64, no_items}

pub words_len : (n : ℕ) (p : List ℕ) → length (words_at n p) ≡ n
unfolding words_at
words_len zero p = refl
words_len (suc n) p = ap suc (words_len n (drop 8 p))

pub words_back : (n : ℕ) (p : List ℕ) → IsBytes p → length p ≡ 8 * n → flat_map le64 (words_at n p) ≡ p
unfolding words_at
words_back zero p fits e = no_items p (omega arith)
words_back (suc n) p fits e =
    let front : le64 (of64 (take 8 p)) ≡ take 8 p = field64.back (take 8 p) (omega (arith, length-take 8 p)) (IsBytes-take 8 p fits) in
    let others : flat_map le64 (words_at n (drop 8 p)) ≡ drop 8 p = words_back n (drop 8 p) (IsBytes-drop 8 p fits) (omega (arith, length-drop 8 p)) in
    rw (front, others) (take-append-drop 8 p)

pub words_below : (n : ℕ) (p : List ℕ) → IsBytes p → AllByRecursion (λ w. w < 2 ^ 64) (words_at n p)
unfolding words_at
words_below zero p fits = tt
words_below (suc n) p fits = (field64.below (take 8 p) (IsBytes-take 8 p fits), words_below n (drop 8 p) (IsBytes-drop 8 p fits))

pub words_size : (ws : List ℕ) → length (flat_map le64 ws) ≡ 8 * length ws
words_size [] = refl
words_size (w ∷ ws) = omega (arith, length-append (le64 w) (flat_map le64 ws), field64.len w, words_size ws)

pub words_again : (ws : List ℕ) → AllByRecursion (λ w. w < 2 ^ 64) ws → words_at (length ws) (flat_map le64 ws) ≡ ws
unfolding words_at
words_again [] fits = refl
words_again (w ∷ ws) fits =
    rw (take_at (le64 w) (flat_map le64 ws) 8 (field64.len w), drop_at (le64 w) (flat_map le64 ws) 8 (field64.len w), field64.again w fits.0, words_again ws fits.1) refl

pub each_below : (ws : List ℕ) → AllByRecursion (λ w. w < 2 ^ 64) ws → (i : ℕ) → get_or ws i 0 < 2 ^ 64
each_below [] h i = omega arith
each_below (w ∷ ws) h zero = h.0
each_below (w ∷ ws) h (suc i) = each_below ws h.1 i

pub all_below : (ws : List ℕ) → ((i : ℕ) → get_or ws i 0 < 2 ^ 64) → AllByRecursion (λ w. w < 2 ^ 64) ws
all_below [] h = tt
all_below (w ∷ ws) h = (h 0, all_below ws (λ i. h (suc i)))
