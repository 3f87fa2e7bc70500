-- The row of a class, a type and a word, and the errors that a frame carries.
use Rattle.std.proofs.Common.{◌≡◌, ◌⊎◌, inl, inr, zero, suc, ℕ, ◌+◌, ◌-◌, ◌<◌, ◌≤◌, ◌==◌, ◌&&◌, ◌||◌, Bool, true, false, cond, List, [], ◌∷◌, get_or, Option, Some, None, find, refl, sym, ap, ◌∙◌, arith}
use Rattle.std.proofs.lemmas.Bool.Decides.{nat_tests}
use Rattle.sp_base.specs.declared.names.SpError.{SpError}
use Rattle.sp_base.specs.declared.names.SpError.TheVariants as error
use Rattle.sp_base.specs.Names.{sp_error_number, sp_error_of}
use Rattle.sp_frames.specs.declared.rows.Row.{Row}
use Rattle.sp_frames.specs.declared.rows.Row.TheVariants as row
use Rattle.sp_frames.specs.Reading.{rows, class_in, has_type, has_word, within, is_of, row_at}

pub same_number : (n m : ℕ) → (n == m) ≡ true → m ≡ n
same_number n m e = grind (arith, nat_tests)

pub within_is : (least most n : ℕ) → within least most n ≡ true → (least ≤ n) × (n ≤ most)
within_is least most n e = grind (arith, nat_tests)

pub within_true : (least most n : ℕ) → least ≤ n → n ≤ most → within least most n ≡ true
within_true least most n lo hi = grind (arith, nat_tests)

found_first : {X : Type 0} (t : Bool) (y x : X) (o : Option X) → cond t (Some y) o ≡ Some x → ((t ≡ true) × (y ≡ x)) ⊎ (o ≡ Some x)
found_first true y x o e = inl (refl, cc)
found_first false y x o e = inr e

-- what a search finds passes its test
find-passes : {X : Type 0} (p : X → Bool) (xs : List X) (x : X) → find p xs ≡ Some x → p x ≡ true
find-passes p [] x e = absurd cc
find-passes p (y ∷ xs) x e =
    elim (found_first (p y) y x (find p xs) e) [
      | inl here ↦ ap p (sym here.1) ∙ here.0
      | inr later ↦ find-passes p xs x later
    ]

pub either : (a b : Bool) → (a || b) ≡ true → (a ≡ true) ⊎ (b ≡ true)
either true b e = inl refl
either false b e = inr e

pub both : (a b : Bool) → (a && b) ≡ true → (a ≡ true) × (b ≡ true)
both true true e = (refl, refl)
both true false e = absurd cc
both false b e = absurd cc

-- a row has this class, type and word
pub record IsRow (c k w : ℕ) (r : Row) : Type 0 where
  pub class : class_in r ≡ c
  pub kind : has_type r k ≡ true
  pub word : has_word r w ≡ true

pub row_is : (c k w : ℕ) (r : Row) → row_at c k w ≡ Some r → IsRow c k w r
unfolding row_at
row_is c k w r e =
    let passes = find-passes (λ r. is_of c k r && has_word r w) rows r e in
    let word = both (is_of c k r) (has_word r w) passes in
    let of = both (class_in r == c) (has_type r k) word.0 in
    record { class = sym (same_number (class_in r) c of.0); kind = of.1; word = word.1 }

-- no row is above class 2
pub class_in-most : (r : Row) → class_in r ≤ 2
class_in-most row.Guest = omega arith
class_in-most row.Join = omega arith
class_in-most row.Image = omega arith
class_in-most row.Sys = omega arith
class_in-most row.AskBytes = omega arith
class_in-most row.AskText = omega arith
class_in-most row.Put = omega arith
class_in-most row.Prefork = omega arith
class_in-most row.Cancel = omega arith
class_in-most row.Preexec = omega arith
class_in-most row.Hello = omega arith
class_in-most row.Joined = omega arith
class_in-most row.Imaged = omega arith
class_in-most row.Answered = omega arith
class_in-most row.GotBytes = omega arith
class_in-most row.GotText = omega arith
class_in-most row.Forked = omega arith
class_in-most row.Cancelled = omega arith
class_in-most row.ExecReady = omega arith
class_in-most row.Refused = omega arith

-- no row has a class above 2
pub row_at-above : (c k w : ℕ) → 2 < c → row_at c k w ≡ None
row_at-above c k w lt = no_row (row_at c k w) refl
  where
    no_row : (o : Option Row) → row_at c k w ≡ o → row_at c k w ≡ None
    no_row None e = e
    no_row (Some r) e = absurd (omega (arith, (row_is c k w r e).class, class_in-most r))

-- no row is above type 6
pub type-most : (r : Row) (k : ℕ) → has_type r k ≡ true → k ≤ 6
type-most row.Guest k e = omega (arith, same_number k 0 e)
type-most row.Join k e = omega (arith, same_number k 0 e)
type-most row.Image k e = omega (arith, same_number k 0 e)
type-most row.Sys k e = omega (arith, same_number k 1 e)
type-most row.AskBytes k e = omega (arith, same_number k 2 e)
type-most row.AskText k e = omega (arith, same_number k 3 e)
type-most row.Put k e = omega (arith, same_number k 4 e)
type-most row.Prefork k e = omega (arith, same_number k 5 e)
type-most row.Cancel k e = omega (arith, same_number k 5 e)
type-most row.Preexec k e = omega (arith, same_number k 6 e)
type-most row.Hello k e = omega (arith, same_number k 0 e)
type-most row.Joined k e = omega (arith, same_number k 0 e)
type-most row.Imaged k e = omega (arith, same_number k 0 e)
type-most row.Answered k e = omega (arith, same_number k 1 e)
type-most row.GotBytes k e = omega (arith, same_number k 2 e)
type-most row.GotText k e = omega (arith, same_number k 3 e)
type-most row.Forked k e = omega (arith, same_number k 5 e)
type-most row.Cancelled k e = omega (arith, same_number k 5 e)
type-most row.ExecReady k e = omega (arith, same_number k 6 e)
type-most row.Refused k e = grind (arith, nat_tests)

-- ---- the errors that a frame carries

-- a number that passes a test is that of the error behind it, or a later one's
one_or_later : (w n : ℕ) (x why : SpError) (o : Option SpError) → sp_error_number x ≡ n → (o ≡ Some why → sp_error_number why ≡ w) → cond (w == n) (Some x) o ≡ Some why → sp_error_number why ≡ w
one_or_later w n x why o number later e =
    elim (found_first (w == n) x why o e) [
      | inl here ↦ ap sp_error_number (sym here.1) ∙ number ∙ same_number w n here.0
      | inr others ↦ later others
    ]

-- the error of a number has that number
pub error_number : (w : ℕ) (why : SpError) → sp_error_of w ≡ Some why → sp_error_number why ≡ w
error_number w why =
    one_or_later w 1 error.TryAgain why _ refl
    (one_or_later w 2 error.Auth why _ refl
    (one_or_later w 3 error.BadCookie why _ refl
    (one_or_later w 4 error.ProcFull why _ refl
    (one_or_later w 5 error.InExec why _ refl
    (one_or_later w 6 error.Memory why _ refl
    (one_or_later w 7 error.Malformed why None refl (λ e. absurd cc)))))))

-- a number from 1 to 7 is that of an error
pub error_there : (w : ℕ) → within 1 7 w ≡ true → (why : SpError) × (sp_error_of w ≡ Some why)
error_there zero e = absurd cc
error_there (suc zero) e = (error.TryAgain, refl)
error_there (suc (suc zero)) e = (error.Auth, refl)
error_there (suc (suc (suc zero))) e = (error.BadCookie, refl)
error_there (suc (suc (suc (suc zero)))) e = (error.ProcFull, refl)
error_there (suc (suc (suc (suc (suc zero))))) e = (error.InExec, refl)
error_there (suc (suc (suc (suc (suc (suc zero)))))) e = (error.Memory, refl)
error_there (suc (suc (suc (suc (suc (suc (suc zero))))))) e = (error.Malformed, refl)
error_there (suc (suc (suc (suc (suc (suc (suc (suc n)))))))) e = absurd (omega (arith, (within_is 1 7 (suc (suc (suc (suc (suc (suc (suc (suc n)))))))) e).1))

pub error_word : (why : SpError) → within 1 7 (sp_error_number why) ≡ true
error_word error.TryAgain = refl
error_word error.Auth = refl
error_word error.BadCookie = refl
error_word error.ProcFull = refl
error_word error.InExec = refl
error_word error.Memory = refl
error_word error.Malformed = refl

-- and the number of an error has that error
pub error_again : (why : SpError) → sp_error_of (sp_error_number why) ≡ Some why
error_again error.TryAgain = refl
error_again error.Auth = refl
error_again error.BadCookie = refl
error_again error.ProcFull = refl
error_again error.InExec = refl
error_again error.Memory = refl
error_again error.Malformed = refl
