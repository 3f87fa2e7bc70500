-- A number that is printed is read again.
use Rattle.std.proofs.Common.{◌≡◌, ℕ, ◌+◌, ◌*◌, ◌^◌, ◌<◌, ◌≤◌, ◌==◌, ◌&&◌, nat_lt, Bool, true, false, List, [], ◌∷◌, Option, Some, None, refl, ap, sym, subst, ◌∙◌, arith, cond, if◌then◌else◌, length, slice_index}
use Rattle.std.proofs.lemmas.Bool.Decides.{nat_tests}
use Rattle.std.proofs.lemmas.Grind.{common_steps}
use Rattle.std.proofs.lemmas.Fmt.{digits_decimal, digits_value-decimal, decimal_nonempty}
use Rattle.std.proofs.lemmas.Str.Parse.{numerals_by_value, tells_digits}
use Rattle.std.specs.Fmt.{decimal}
use Rattle.std.specs.Char.{is_digit, digit_value}
use Rattle.std.specs.Str.Parse.{AllDigits, digits_value, digits_value_after}
use Rattle.script_words.specs.Steps.{◌>>=◌}
use Rattle.script_words.specs.Numbers.{digit_in, numeral, numeral_after, number_of}

digit_is : (c : ℕ) → digit_value c < 10 → digit_in 10 c ≡ Some (digit_value c)
unfolding digit_in
digit_is c h = grind (arith, nat_tests)

grows : (n : ℕ) (ds : List ℕ) → n ≤ digits_value_after 10 n ds
grows n [] = omega arith
grows n (c ∷ cs) = let more = grows (n * 10 + digit_value c) cs in omega (arith, more)

fits : (n d : ℕ) (r : Option ℕ) → n * 10 + d < 2 ^ 64 → (if nat_lt (n * 10 + d) (2 ^ 64) then r else None) ≡ r
fits n d r h = grind (arith, nat_tests)

after_value : (n : ℕ) (ds : List ℕ) → AllDigits 10 ds → digits_value_after 10 n ds < 2 ^ 64 → numeral_after 10 n ds ≡ Some (digits_value_after 10 n ds)
after_value n [] d h = refl
after_value n (c ∷ cs) d h =
    let next = n * 10 + digit_value c in
    let small : next < 2 ^ 64 = omega (arith, grows next cs) in
    ap (λ (o : Option ℕ). o >>= (λ d. if nat_lt (n * 10 + d) (2 ^ 64) then numeral_after 10 (n * 10 + d) cs else None)) (digit_is c d.0)
    ∙ fits n (digit_value c) (numeral_after 10 next cs) small
    ∙ after_value next cs d.1 h

-- a second digit isn't `x`
no_x : (c e : ℕ) → digit_value e < 10 → ((c == 48) && (e == 120)) ≡ false
no_x c e h = grind (arith, nat_tests, common_steps)

no_second : (c : ℕ) → ((c == 48) && false) ≡ false
no_second c = grind (arith, common_steps)

read_digits : (ds : List ℕ) → AllDigits 10 ds → 0 < length ds → digits_value 10 ds < 2 ^ 64 → number_of ds ≡ Some (digits_value 10 ds)
unfolding number_of numeral
read_digits [] d l h = absurd (omega arith)
read_digits (c ∷ []) d l h = rw (no_second c) (after_value 0 (c ∷ []) d h)
read_digits (c ∷ e ∷ cs) d l h = rw (no_x c e d.1.0) (after_value 0 (c ∷ e ∷ cs) d h)

pub decimal_read : (n : ℕ) → n < 2 ^ 64 → number_of (decimal n) ≡ Some n
decimal_read n h =
    let own = numerals_by_value _ tells_digits in
    let digits = digits_decimal own n h in
    let value : digits_value 10 (decimal n) ≡ n = digits_value-decimal own n h in
    let small : digits_value 10 (decimal n) < 2 ^ 64 = omega (arith, value) in
    read_digits (decimal n) digits (decimal_nonempty n h) small ∙ ap (λ (k : ℕ). Some k) value
