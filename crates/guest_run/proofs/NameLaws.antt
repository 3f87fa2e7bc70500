-- A guest's name fits the frame of a new guest.
use Rattle.std.proofs.Common.{◌≡◌, ℕ, ◌<◌, ◌≤◌, ◌^◌, Bool, true, false, List, [], ◌∷◌, length, refl, arith}
use Rattle.std.proofs.lemmas.Bool.Decides.{nat_tests}
use Rattle.std.proofs.lemmas.Grind.{common_steps}
use Rattle.std.specs.Prelude.{◌==◌, ◌&&◌, nat_le, slice_index}
use Rattle.std.specs.List.{list_all, list_any}
use Rattle.sp_frames.specs.Grammar.{IsName}
use Rattle.guest_language.specs.Names.{is_letter, is_name, is_name_byte}

both_first : (a b : Bool) → (a && b) ≡ true → a ≡ true
both_first true b e = refl
both_first false b e = absurd cc

both_second : (a b : Bool) → (a && b) ≡ true → b ≡ true
both_second true b e = e
both_second false b e = absurd cc

-- a byte of a name isn't zero
name_byte : (b : ℕ) → is_name_byte b ≡ true → (b == 0) ≡ false
name_byte b e = grind (arith, nat_tests, common_steps)

no_zero : (word : List ℕ) → list_all is_name_byte word ≡ true → list_any (λ b. b == 0) word ≡ false
no_zero [] e = refl
no_zero (b ∷ word) e = rw (name_byte b (both_first (is_name_byte b) _ e), no_zero word (both_second (is_name_byte b) _ e)) refl

not_empty : (word : List ℕ) → is_letter (slice_index word 0) ≡ true → 0 < length word
not_empty [] e = absurd cc
not_empty (b ∷ word) e = omega arith

pub name_is : (word : List ℕ) → is_name word ≡ true → ((i : ℕ) → slice_index word i < 2 ^ 8) → IsName word
unfolding is_name
name_is word named bytes =
    let front = both_first (is_letter (slice_index word 0) && nat_le (length word) 31) _ named in
    let few : nat_le (length word) 31 ≡ true = both_second (is_letter (slice_index word 0)) _ front in
    let small : length word ≤ 31 = grind (arith, nat_tests) in
    record {
      some = not_empty word (both_first (is_letter (slice_index word 0)) _ front);
      few = omega arith;
      bytes = bytes;
      nonzero = no_zero word (both_second (is_letter (slice_index word 0) && nat_le (length word) 31) _ named);
    }
