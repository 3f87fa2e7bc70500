-- What is printed in quotes is read again.
use Rattle.std.proofs.Common.{◌≡◌, ℕ, ◌+◌, ◌-◌, ◌*◌, ◌/◌, ◌%◌, ◌<◌, ◌≤◌, ◌==◌, ◌&&◌, nat_lt, nat_le, Bool, true, false, List, [], ◌∷◌, ◌++◌, Option, Some, None, refl, ap, sym, ◌∙◌, append_assoc, arith, cond, if◌then◌else◌, ◌≢◌, inl, inr, subst}
use Rattle.std.proofs.lemmas.Bool.{cases_eq}
use Rattle.std.proofs.lemmas.List.{append-nil}
use Rattle.std.proofs.lemmas.Bool.Decides.{nat_tests}
use Rattle.std.proofs.lemmas.Grind.{common_steps}
use Rattle.std.specs.List.{flat_map, AllByRecursion}
use Rattle.std.specs.Char.{is_digit, digit_value}
use Rattle.script_words.specs.Texts.{escape_len, escaped, hex_byte, text_from, text_of}
use Rattle.script_words.specs.Numbers.{digit_in}
use Rattle.script_words.specs.Spelling.{quoted_byte, quoted, hex_char}

digit_read : (d : ℕ) → d < 16 → digit_in 16 (hex_char d) ≡ Some d
unfolding digit_in
digit_read d h = grind (arith, nat_tests)

hex_read : (b : ℕ) → b < 256 → hex_byte (digit_in 16 (hex_char (b / 16))) (digit_in 16 (hex_char (b % 16))) ≡ Some b
hex_read b h =
    let hi : b / 16 < 16 = omega arith in
    let lo : b % 16 < 16 = omega arith in
    let both : 16 * (b / 16) + b % 16 ≡ b = omega arith in
    rw (digit_read (b / 16) hi, digit_read (b % 16) lo) (ap (λ (n : ℕ). Some n) both)

abbrev Reads : List ℕ → ℕ → List ℕ → Type 0
Reads front b rest = text_from front 0 (quoted_byte b ++ rest) ≡ text_from (front ++ b ∷ []) 0 rest

quote_read : (front rest : List ℕ) → Reads front 34 rest
unfolding quoted_byte escaped escape_len
quote_read front rest = refl

slash_read : (front rest : List ℕ) → Reads front 92 rest
unfolding quoted_byte escaped escape_len
slash_read front rest = refl

line_read : (front rest : List ℕ) → Reads front 10 rest
unfolding quoted_byte escaped escape_len
line_read front rest = refl

abbrev plain : ℕ → Bool
plain b = nat_le 32 b && nat_le b 126

quoted_plain : (b : ℕ) → b ≢ 34 → b ≢ 92 → plain b ≡ true → quoted_byte b ≡ b ∷ []
unfolding quoted_byte
quoted_plain b q s p = grind (arith, nat_tests, common_steps)

quoted_other : (b : ℕ) → b ≢ 34 → b ≢ 92 → b ≢ 10 → plain b ≡ false → quoted_byte b ≡ 92 ∷ 120 ∷ hex_char (b / 16) ∷ hex_char (b % 16) ∷ []
unfolding quoted_byte
quoted_other b q s l p = grind (arith, nat_tests, common_steps)

text_plain : (front : List ℕ) (b : ℕ) (rest : List ℕ) → b ≢ 34 → b ≢ 92 → text_from front 0 (b ∷ rest) ≡ text_from (front ++ b ∷ []) 0 rest
text_plain front b rest q s = grind (arith, nat_tests)

text_hex : (front : List ℕ) (h l b : ℕ) (rest : List ℕ) → hex_byte (digit_in 16 h) (digit_in 16 l) ≡ Some b → text_from front 0 (92 ∷ 120 ∷ h ∷ l ∷ rest) ≡ text_from (front ++ b ∷ []) 0 rest
unfolding escaped escape_len
text_hex front h l b rest e = rw e refl

other_read : (front : List ℕ) (b : ℕ) (rest : List ℕ) → b < 256 → b ≢ 34 → b ≢ 92 → b ≢ 10 → (t : Bool) → plain b ≡ t → Reads front b rest
other_read front b rest h q s l true e = ap (λ (bs : List ℕ). text_from front 0 (bs ++ rest)) (quoted_plain b q s e) ∙ text_plain front b rest q s
other_read front b rest h q s l false e = ap (λ (bs : List ℕ). text_from front 0 (bs ++ rest)) (quoted_other b q s l e) ∙ text_hex front _ _ b rest (hex_read b h)

-- a byte as it is printed is read as that byte
byte_read : (front : List ℕ) (b : ℕ) (rest : List ℕ) → b < 256 → Reads front b rest
byte_read front b rest h =
    elim (cases_eq b 34) [
      | inl e ↦ subst (λ (n : ℕ). Reads front n rest) (sym e) (quote_read front rest)
      | inr q ↦ elim (cases_eq b 92) [
        | inl e ↦ subst (λ (n : ℕ). Reads front n rest) (sym e) (slash_read front rest)
        | inr s ↦ elim (cases_eq b 10) [
          | inl e ↦ subst (λ (n : ℕ). Reads front n rest) (sym e) (line_read front rest)
          | inr l ↦ other_read front b rest h q s l (plain b) refl
        ]
      ]
    ]

quoted_from : (front bs : List ℕ) → AllByRecursion (λ b. b < 256) bs → text_from front 0 (flat_map quoted_byte bs ++ 34 ∷ []) ≡ Some (front ++ bs)
quoted_from front [] h = ap (λ (x : List ℕ). Some x) (sym (append-nil front))
quoted_from front (b ∷ bs) h =
    ap (λ (x : List ℕ). text_from front 0 x) (append_assoc (quoted_byte b) (flat_map quoted_byte bs) (34 ∷ []))
    ∙ byte_read front b (flat_map quoted_byte bs ++ 34 ∷ []) h.0
    ∙ quoted_from (front ++ b ∷ []) bs h.1
    ∙ ap (λ (x : List ℕ). Some x) (append_assoc front (b ∷ []) bs)

-- bytes in quotes are read as those bytes
pub quoted_read : (bs : List ℕ) → AllByRecursion (λ b. b < 256) bs → text_of (quoted bs) ≡ Some bs
unfolding text_of
quoted_read bs h = quoted_from [] bs h
