-- The parts of a line rise, and are few.
use Rattle.std.proofs.Common.{◌≡◌, ℕ, ◌+◌, ◌*◌, ◌<◌, ◌≤◌, ◌^◌, ◌==◌, ◌||◌, ◌⊎◌, Bool, true, false, cond, List, [], ◌∷◌, ◌++◌, length, Option, Some, None, refl, arith, length-append, nat_lt, replicate, subst}
use Rattle.std.proofs.lemmas.Bool.Decides.{nat_tests}
use Rattle.std.proofs.lemmas.Grind.{common_steps}
use Rattle.sp_copy.specs.declared.part.Part.{Part}
use Rattle.sp_copy.specs.declared.part.Right.{Right}
use Rattle.sp_copy.specs.Faults.{Rises, RisesFrom}
use Rattle.sp_copy.specs.Parts.{end_of}
use Rattle.guest_language.specs.declared.slot.Made.{Made}
use Rattle.guest_language.specs.declared.slot.Slot.{Slot}
use Rattle.guest_language.specs.declared.slot.Slot.TheVariants.{Blank, Entries, Filled, Given, Nothing}
use Rattle.guest_language.specs.declared.slot.TheConstants.{FIRST, SECOND}
use Rattle.guest_language.specs.Memory.{call_words, line_made, made_parts, memory_of, part_of, slot_part}
use Rattle.script_words.specs.Words.{words_of}

rises_lower : (low high : ℕ) (ps : List Part) → low ≤ high → RisesFrom high ps → RisesFrom low ps
rises_lower low high [] l r = tt
rises_lower low high (p ∷ ps) l r = (omega (arith, r.0), r.1, r.2)

-- a part and those behind it
part_rises : (low base high : ℕ) (right : Right) (bytes : List ℕ) (ps : List Part) → low ≤ base → base + FIRST ≤ high → high ≤ 2 ^ 40 → RisesFrom high ps → RisesFrom low (part_of base right bytes ++ ps)
unfolding part_of
part_rises low base high right bytes ps l h top r =
    elim (length bytes == 0 || nat_lt FIRST (length bytes)) as (λ b. (length bytes == 0 || nat_lt FIRST (length bytes)) ≡ b → RisesFrom low (cond b [] (record { base = base; right = right; bytes = bytes } ∷ []) ++ ps)) [
      | true ↦ λ e. rises_lower low high ps (omega (arith, l, h)) r
      | false ↦ λ e. here (short e)
    ] refl
  where
    short : (length bytes == 0 || nat_lt FIRST (length bytes)) ≡ false → length bytes ≤ FIRST
    short e = grind (arith, nat_tests, common_steps)

    here : length bytes ≤ FIRST → RisesFrom low (record { base = base; right = right; bytes = bytes } ∷ ps)
    here s = (l, omega (arith, s, h, top), rises_lower (base + length bytes) high ps (omega (arith, s, h)) r)

slot_rises : (low base high : ℕ) (slot : Slot) (ps : List Part) → low ≤ base → base + FIRST ≤ high → high ≤ 2 ^ 40 → RisesFrom high ps → RisesFrom low (slot_part base slot ++ ps)
slot_rises low base high Nothing ps l h top r = rises_lower low high ps (omega (arith, l, h)) r
slot_rises low base high (Given bytes) ps l h top r = part_rises low base high _ bytes ps l h top r
slot_rises low base high (Filled len) ps l h top r = part_rises low base high _ (replicate len 120) ps l h top r
slot_rises low base high (Blank len) ps l h top r = part_rises low base high _ (replicate len 0) ps l h top r
slot_rises low base high (Entries bytes) ps l h top r = part_rises low base high _ bytes ps l h top r

no_more : (ps : List Part) → ps ++ [] ≡ ps
no_more [] = refl
no_more (p ∷ ps) = λ j. p ∷ no_more ps j

made_rises : (made : Option Made) → Rises (made_parts made)
made_rises None = tt
made_rises (Some made) =
    slot_rises 4096 FIRST SECOND made.first (slot_part SECOND made.second) (omega arith) (omega arith) (omega arith)
    (subst (RisesFrom SECOND) (no_more (slot_part SECOND made.second))
    (slot_rises SECOND SECOND (SECOND + FIRST) made.second [] (omega arith) (omega arith) (omega arith) tt))

-- the parts of a line rise
pub memory_rises : (text : List ℕ) → Rises (memory_of text)
memory_rises text = made_rises (line_made (call_words (words_of text)))

part_one : (base : ℕ) (right : Right) (bytes : List ℕ) → length (part_of base right bytes) ≤ 1
unfolding part_of
part_one base right bytes = by_test (length bytes == 0 || nat_lt FIRST (length bytes))
  where
    one : Part
    one = record { base = base; right = right; bytes = bytes }

    by_test : (b : Bool) → length (cond b [] (one ∷ [])) ≤ 1
    by_test true = omega arith
    by_test false = omega arith

slot_one : (base : ℕ) (slot : Slot) → length (slot_part base slot) ≤ 1
slot_one base Nothing = omega arith
slot_one base (Given bytes) = part_one base _ bytes
slot_one base (Filled len) = part_one base _ (replicate len 120)
slot_one base (Blank len) = part_one base _ (replicate len 0)
slot_one base (Entries bytes) = part_one base _ bytes

made_few : (made : Option Made) → length (made_parts made) ≤ 2
made_few None = omega arith
made_few (Some made) =
    let first = slot_one FIRST made.first in
    let second = slot_one SECOND made.second in
    omega (arith, first, second, length-append (slot_part FIRST made.first) (slot_part SECOND made.second))

-- the parts of a line are at most two
pub memory_few : (text : List ℕ) → length (memory_of text) ≤ 2
memory_few text = made_few (line_made (call_words (words_of text)))
