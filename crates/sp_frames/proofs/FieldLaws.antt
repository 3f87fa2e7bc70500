-- Numbers as bytes and back.
use Rattle.std.proofs.Common.{◌≡◌, ℕ, ◌+◌, ◌^◌, ◌<◌, ◌≤◌, List, [], ◌∷◌, ◌++◌, length, take, drop, refl, sym, ap, ◌∙◌, arith, inl, inr, append_assoc, length-append}
use Rattle.std.specs.List.{AllByRecursion}
use Rattle.std.proofs.lemmas.Bool.{cases_lt}
use Rattle.std.proofs.lemmas.List.{get_or-drop, get_or-take, get_or_past, length-take, length-drop, drop-drop, take_at, drop_at, take-append-drop}
use Rattle.std.proofs.lemmas.Nat.{le_bytes_2, le_bytes_4, le_bytes_8, from_le_bytes-to_le_bytes_2, from_le_bytes-to_le_bytes_4, from_le_bytes-to_le_bytes_8}
use Rattle.sp_frames.specs.Fields.{le16, le32, le64, of16, of32, of64, IsBytes, Number, n16, n32, n64, NumberFits, front_bytes}
use Rattle.sp_frames.specs.Reading.{front_at, front_end}

pub IsBytes-drop : (n : ℕ) (bytes : List ℕ) → IsBytes bytes → IsBytes (drop n bytes)
IsBytes-drop n bytes h i = rw get_or-drop (h (n + i))

pub IsBytes-take : (n : ℕ) (bytes : List ℕ) → IsBytes bytes → IsBytes (take n bytes)
IsBytes-take n bytes h i =
    elim (cases_lt i n) [
      | inl lt ↦ rw (get_or-take n bytes i 0 lt) (h i)
      | inr le ↦ rw (get_or_past (take n bytes) i 0 (omega (arith, length-take n bytes))) (omega arith)
    ]

-- what a number's bytes are, for numbers below a limit
pub record IsField (size limit : ℕ) (le : ℕ → List ℕ) (of : List ℕ → ℕ) : Type 0 where
  pub len : (n : ℕ) → length (le n) ≡ size
  pub back : (bytes : List ℕ) → length bytes ≡ size → IsBytes bytes → le (of bytes) ≡ bytes
  pub again : (n : ℕ) → n < limit → of (le n) ≡ n
  pub below : (bytes : List ℕ) → IsBytes bytes → of bytes < limit

pub field16 : IsField 2 (2 ^ 16) le16 of16
unfolding le16 of16
field16 = record {
  len = λ n. refl;
  back = λ bytes len fits. le_bytes_2 bytes _ len fits refl;
  again = λ n lt. from_le_bytes-to_le_bytes_2 n lt;
  below = λ bytes fits. omega (arith, fits 0, fits 1);
}

pub field32 : IsField 4 (2 ^ 32) le32 of32
unfolding le32 of32
field32 = record {
  len = λ n. refl;
  back = λ bytes len fits. le_bytes_4 bytes _ len fits refl;
  again = λ n lt. from_le_bytes-to_le_bytes_4 n lt;
  below = λ bytes fits. omega (arith, fits 0, fits 1, fits 2, fits 3);
}

pub field64 : IsField 8 (2 ^ 64) le64 of64
unfolding le64 of64
field64 = record {
  len = λ n. refl;
  back = λ bytes len fits. le_bytes_8 bytes _ len fits refl;
  again = λ n lt. from_le_bytes-to_le_bytes_8 n lt;
  below = λ bytes fits. omega (arith, fits 0, fits 1, fits 2, fits 3, fits 4, fits 5, fits 6, fits 7);
}

-- one number that was put is read, and what follows it is left
field_again : {size limit : ℕ} {le : ℕ → List ℕ} {of : List ℕ → ℕ} → IsField size limit le of → (n at : ℕ) (bytes rest : List ℕ) → n < limit → drop at bytes ≡ le n ++ rest
    → (of (take size (drop at bytes)) ≡ n) × (drop (at + size) bytes ≡ rest)
field_again {size} {limit} {le} {of} field n at bytes rest lt e =
    let front : take size (drop at bytes) ≡ le n = ap (take size) e ∙ take_at (le n) rest size (field.len n) in (
      ap of front ∙ field.again n lt,
      sym (drop-drop size at bytes) ∙ ap (drop size) e ∙ drop_at (le n) rest size (field.len n),
    )

-- one number that is read is put again, before what follows it
field_back : {size limit : ℕ} {le : ℕ → List ℕ} {of : List ℕ → ℕ} → IsField size limit le of → (at : ℕ) (bytes : List ℕ) → IsBytes bytes → at + size ≤ length bytes
    → le (of (take size (drop at bytes))) ++ drop (at + size) bytes ≡ drop at bytes
field_back {size} {limit} {le} {of} field at bytes fits long =
    let front : le (of (take size (drop at bytes))) ≡ take size (drop at bytes) =
    field.back (take size (drop at bytes)) (omega (arith, length-take size (drop at bytes), length-drop at bytes, long)) (IsBytes-take size (drop at bytes) (IsBytes-drop at bytes fits)) in
    ap (λ (x : List ℕ). x ++ drop (at + size) bytes) front ∙ ap (λ (x : List ℕ). take size (drop at bytes) ++ x) (sym (drop-drop size at bytes)) ∙ take-append-drop size (drop at bytes)

-- a number that is read is within its width
field_below : {size limit : ℕ} {le : ℕ → List ℕ} {of : List ℕ → ℕ} → IsField size limit le of → (at : ℕ) (bytes : List ℕ) → IsBytes bytes → of (take size (drop at bytes)) < limit
field_below {size} {limit} {le} {of} field at bytes fits = field.below (take size (drop at bytes)) (IsBytes-take size (drop at bytes) (IsBytes-drop at bytes fits))

-- numbers end at the place and their length behind it
pub front_len : (numbers : List Number) (at : ℕ) → at + length (front_bytes numbers) ≡ front_end at numbers
front_len [] at = omega arith
front_len (n16 n ∷ numbers) at = omega (arith, length-append (le16 n) (front_bytes numbers), field16.len n, front_len numbers (at + 2))
front_len (n32 n ∷ numbers) at = omega (arith, length-append (le32 n) (front_bytes numbers), field32.len n, front_len numbers (at + 4))
front_len (n64 n ∷ numbers) at = omega (arith, length-append (le64 n) (front_bytes numbers), field64.len n, front_len numbers (at + 8))

-- numbers that were put are read again, and what follows them is left
pub front_again : (numbers : List Number) (at : ℕ) (bytes rest : List ℕ) → AllByRecursion NumberFits numbers → drop at bytes ≡ front_bytes numbers ++ rest
    → (front_at at numbers bytes ≡ numbers) × (drop (front_end at numbers) bytes ≡ rest)
front_again [] at bytes rest fits e = (refl, e)
front_again (n16 n ∷ numbers) at bytes rest fits e =
    let one = field_again field16 n at bytes (front_bytes numbers ++ rest) fits.0 (e ∙ append_assoc (le16 n) (front_bytes numbers) rest) in
    let others = front_again numbers (at + 2) bytes rest fits.1 one.1 in
    (rw (one.0, others.0) refl, others.1)
front_again (n32 n ∷ numbers) at bytes rest fits e =
    let one = field_again field32 n at bytes (front_bytes numbers ++ rest) fits.0 (e ∙ append_assoc (le32 n) (front_bytes numbers) rest) in
    let others = front_again numbers (at + 4) bytes rest fits.1 one.1 in
    (rw (one.0, others.0) refl, others.1)
front_again (n64 n ∷ numbers) at bytes rest fits e =
    let one = field_again field64 n at bytes (front_bytes numbers ++ rest) fits.0 (e ∙ append_assoc (le64 n) (front_bytes numbers) rest) in
    let others = front_again numbers (at + 8) bytes rest fits.1 one.1 in
    (rw (one.0, others.0) refl, others.1)

front_end-least : (numbers : List Number) (at : ℕ) → at ≤ front_end at numbers
front_end-least numbers at = omega (arith, front_len numbers at)

-- numbers that are read are put again, before what follows them
pub front_back : (numbers : List Number) (at : ℕ) (bytes : List ℕ) → IsBytes bytes → front_end at numbers ≤ length bytes
    → front_bytes (front_at at numbers bytes) ++ drop (front_end at numbers) bytes ≡ drop at bytes
front_back [] at bytes fits long = refl
front_back (n16 n ∷ numbers) at bytes fits long =
    let end = front_end (at + 2) numbers in
    append_assoc (le16 (of16 (take 2 (drop at bytes)))) (front_bytes (front_at (at + 2) numbers bytes)) (drop end bytes)
    ∙ ap (λ (x : List ℕ). le16 (of16 (take 2 (drop at bytes))) ++ x) (front_back numbers (at + 2) bytes fits long)
    ∙ field_back field16 at bytes fits (omega (arith, front_end-least numbers (at + 2)))
front_back (n32 n ∷ numbers) at bytes fits long =
    let end = front_end (at + 4) numbers in
    append_assoc (le32 (of32 (take 4 (drop at bytes)))) (front_bytes (front_at (at + 4) numbers bytes)) (drop end bytes)
    ∙ ap (λ (x : List ℕ). le32 (of32 (take 4 (drop at bytes))) ++ x) (front_back numbers (at + 4) bytes fits long)
    ∙ field_back field32 at bytes fits (omega (arith, front_end-least numbers (at + 4)))
front_back (n64 n ∷ numbers) at bytes fits long =
    let end = front_end (at + 8) numbers in
    append_assoc (le64 (of64 (take 8 (drop at bytes)))) (front_bytes (front_at (at + 8) numbers bytes)) (drop end bytes)
    ∙ ap (λ (x : List ℕ). le64 (of64 (take 8 (drop at bytes))) ++ x) (front_back numbers (at + 8) bytes fits long)
    ∙ field_back field64 at bytes fits (omega (arith, front_end-least numbers (at + 8)))

-- numbers that are read are within their widths
pub front_below : (numbers : List Number) (at : ℕ) (bytes : List ℕ) → IsBytes bytes → AllByRecursion NumberFits (front_at at numbers bytes)
front_below [] at bytes fits = tt
front_below (n16 n ∷ numbers) at bytes fits = (field_below field16 at bytes fits, front_below numbers (at + 2) bytes fits)
front_below (n32 n ∷ numbers) at bytes fits = (field_below field32 at bytes fits, front_below numbers (at + 4) bytes fits)
front_below (n64 n ∷ numbers) at bytes fits = (field_below field64 at bytes fits, front_below numbers (at + 8) bytes fits)

-- a list of no length is empty
pub no_items : (bytes : List ℕ) → length bytes ≡ 0 → [] ≡ bytes
no_items [] e = refl
no_items (x ∷ bytes) e = cc

-- bytes that are numbers and nothing more are put again whole
pub front_whole : (numbers : List Number) (bytes : List ℕ) → IsBytes bytes → length bytes ≡ front_end 0 numbers → front_bytes (front_at 0 numbers bytes) ++ [] ≡ bytes
front_whole numbers bytes fits len =
    let none : [] ≡ drop (front_end 0 numbers) bytes = no_items (drop (front_end 0 numbers) bytes) (omega (arith, length-drop (front_end 0 numbers) bytes)) in
    ap (λ (x : List ℕ). front_bytes (front_at 0 numbers bytes) ++ x) none ∙ front_back numbers 0 bytes fits (omega (arith, len))
