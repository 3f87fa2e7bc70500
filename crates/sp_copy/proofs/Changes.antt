-- What a write changes.
use Rattle.std.proofs.Common.{◌≡◌, ℕ, zero, suc, ◌+◌, ◌-◌, ◌<◌, ◌≤◌, ◌&&◌, ◌⊎◌, inl, inr, Bool, List, [], ◌∷◌, ◌++◌, length, take, drop, get_or, set, Option, Some, None, refl, ap, sym, ◌∙◌, subst, arith, nat_lt, nat_le, cond, true, false}
use Rattle.std.proofs.lemmas.List.{places}
use Rattle.std.specs.Prelude.{slice_get, slice_index_or}
use Rattle.std.specs.Option.{option_map}
use Rattle.std.proofs.lemmas.Bool.Decides.{nat_tests}
use Rattle.std.proofs.lemmas.Grind.{common_steps}
use Rattle.std.proofs.lemmas.Option.{slice_get-get_or, slice_get_past}
use Rattle.sp_copy.specs.declared.part.Part.{Part}
use Rattle.sp_copy.specs.Parts.{in_range, root_part}
use Rattle.sp_copy.specs.Faults.{fault_of}
use Rattle.sp_copy.specs.Writing.{ChangesOnly, IsSamePart, put_in, taker, takes, written, written_at}
use Rattle.sp_copy.proofs.Places.{one_changes, same_fault}

-- the part at the place that was found takes the range
pub taker_takes : (addr len : ℕ) (ps : List Part) (i : ℕ) → taker addr len ps ≡ Some i → (d : Part) → (i < length ps) × (takes addr len (get_or ps i d) ≡ true)
taker_takes addr len [] i h d = absurd (cc)
taker_takes addr len (p ∷ ps) i h d =
    elim (takes addr len p) as (λ b. takes addr len p ≡ b → cond b (Some 0) (option_map suc (taker addr len ps)) ≡ Some i → (i < suc (length ps)) × (takes addr len (get_or (p ∷ ps) i d) ≡ true)) [
      | true ↦ λ t e. first t e
      | false ↦ λ t e. later (taker addr len ps) refl (λ k f. taker_takes addr len ps k f d) e
    ] refl h
  where
    first : takes addr len p ≡ true → Some 0 ≡ Some i → (i < suc (length ps)) × (takes addr len (get_or (p ∷ ps) i d) ≡ true)
    first t e = let zero_is : 0 ≡ i = cc in subst (λ (n : ℕ). (n < suc (length ps)) × (takes addr len (get_or (p ∷ ps) n d) ≡ true)) zero_is (omega arith, t)

    later : (found : Option ℕ) → taker addr len ps ≡ found → ((k : ℕ) → taker addr len ps ≡ Some k → (k < length ps) × (takes addr len (get_or ps k d) ≡ true)) → option_map suc found ≡ Some i → (i < suc (length ps)) × (takes addr len (get_or (p ∷ ps) i d) ≡ true)
    later None e rec h = absurd (cc)
    later (Some k) e rec h =
        let rest = rec k e in
        let next : suc k ≡ i = cc in
        subst (λ (n : ℕ). (n < suc (length ps)) × (takes addr len (get_or (p ∷ ps) n d) ≡ true)) next (omega (arith, rest.0), rest.1)

pub length_put : (old new : List ℕ) (at : ℕ) → at + length new ≤ length old → length old ≡ length (take at old ++ new ++ drop (at + length new) old)
length_put old new at h = grind (arith, places)

pub fits_of_takes : (addr len : ℕ) (p : Part) → takes addr len p ≡ true → (p.base ≤ addr) × (addr - p.base + len ≤ length p.bytes)
fits_of_takes addr len p h = (grind (arith, nat_tests, common_steps), grind (arith, nat_tests, common_steps))

value_stays : (old new : List ℕ) (at k : ℕ) → at + length new ≤ length old → k < length old → (k < at) ⊎ (at + length new ≤ k) → get_or old k 0 ≡ get_or (take at old ++ new ++ drop (at + length new) old) k 0
value_stays old new at k h l (inl b) = grind (arith, places)
value_stays old new at k h l (inr b) = grind (arith, places)

-- a byte before or behind what was put stays
byte_stays : (old new : List ℕ) (at k : ℕ) → at + length new ≤ length old → (k < at) ⊎ (at + length new ≤ k) → slice_get old k ≡ slice_get (take at old ++ new ++ drop (at + length new) old) k
byte_stays old new at k h o =
    elim (nat_lt k (length old)) as (λ b. nat_lt k (length old) ≡ b → slice_get old k ≡ slice_get put k) [
      | true ↦ λ e. within (grind (arith, nat_tests))
      | false ↦ λ e. past (grind (arith, nat_tests))
    ] refl
  where
    put : List ℕ
    put = take at old ++ new ++ drop (at + length new) old

    within : k < length old → slice_get old k ≡ slice_get put k
    within l = slice_get-get_or old k 0 l ∙ ap (λ (x : ℕ). Some x) (value_stays old new at k h l o) ∙ sym (slice_get-get_or put k 0 (subst (λ (n : ℕ). k < n) (length_put old new at h) l))

    past : length old ≤ k → slice_get old k ≡ slice_get put k
    past l = slice_get_past old k l ∙ sym (slice_get_past put k (subst (λ (n : ℕ). n ≤ k) (length_put old new at h) l))

outside : (addr base at len k : ℕ) → base ≤ addr → at ≡ addr - base → in_range addr len (base + k) ≡ false → (k < at) ⊎ (at + len ≤ k)
outside addr base at len k l is h =
    elim (nat_lt k at) as (λ b. nat_lt k at ≡ b → (k < at) ⊎ (at + len ≤ k)) [
      | true ↦ λ e. inl (grind (arith, nat_tests))
      | false ↦ λ e. inr (grind (arith, nat_tests, common_steps))
    ] refl

-- a part into which bytes are put changes in their range alone
put_changes : (addr : ℕ) (bytes : List ℕ) (p : Part) → takes addr (length bytes) p ≡ true → IsSamePart (in_range addr (length bytes)) p (put_in p addr bytes)
put_changes addr bytes p t =
    let fits = fits_of_takes addr (length bytes) p t in
    record {
      base = refl;
      right = refl;
      len = length_put p.bytes bytes (addr - p.base) fits.1;
      bytes = λ k h. byte_stays p.bytes bytes (addr - p.base) k fits.1 (outside addr p.base (addr - p.base) (length bytes) k fits.0 refl h);
    }

-- a write changes bytes in its range alone
pub written_changes : (parts new : List Part) (addr : ℕ) (bytes : List ℕ) → written parts addr bytes ≡ Some new → ChangesOnly (in_range addr (length bytes)) parts new
written_changes parts new addr bytes h = by_taker (taker addr (length bytes) parts) refl h
  where
    by_taker : (found : Option ℕ) → taker addr (length bytes) parts ≡ found → written_at parts addr bytes found ≡ Some new → ChangesOnly (in_range addr (length bytes)) parts new
    by_taker None e h = absurd (cc)
    by_taker (Some i) e h =
        let there = taker_takes addr (length bytes) parts i e root_part in
        let is : set parts i (put_in (get_or parts i root_part) addr bytes) ≡ new = cc in
        subst (ChangesOnly (in_range addr (length bytes)) parts) is (one_changes (in_range addr (length bytes)) parts i (put_in (get_or parts i root_part) addr bytes) root_part there.0 (put_changes addr bytes (get_or parts i root_part) there.1))

-- what is written into a memory is a memory
pub written_keeps : (parts new : List Part) (addr : ℕ) (bytes : List ℕ) → written parts addr bytes ≡ Some new → fault_of new ≡ fault_of parts
written_keeps parts new addr bytes h = sym (same_fault (in_range addr (length bytes)) parts new (written_changes parts new addr bytes h))
