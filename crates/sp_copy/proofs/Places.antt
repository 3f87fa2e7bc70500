-- A memory's faults depend on where its parts lie, and not on their bytes.
use Rattle.std.proofs.Common.{◌≡◌, ℕ, zero, suc, ◌+◌, ◌-◌, ◌<◌, ◌≤◌, Bool, List, [], ◌∷◌, ◌++◌, length, take, drop, get_or, set, Option, Some, None, refl, ap, sym, ◌∙◌, arith, nat_lt, cond, not, true, false}
use Rattle.std.proofs.lemmas.List.{places}
use Rattle.std.specs.List.{position_or_len}
use Rattle.std.specs.Prelude.{position, slice_get}
use Rattle.std.specs.Option.{option_map}
use Rattle.std.proofs.lemmas.Bool.Decides.{nat_tests}
use Rattle.std.proofs.lemmas.Grind.{common_steps}
use Rattle.sp_copy.specs.declared.part.Part.{Part}
use Rattle.sp_copy.specs.declared.fault.MemFault.TheVariants.{Overlap}
use Rattle.sp_copy.specs.Parts.{share_address}
use Rattle.sp_copy.specs.Faults.{own_fault, bounds_fault, overlap_fault, overlap_of, fault_of, or_later}
use Rattle.sp_copy.specs.Writing.{ChangesOnly, IsSamePart, takes}

pub part_stays : (changes : ℕ → Bool) (p : Part) → IsSamePart changes p p
part_stays changes p = record { base = refl; right = refl; len = refl; bytes = λ k h. refl }

pub all_stay : (changes : ℕ → Bool) (ps : List Part) → ChangesOnly changes ps ps
all_stay changes [] = tt
all_stay changes (p ∷ ps) = (part_stays changes p, all_stay changes ps)

-- a list with one part changed
pub one_changes : (changes : ℕ → Bool) (ps : List Part) (i : ℕ) (q d : Part) → i < length ps → IsSamePart changes (get_or ps i d) q → ChangesOnly changes ps (set ps i q)
one_changes changes [] i q d l a = tt
one_changes changes (p ∷ ps) zero q d l a = (a, all_stay changes ps)
one_changes changes (p ∷ ps) (suc i) q d l a = (part_stays changes p, one_changes changes ps i q d (omega arith) a)

same_push : (changes : ℕ → Bool) (ps qs : List Part) (p q : Part) → ChangesOnly changes ps qs → IsSamePart changes p q → ChangesOnly changes (ps ++ p ∷ []) (qs ++ q ∷ [])
same_push changes [] [] p q s a = (a, tt)
same_push changes (x ∷ ps) (y ∷ qs) p q s a = (s.0, same_push changes ps qs p q s.1 a)
same_push changes [] (y ∷ qs) p q s a = absurd s
same_push changes (x ∷ ps) [] p q s a = absurd s

same_length : (changes : ℕ → Bool) (ps qs : List Part) → ChangesOnly changes ps qs → length ps ≡ length qs
same_length changes [] [] s = refl
same_length changes (x ∷ ps) (y ∷ qs) s = ap suc (same_length changes ps qs s.1)
same_length changes [] (y ∷ qs) s = absurd s
same_length changes (x ∷ ps) [] s = absurd s

same_own : (changes : ℕ → Bool) (i : ℕ) (p q : Part) → IsSamePart changes p q → own_fault i p ≡ own_fault i q
same_own changes i p q a = rw (a.base, a.len) refl

same_share : (changes : ℕ → Bool) (p q x y : Part) → IsSamePart changes p q → IsSamePart changes x y → share_address p x ≡ share_address q y
same_share changes p q x y a b = rw (a.base, a.len, b.base, b.len) refl

same_bounds : (changes : ℕ → Bool) (i : ℕ) (ps qs : List Part) → ChangesOnly changes ps qs → bounds_fault i ps ≡ bounds_fault i qs
same_bounds changes i [] [] s = refl
same_bounds changes i (x ∷ ps) (y ∷ qs) s = λ j. or_later (same_own changes i x y s.0 j) (same_bounds changes (i + 1) ps qs s.1 j)
same_bounds changes i [] (y ∷ qs) s = absurd s
same_bounds changes i (x ∷ ps) [] s = absurd s

same_first : (changes : ℕ → Bool) (p q : Part) (ps qs : List Part) → IsSamePart changes p q → ChangesOnly changes ps qs → position_or_len (share_address p) ps ≡ position_or_len (share_address q) qs
same_first changes p q [] [] a s = refl
same_first changes p q (x ∷ ps) (y ∷ qs) a s = λ j. cond (not (same_share changes p q x y a s.0 j)) (1 + same_first changes p q ps qs a s.1 j) 0
same_first changes p q [] (y ∷ qs) a s = absurd s
same_first changes p q (x ∷ ps) [] a s = absurd s

same_position : (changes : ℕ → Bool) (p q : Part) (ps qs : List Part) → IsSamePart changes p q → ChangesOnly changes ps qs → position (share_address p) ps ≡ position (share_address q) qs
same_position changes p q ps qs a s = λ j. cond (nat_lt (same_first changes p q ps qs a s j) (same_length changes ps qs s j)) (Some (same_first changes p q ps qs a s j)) None

same_overlap : (changes : ℕ → Bool) (us vs ps qs : List Part) → ChangesOnly changes us vs → ChangesOnly changes ps qs → overlap_fault us ps ≡ overlap_fault vs qs
same_overlap changes us vs [] [] t s = refl
same_overlap changes us vs (x ∷ ps) (y ∷ qs) t s = λ j. or_later (option_map (λ i. Overlap i (same_length changes us vs t j)) (same_position changes x y us vs s.0 t j)) (same_overlap changes (us ++ x ∷ []) (vs ++ y ∷ []) ps qs (same_push changes us vs x y t s.0) s.1 j)
same_overlap changes us vs [] (y ∷ qs) t s = absurd s
same_overlap changes us vs (x ∷ ps) [] t s = absurd s

pub same_fault : (changes : ℕ → Bool) (ps qs : List Part) → ChangesOnly changes ps qs → fault_of ps ≡ fault_of qs
same_fault changes ps qs s = λ j. or_later (same_bounds changes 0 ps qs s j) (same_overlap changes [] [] ps qs tt s j)
