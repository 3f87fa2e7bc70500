-- Parts that rise have no fault.
use Rattle.std.proofs.Common.{◌≡◌, ℕ, zero, suc, ◌+◌, ◌<◌, ◌≤◌, List, [], ◌∷◌, ◌++◌, length, Bool, true, false, not, nat_lt, cond, Option, Some, None, refl, ap, sym, ◌∙◌, subst, arith, ◌^◌}
use Rattle.std.specs.List.{position_or_len}
use Rattle.std.specs.Prelude.{position}
use Rattle.std.specs.Option.{option_map}
use Rattle.std.proofs.lemmas.Bool.Decides.{nat_tests}
use Rattle.std.proofs.lemmas.Grind.{common_steps}
use Rattle.sp_copy.specs.declared.part.Part.{Part}
use Rattle.sp_copy.specs.declared.fault.MemFault.TheVariants.{Overlap}
use Rattle.sp_copy.specs.Parts.{end_of, share_address}
use Rattle.sp_copy.specs.Faults.{Rises, RisesFrom, bounds_fault, fault_of, or_later, overlap_fault, own_fault}

-- parts that end before an address
abbrev EndBy : ℕ → List Part → Type 0
EndBy low [] = Unit {0}
EndBy low (p ∷ ps) = (end_of p ≤ low) × EndBy low ps

own_none : (i : ℕ) (p : Part) → 4096 ≤ p.base → end_of p ≤ 2 ^ 63 → own_fault i p ≡ None
own_none i p l h = grind (arith, nat_tests)

bounds_none : (i low : ℕ) (ps : List Part) → 4096 ≤ low → RisesFrom low ps → bounds_fault i ps ≡ None
bounds_none i low [] l r = refl
bounds_none i low (p ∷ ps) l r =
    let base : 4096 ≤ p.base = omega (arith, r.0) in
    let end : 4096 ≤ end_of p = omega (arith, r.0) in
    λ j. or_later (own_none i p base r.1 j) (bounds_none (i + 1) (end_of p) ps end r.2 j)

apart : (p q : Part) → end_of q ≤ p.base → share_address p q ≡ false
apart p q h = grind (arith, nat_tests, common_steps)

none_shares : (p : Part) (qs : List Part) → EndBy p.base qs → position_or_len (share_address p) qs ≡ length qs
none_shares p [] e = refl
none_shares p (q ∷ qs) e = ap (λ (b : Bool). cond (not b) (1 + position_or_len (share_address p) qs) 0) (apart p q e.0) ∙ ap (λ (n : ℕ). 1 + n) (none_shares p qs e.1) ∙ omega arith

none_first : (p : Part) (qs : List Part) → EndBy p.base qs → position (share_address p) qs ≡ None
none_first p qs e = ap (λ (n : ℕ). cond (nat_lt n (length qs)) (Some n) None) (none_shares p qs e) ∙ at_end (length qs)
  where
    at_end : (n : ℕ) → cond (nat_lt n n) (Some n) None ≡ None
    at_end n = grind (arith, nat_tests)

end_later : (low high : ℕ) (ps : List Part) → low ≤ high → EndBy low ps → EndBy high ps
end_later low high [] l e = tt
end_later low high (p ∷ ps) l e = (omega (arith, e.0), end_later low high ps l e.1)

end_push : (low : ℕ) (ps : List Part) (p : Part) → EndBy low ps → end_of p ≤ low → EndBy low (ps ++ p ∷ [])
end_push low [] p e h = (h, tt)
end_push low (q ∷ qs) p e h = (e.0, end_push low qs p e.1 h)

overlap_none : (low : ℕ) (done ps : List Part) → EndBy low done → RisesFrom low ps → overlap_fault done ps ≡ None
overlap_none low done [] e r = refl
overlap_none low done (p ∷ ps) e r =
    let before = end_later low p.base done r.0 e in
    let le : p.base ≤ end_of p = omega arith in
    let all = end_push (end_of p) done p (end_later p.base (end_of p) done le before) (omega arith) in
    λ j. or_later (option_map (λ i. Overlap i (length done)) (none_first p done before j)) (overlap_none (end_of p) (done ++ p ∷ []) ps all r.2 j)

pub rising : (ps : List Part) → Rises ps → fault_of ps ≡ None
rising ps r = λ j. or_later (bounds_none 0 4096 ps (omega arith) r j) (overlap_none 4096 [] ps tt r j)
