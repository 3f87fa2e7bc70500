-- The copies of what a call reads.
use Rattle.std.proofs.Common.{◌≡◌, ℕ, false, Option, Some, None, refl, ap, ◌∙◌}
use Rattle.std.specs.Prelude.{◌==◌, ◌&&◌, if◌then◌else◌}
use Rattle.std.proofs.lemmas.Grind.{common_steps}
use Rattle.std.proofs.lemmas.Bool.Decides.{nat_tests}
use Rattle.std.proofs.Common.{arith}
use Rattle.sp_base.specs.declared.need.Need.{Need}
use Rattle.sp_frames.specs.declared.frame.Body.{Body}
use Rattle.hub_model.specs.Verdict.{need_verdict, is_index, index_in, is_copy_of, copy_by_error}
use Rattle.hub_model.specs.declared.verdict.Verdict.TheVariants.{Malformed}

not_index : (index count : ℕ) → (index ≡ count → ⊥) → (index == count) ≡ false
not_index index count ne = grind (arith, nat_tests, common_steps)

other_by : (need : Option Need) (found : Option ℕ) (index count : ℕ) (body : Body) → index_in body ≡ found → found ≡ Some index → (index == count) ≡ false → need_verdict need count body ≡ Malformed
other_by None found index count body is at ne = refl
other_by (Some need) None index count body is at ne = absurd cc
other_by (Some need) (Some i) index count body is at ne =
    let same : i ≡ index = cc in
    let no_match : is_index (index_in body) count ≡ false = ap (λ (o : Option ℕ). is_index o count) (is ∙ at) ∙ ne in
    ap (λ b. if (b && is_copy_of need body) then copy_by_error (Rattle.hub_model.specs.Verdict.error_in body) else Malformed) no_match

-- a copy of another index is malformed
pub other_index : (need : Option Need) (index count : ℕ) (body : Body) → index_in body ≡ Some index → (index ≡ count → ⊥) → need_verdict need count body ≡ Malformed
other_index need index count body at ne = other_by need (index_in body) index count body refl at (not_index index count ne)
