-- What is known of the needs that were asked for.
use Rattle.std.proofs.Common.{◌≡◌, ℕ, zero, suc, ◌+◌, ◌<◌, ◌≤◌, ◌||◌, Bool, cond, List, [], ◌∷◌, ◌++◌, length, length-append, ap, ◌∙◌, true, false, arith}
use Rattle.std.specs.Prelude.{◌==◌}
use Rattle.std.proofs.lemmas.List.Folds.{list_any-append}
use Rattle.std.proofs.Math.Bool.{or-false, or-true}
use Rattle.sp_client.specs.Asked.{was_asked, AskedOnce}

-- an index is among one more where it was before, or is the new one
more : (asked : List ℕ) (index i : ℕ) → was_asked (asked ++ index ∷ []) i ≡ (was_asked asked i || (index == i))
more asked index i = list_any-append (λ x. x == i) asked (index ∷ []) ∙ ap (λ b. was_asked asked i || b) (or-false (index == i))

counts : (a b : Bool) (n : ℕ) → n ≤ cond a 1 0 + cond b 1 0 → a ≡ false → n + 1 ≤ 1 + cond b 1 0
counts true b n le e = absurd cc
counts false b n le e = omega arith

counts_second : (a b : Bool) (n : ℕ) → n ≤ cond a 1 0 + cond b 1 0 → b ≡ false → n + 1 ≤ cond a 1 0 + 1
counts_second a true n le e = absurd cc
counts_second a false n le e = omega arith

-- one more index that wasn't asked for before
pub asked_more : (asked : List ℕ) (index : ℕ) → index < 2 → was_asked asked index ≡ false → AskedOnce asked → AskedOnce (asked ++ index ∷ [])
asked_more asked zero l new h =
    rw (length-append asked (zero ∷ []), more asked zero 0, more asked zero 1, or-true (was_asked asked 0), or-false (was_asked asked 1))
    (counts (was_asked asked 0) (was_asked asked 1) (length asked) h new)
asked_more asked (suc zero) l new h =
    rw (length-append asked (1 ∷ []), more asked 1 0, more asked 1 1, or-false (was_asked asked 0), or-true (was_asked asked 1))
    (counts_second (was_asked asked 0) (was_asked asked 1) (length asked) h new)
asked_more asked (suc (suc n)) l new h = absurd (omega arith)
