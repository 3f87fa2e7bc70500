-- The number that the next process gets.
use Rattle.std.proofs.Common.{ℕ, zero, suc, ◌<◌, List, [], ◌∷◌, length, Option, IsSome, arith}
use Rattle.sp_base.specs.Table.{at}

-- what stands at a number is within the table
pub within : {X : Type 0} (table : List (Option X)) (k : ℕ) → IsSome (at table k) → k < length table
within [] k there = absurd cc
within (y ∷ table) zero there = omega arith
within (y ∷ table) (suc k) there = let lt = within table k there in omega arith
