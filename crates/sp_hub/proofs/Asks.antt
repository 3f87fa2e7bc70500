-- The asks for what a call reads.
use Rattle.std.specs.Prelude.{slice_get}
use Rattle.std.proofs.Common.{◌≡◌, ℕ, zero, suc, ◌≤◌, ◌<◌, List, [], ◌∷◌, length, Option, Some, None, arith, length-append}
use Rattle.sp_base.specs.Needs.{needs_of, asks_of, pieces_of}
use Rattle.sp_base.specs.declared.call.Call.{Call}
use Rattle.sp_base.specs.declared.need.Need.{Need}

-- what is at an index is below the end
pub index_below : {X : Type 0} (xs : List X) (i : ℕ) (x : X) → slice_get xs i ≡ Some x → i < length xs
index_below [] i x e = absurd cc
index_below (y ∷ xs) zero x e = omega arith
index_below (y ∷ xs) (suc i) x e = let lt = index_below xs i x e in omega arith

one_at_most : (need : Option Need) → length (pieces_of need) ≤ 1
one_at_most None = omega arith
one_at_most (Some need) = omega arith

-- a call reads two things at the most
pub few_needs : (call : Call) → length (needs_of call) ≤ 2
few_needs call =
    let both = length-append (pieces_of (asks_of call).0) (pieces_of (asks_of call).1) in
    let first = one_at_most (asks_of call).0 in
    let second = one_at_most (asks_of call).1 in
    omega arith

-- the index of what a call reads is small
pub index_small : (call : Call) (i : ℕ) (need : Need) → slice_get (needs_of call) i ≡ Some need → i < 2
index_small call i need e = let lt = index_below (needs_of call) i need e in let few = few_needs call in omega arith
