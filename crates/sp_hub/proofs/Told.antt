-- What tells an outcome.
use Rattle.std.proofs.Common.{ℕ, ◌≤◌, List, [], ◌∷◌, length, arith}
use Rattle.kern_model.specs.declared.outcome.OutPiece.{OutPiece}
use Rattle.sp_hub.specs.Outs.{HaveRooms}

-- there are at most as many pieces as rooms
pub few_pieces : (rooms : List ℕ) (pieces : List OutPiece) → HaveRooms rooms pieces → length pieces ≤ length rooms
few_pieces rooms [] h = omega arith
few_pieces [] (piece ∷ pieces) h = absurd h
few_pieces (room ∷ rooms) (piece ∷ pieces) h = let le = few_pieces rooms pieces h.1 in omega arith
