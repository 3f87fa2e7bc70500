-- The room for what a call writes.
use Rattle.std.specs.Prelude.{ℕ, ◌<◌, ◌≤◌, List, [], ◌∷◌, ◌++◌, length, map, Option}
use Rattle.std.specs.Option.{option_to_list}
use Rattle.sp_base.specs.Needs.{places_of}
use Rattle.sp_base.specs.declared.call.Call.{Call}
use Rattle.sp_base.specs.declared.limits.TheConstants.{TRANSFER}
use Rattle.sp_base.specs.declared.need.Range.{Range}
use Rattle.kern_model.specs.declared.outcome.OutPiece.{OutPiece}

-- a piece has bytes, and no more than there is room for, nor than one call moves
pub record IsWithin (room : ℕ) (piece : OutPiece) : Type 0 where
  pub some : 0 < length piece.bytes
  pub fits : length piece.bytes ≤ room
  pub few : length piece.bytes ≤ TRANSFER

-- there is a room for each piece, in order
abbrev pub HaveRooms : List ℕ → List OutPiece → Type 0
HaveRooms rooms [] = Unit {0}
HaveRooms [] (piece ∷ pieces) = ⊥
HaveRooms (room ∷ rooms) (piece ∷ pieces) = IsWithin room piece × HaveRooms rooms pieces

-- how many bytes there are at each of two places at the most
abbrev pub lens_of : Option Range × Option Range → List ℕ
lens_of places = map (λ r. r.len) (option_to_list places.0 ++ option_to_list places.1)

-- how many bytes a call may write at each place where it may write
abbrev pub rooms_of : Call → List ℕ
rooms_of call = lens_of (places_of call)
