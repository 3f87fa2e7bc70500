-- The moves that bring a call to its answer.
use Rattle.std.specs.Prelude.{List, [], ◌∷◌, ◌++◌}
use Rattle.sp_base.specs.Needs.{needs_of}
use Rattle.sp_base.specs.declared.names.ReqNo.{ReqNo}
use Rattle.sp_base.specs.declared.need.Need.{Need}
use Rattle.kern_model.specs.declared.journal.Entry.{Entry}
use Rattle.kern_model.specs.declared.outcome.OutPiece.{OutPiece}
use Rattle.link_model.specs.Asked.{Asked, number_of}
use Rattle.link_model.specs.declared.moves.Move.{Move}
use Rattle.link_model.specs.declared.moves.Move.TheVariants.{ToServer, ToClient, Work}

-- for each need, the work that asks for it, the ask, and the copy
abbrev pub rounds : ReqNo → List Need → List Move
rounds r [] = []
rounds r (need ∷ needs) = Work r ∷ ToClient ∷ ToServer ∷ rounds r needs

-- a frame for each piece, and the response
abbrev pub returns : List OutPiece → List Move
returns [] = ToClient ∷ []
returns (piece ∷ pieces) = ToClient ∷ returns pieces

-- the call's frame, a round for each need, the work that performs the call, and what tells its outcome
abbrev pub route : Asked → Entry → List Move
route asked entry = ToServer ∷ rounds (number_of asked) (needs_of asked.call) ++ Work (number_of asked) ∷ returns entry.outcome.outs
