use Rattle.std.proofs.Common.{◌≡◌, drop, map, true}
use Rattle.sp_copy.specs.Delivering.{put_pieces}
use Rattle.sp_copy.proofs.delivery.deliver.Given as goal

abbrev pub invariant-loop-piece : goal.invariant-loop-piece
invariant-loop-piece g l =
    put_pieces l.delivery (map g.P.Placed.piece (drop l.piece-index l.pieces))
    ≡ put_pieces (record { mem = l.fn.mem; whole = true }) (map g.P.Placed.piece l.pieces)
