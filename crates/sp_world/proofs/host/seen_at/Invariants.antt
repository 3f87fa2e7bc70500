use Rattle.std.proofs.Common.{◌≡◌, drop, true}
use Rattle.sp_copy.specs.Delivering.{put_pieces}
use Rattle.link_model.specs.Direct.{pieces_of}
use Rattle.sp_world.proofs.host.seen_at.Given as goal

abbrev pub invariant-loop-out : goal.invariant-loop-out
invariant-loop-out l =
    put_pieces l.delivery (pieces_of (drop l.out-index l.outs)) ≡ put_pieces (record { mem = l.fn.mem; whole = true }) (pieces_of l.outs)
