use Rattle.std.proofs.Common.{true}
use Rattle.sp_copy.proofs.Deliveries.{pieces_change}
use Rattle.sp_copy.proofs.laws.delivered_inside_the_pieces.Goals as goal

pub returns : goal.returns
returns c = λ pieces answer parts. pieces_change (record { mem = parts; whole = true }) pieces
