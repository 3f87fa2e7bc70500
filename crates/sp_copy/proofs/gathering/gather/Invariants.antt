use Rattle.std.proofs.Common.{◌≡◌, ◌-◌, drop, length}
use Rattle.sp_base.specs.Needs.{needs_of}
use Rattle.sp_copy.specs.Gathering.{gathered}
use Rattle.sp_copy.proofs.Pieces.{after_pieces}
use Rattle.sp_copy.proofs.gathering.gather.Given as goal

abbrev pub invariant-loop-need : goal.invariant-loop-need
invariant-loop-need l = after_pieces l.pieces (gathered l.mem (drop l.index (needs_of l.call))) ≡ gathered l.mem (needs_of l.call)

abbrev pub decreases-loop-need : goal.decreases-loop-need
decreases-loop-need l = length (needs_of l.call) - l.index
