use Rattle.std.proofs.Common.{◌≡◌, ◌++◌, drop}
use Rattle.guest_run.specs.Run.{pieces_seen}
use Rattle.guest_run.proofs.rows.pieces_seen.Given as goal

abbrev pub invariant-loop-part : goal.invariant-loop-part
invariant-loop-part l = l.pieces ++ pieces_seen (drop l.part-index l.part-items) ≡ pieces_seen l.fn.mem
