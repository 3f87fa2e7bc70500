use Rattle.std.proofs.Common.{◌≡◌, ◌≤◌, ◌+◌, ◌++◌, map, length}
use Rattle.script_words.specs.Pieces.{pieces_of}
use Rattle.script_words.proofs.splitting.pieces.Given as goal

abbrev pub invariant-loop-i : goal.invariant-loop-i
invariant-loop-i l = record {
  pieces : map (λ w. w.now) l.pieces.items ++ pieces_of l.separator l.rest ≡ pieces_of l.separator l.bytes;
  count : length l.pieces.items + length l.rest ≤ length l.bytes;
}

abbrev pub decreases-loop-i : goal.decreases-loop-i
decreases-loop-i l = length l.rest
