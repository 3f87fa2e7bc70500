use Rattle.std.proofs.Common.{◌≡◌}
use Rattle.guest_rows.specs.Answered.{entries_from, entries_text}
use Rattle.guest_rows.proofs.answered.entries_text.Given as goal

abbrev pub invariant-loop-left : goal.invariant-loop-left
invariant-loop-left l = entries_from l.part l.out l.left l.rest ≡ entries_text l.part l.count l.bytes

abbrev pub decreases-loop-left : goal.decreases-loop-left
decreases-loop-left l = l.left
