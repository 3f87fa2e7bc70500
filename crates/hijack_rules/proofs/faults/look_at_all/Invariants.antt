use Rattle.std.proofs.Common.{◌≡◌, ℕ, ◌<◌, None}
use Rattle.hijack_rules.specs.Faults.{fault_at}
use Rattle.hijack_rules.proofs.faults.look_at_all.Given as goal

abbrev pub invariant-loop-i : goal.invariant-loop-i
invariant-loop-i l = (k : ℕ) → k < l.i → fault_at l.items k ≡ None
