use Rattle.std.proofs.Common.{◌≡◌, replicate}
use Rattle.guest_language.proofs.memory.filled.Given as goal

abbrev pub invariant-loop : goal.invariant-loop
invariant-loop l = l.bytes ≡ replicate l.counter l.byte
