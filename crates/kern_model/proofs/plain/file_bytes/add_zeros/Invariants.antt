use Rattle.std.proofs.Common.{◌≡◌, ◌++◌, replicate}
use Rattle.kern_model.proofs.plain.file_bytes.add_zeros.Given as goal

abbrev pub invariant-loop : goal.invariant-loop
invariant-loop l = l.bytes ≡ l.fn.bytes ++ replicate l.counter 0
