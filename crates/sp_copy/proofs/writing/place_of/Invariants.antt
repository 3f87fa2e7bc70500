use Rattle.std.proofs.Common.{◌≡◌, ◌+◌, drop}
use Rattle.std.specs.Option.{option_map}
use Rattle.sp_copy.specs.Writing.{taker}
use Rattle.sp_copy.proofs.writing.place_of.Given as goal

abbrev pub invariant-loop-i : goal.invariant-loop-i
invariant-loop-i l = option_map (λ k. l.i + k) (taker l.addr l.len (drop l.i l.parts)) ≡ taker l.addr l.len l.parts
