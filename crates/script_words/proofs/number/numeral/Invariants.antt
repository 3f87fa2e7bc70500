use Rattle.std.proofs.Common.{◌≡◌, drop}
use Rattle.script_words.specs.Numbers.{numeral_after}
use Rattle.script_words.proofs.number.numeral.Given as goal

abbrev pub invariant-loop-c : goal.invariant-loop-c
invariant-loop-c l = numeral_after l.radix l.n (drop l.c-index l.digits) ≡ numeral_after l.radix 0 l.digits
