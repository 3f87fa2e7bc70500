use Rattle.std.proofs.Common.{◌≡◌, ◌++◌, drop}
use Rattle.std.specs.List.{flat_map}
use Rattle.script_words.specs.Spelling.{quoted_byte}
use Rattle.script_words.proofs.spelling.put_bytes.Given as goal

abbrev pub invariant-loop-b : goal.invariant-loop-b
invariant-loop-b l = l.out ++ flat_map quoted_byte (drop l.b-index l.bytes) ≡ l.fn.out ++ flat_map quoted_byte l.bytes
