use Rattle.std.proofs.Common.{◌≡◌, ◌+◌, drop}
use Rattle.script_words.specs.Words.{quoted_len}
use Rattle.script_words.proofs.word.quoted_len.Given as goal

abbrev pub invariant-loop-i : goal.invariant-loop-i
invariant-loop-i l = l.i + quoted_len l.skip (drop l.i l.bytes) ≡ quoted_len 0 l.bytes
