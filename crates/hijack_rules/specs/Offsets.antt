-- The offset of the rump kernel's descriptors.
use Rattle.std.specs.Prelude.{ℕ, ◌&&◌, List, None, Option, Some, if◌then◌else◌, nat_le}
use Rattle.script_words.specs.Numbers.{numeral}
use Rattle.script_words.specs.Steps.{◌>>=◌}
use Rattle.hijack_rules.specs.declared.offset.TheConstants.{HIGHEST_OFFSET, LOWEST_OFFSET}

-- a number, where it is one of an offset
abbrev pub as_offset : ℕ → Option ℕ
as_offset n = if nat_le LOWEST_OFFSET n && nat_le n HIGHEST_OFFSET then Some n else None

-- the offset that a text is: one decimal digit or more, whose number is one of an offset
unfoldable pub offset_of : List ℕ → Option ℕ
offset_of text = numeral 10 text >>= as_offset
