-- A frame's payload as it is written: numbers first, and behind them a field of bytes.
use Rattle.std.specs.Prelude.{ℕ, List, []}
use Rattle.std.specs.List.{flat_map}
use Rattle.sp_frames.specs.Fields.{le64, front_bytes}
use Rattle.sp_frames.specs.Grammar.{parts_of}
use Rattle.sp_frames.specs.declared.frame.Body.{Body}
use Rattle.sp_frames.specs.declared.frame.Body.TheVariants.{Sys}

-- the bytes of a body's numbers, the words of a call among them
abbrev pub numbers_of : Body → List ℕ
numbers_of (Sys num words) = flat_map le64 words
numbers_of body = front_bytes (parts_of body).front

-- the bytes that a body has behind its numbers
abbrev pub field_of : Body → List ℕ
field_of (Sys num words) = []
field_of body = (parts_of body).tail
