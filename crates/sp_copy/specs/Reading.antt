-- What is read of a memory.
use Rattle.std.specs.Prelude.{ℕ, ◌-◌, ◌<◌, ◌==◌, ◌&&◌, Bool, Err, List, None, Ok, Option, Result, Some, [], ◌∷◌, drop, if◌then◌else◌, length, nat_le, position, take}
use Rattle.sp_base.specs.declared.need.Need.{Need}
use Rattle.sp_base.specs.declared.need.Need.TheVariants.{Bytes, Text}
use Rattle.sp_copy.specs.declared.fault.CopyFault.{CopyFault}
use Rattle.sp_copy.specs.declared.fault.CopyFault.TheVariants.{Fault, NoEnd}
use Rattle.sp_copy.specs.declared.part.Part.{Part}
use Rattle.sp_copy.specs.Parts.{can_read, has_address, has_range, root_part}

-- the part may be read, and has all of the bytes, or the text's first one
abbrev pub gives : Need → Part → Bool
gives (Bytes addr len) p = can_read p.right && has_range addr len p
gives (Text addr most) p = can_read p.right && has_address addr p

-- the bytes before the first zero byte, where one was found; else whether there were as many as are looked at
abbrev pub text_before : List ℕ → ℕ → Option ℕ → Result (List ℕ) CopyFault
text_before bytes most (Some i) = Ok (take i bytes)
text_before bytes most None = if nat_le most (length bytes) then Err NoEnd else Err Fault

-- the bytes before the first zero byte among so many
abbrev pub text_in : List ℕ → ℕ → Result (List ℕ) CopyFault
text_in bytes most = text_before bytes most (position (λ b. b == 0) (take most bytes))

-- what a need reads in a part that gives it
abbrev pub given : Need → Part → Result (List ℕ) CopyFault
given (Bytes addr len) p = Ok (take len (drop (addr - p.base) p.bytes))
given (Text addr most) p = text_in (drop (addr - p.base) p.bytes) most

-- what a need reads in the first of some parts that gives it
abbrev pub read_from : List Part → Need → Result (List ℕ) CopyFault
read_from [] need = Err Fault
read_from (p ∷ ps) need = if gives need p then given need p else read_from ps need

-- what a need reads in a memory
abbrev pub read_of : List Part → Need → Result (List ℕ) CopyFault
read_of parts need = read_from (root_part ∷ parts) need

-- a need names at least one byte
abbrev pub NamesBytes : Need → Type 0
NamesBytes (Bytes addr len) = 0 < len
NamesBytes (Text addr most) = Unit {0}
