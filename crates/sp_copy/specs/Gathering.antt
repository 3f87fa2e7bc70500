-- What a call reads of its caller's memory.
use Rattle.std.specs.Prelude.{ℕ, Err, List, None, Ok, Option, Result, Some, [], ◌∷◌, ◌++◌}
use Rattle.sp_base.specs.Needs.{needs_of}
use Rattle.sp_base.specs.declared.call.Call.{Call}
use Rattle.sp_base.specs.declared.errno.Errno.{Errno}
use Rattle.sp_base.specs.declared.errno.Errno.TheVariants.{Efault, Enametoolong}
use Rattle.sp_base.specs.declared.need.Need.{Need}
use Rattle.sp_copy.specs.declared.fault.CopyFault.{CopyFault}
use Rattle.sp_copy.specs.declared.fault.CopyFault.TheVariants.{Fault, NoEnd, NoMemory}
use Rattle.sp_copy.specs.declared.part.Part.{Part}
use Rattle.sp_copy.specs.Reading.{read_of}

-- the pieces with one before them, or the first fault
abbrev pub with_first : Result (List ℕ) CopyFault → Result (List (List ℕ)) CopyFault → Result (List (List ℕ)) CopyFault
with_first (Err fault) rest = Err fault
with_first (Ok piece) (Err fault) = Err fault
with_first (Ok piece) (Ok pieces) = Ok (piece ∷ pieces)

-- what needs read of a memory, in order, or the first fault
abbrev pub gathered : List Part → List Need → Result (List (List ℕ)) CopyFault
gathered parts [] = Ok []
gathered parts (need ∷ needs) = with_first (read_of parts need) (gathered parts needs)

-- what a call reads of a memory: a piece for each need, in order, or the fault of the first need that has one
abbrev pub gather : Call → List Part → Result (List (List ℕ)) CopyFault
gather call parts = gathered parts (needs_of call)

-- what a call is answered whose need has the fault: EFAULT, or ENAMETOOLONG of a text without end
abbrev pub fault_errno : CopyFault → Option Errno
fault_errno Fault = Some Efault
fault_errno NoEnd = Some Enametoolong
fault_errno NoMemory = None
