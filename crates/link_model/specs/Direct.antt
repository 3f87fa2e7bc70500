-- What a caller sees of a call that is made of the kernel with the caller's memory in hand.
use Rattle.std.specs.Prelude.{ℕ, List, map, Option, None, Some, Result, Ok, Err}
use Rattle.sp_base.specs.declared.call.Call.{Call}
use Rattle.sp_base.specs.declared.errno.Errno.TheVariants.{Efault, Enametoolong}
use Rattle.sp_base.specs.declared.names.Answer.{Answer}
use Rattle.sp_copy.specs.Delivering.{Piece, deliver}
use Rattle.sp_copy.specs.Gathering.{gather}
use Rattle.sp_copy.specs.declared.fault.CopyFault.{CopyFault}
use Rattle.sp_copy.specs.declared.fault.CopyFault.TheVariants.{NoEnd}
use Rattle.sp_copy.specs.declared.part.Part.{Part}
use Rattle.kern_model.specs.Act.{act}
use Rattle.kern_model.specs.State.{State}
use Rattle.kern_model.specs.Step.{Step}
use Rattle.kern_model.specs.declared.operation.Ins.{Ins}
use Rattle.kern_model.specs.declared.operation.Ins.TheVariants.{Given, Fault}
use Rattle.kern_model.specs.declared.operation.Op.TheVariants.{Sys}
use Rattle.kern_model.specs.declared.outcome.OutPiece.{OutPiece}
use Rattle.hub_model.specs.Frames.{answer_at}

-- what a call reads by what was gathered for it: the pieces, or the error of the first fault, ENAMETOOLONG of a text without end, else EFAULT
abbrev pub ins_of : Result (List (List ℕ)) CopyFault → Ins
ins_of (Ok pieces) = Given pieces
ins_of (Err NoEnd) = Fault Enametoolong
ins_of (Err _) = Fault Efault

-- what a call reads of a memory
abbrev pub reads : Call → List Part → Ins
reads call mem = ins_of (gather call mem)

-- the pieces that an outcome writes
abbrev pub pieces_of : List OutPiece → List Piece
pieces_of outs = map (λ out. record { addr = out.addr; bytes = out.bytes }) outs

-- what is seen of a step at a place: its outcome as the answer, and the memory with what it writes; nothing where the kernel isn't ready
abbrev pub seen : Step → ℕ → List Part → Option (Answer × List Part)
seen None place mem = None
seen (Some step) place mem = Some (deliver (pieces_of step.0.outs) (answer_at step.0 place) mem)

-- what is seen of a call that a process makes: what it reads is gathered, it is performed, and what it writes is delivered
abbrev pub direct : State → ℕ → ℕ → Call → List Part → Option (Answer × List Part)
direct state place pid call mem = seen (act state pid (Sys call) (reads call mem)) place mem
