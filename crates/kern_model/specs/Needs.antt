-- What was gathered for an operation fits what it reads.
use Rattle.std.specs.Prelude.{Bool, true, false, List, [], ◌∷◌, IsTrue}
use Rattle.std.specs.List.{list_any}
use Rattle.sp_base.specs.Needs.{needs_of, ArePieces}
use Rattle.sp_base.specs.declared.errno.Errno.{Errno}
use Rattle.sp_base.specs.declared.errno.Errno.TheVariants.{Efault, Enametoolong}
use Rattle.sp_base.specs.declared.need.Need.{Need}
use Rattle.sp_base.specs.declared.need.Need.TheVariants.{Bytes, Text}
use Rattle.kern_model.specs.declared.operation.Op.{Op}
use Rattle.kern_model.specs.declared.operation.Op.TheVariants.{Sys, Attach, Fork, Exec, Exit}
use Rattle.kern_model.specs.declared.operation.Ins.{Ins}
use Rattle.kern_model.specs.declared.operation.Ins.TheVariants.{Given, Fault}

-- what an operation reads, in order: only calls read
abbrev pub needs : Op → List Need
needs (Sys call) = needs_of call
needs Attach = []
needs Fork = []
needs Exec = []
needs Exit = []

-- a need is a text
abbrev pub is_text : Need → Bool
is_text (Bytes addr len) = false
is_text (Text addr limit) = true

-- something is read
abbrev pub reads : List Need → Bool
reads [] = false
reads (need ∷ rest) = true

-- an error that gathering can end in: EFAULT of any need, ENAMETOOLONG of a text
abbrev pub IsFaultOf : List Need → Errno → Type 0
IsFaultOf all Efault = IsTrue (reads all)
IsFaultOf all Enametoolong = IsTrue (list_any is_text all)
IsFaultOf all _ = ⊥

-- what was gathered fits the operation
abbrev pub FitsIns : Op → Ins → Type 0
FitsIns op (Given pieces) = ArePieces (needs op) pieces
FitsIns op (Fault error) = IsFaultOf (needs op) error
