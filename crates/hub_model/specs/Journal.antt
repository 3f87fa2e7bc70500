-- Entries at the end of the journal.
use Rattle.std.specs.Prelude.{List, [], ◌∷◌, ◌++◌, Option, None, Some}
use Rattle.sp_base.specs.declared.names.ConnNo.{ConnNo}
use Rattle.sp_base.specs.declared.names.Pid.{Pid}
use Rattle.kern_model.specs.Journal.{next_entry}
use Rattle.kern_model.specs.declared.journal.Entry.{Entry}
use Rattle.kern_model.specs.declared.journal.Who.TheVariants.{End}
use Rattle.kern_model.specs.declared.operation.Ins.{Ins}
use Rattle.kern_model.specs.declared.operation.Ins.TheVariants.{Given}
use Rattle.kern_model.specs.declared.operation.Op.TheVariants.{Exit}

-- what an operation reads that reads nothing
abbrev pub nothing_read : Ins
nothing_read = Given []

-- the journal with one entry more, where there is one
abbrev pub with_entry : List Entry → Option Entry → List Entry
with_entry journal None = journal
with_entry journal (Some e) = journal ++ e ∷ []

-- the journal after the exit of the process that a connection still has
abbrev pub exit_of : List Entry → ConnNo → Option Pid → List Entry
exit_of journal c None = journal
exit_of journal c (Some pid) = with_entry journal (next_entry journal pid (End c) Exit nothing_read)
