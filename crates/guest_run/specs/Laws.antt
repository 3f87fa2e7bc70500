-- The laws of a guest's lines.
use Rattle.std.specs.Prelude.{◌≡◌, ℕ, List, [], ◌∷◌, ◌++◌}
use Rattle.sp_base.specs.Table.{at}
use Rattle.sp_base.specs.declared.names.Pid.{Pid}
use Rattle.kern_model.specs.Journal.{state_after}
use Rattle.kern_model.specs.Laws.{kept_row}
use Rattle.kern_model.specs.State.{directory_of, rows_of}
use Rattle.kern_model.specs.declared.journal.Entry.{Entry}
use Rattle.guest_language.specs.declared.script.Line.{Line}
use Rattle.guest_run.specs.Guest.{Key}
use Rattle.guest_run.specs.Run.{IsExecedAs}

-- the entry of an exec line leaves of its process's rows exactly those whose flag is clear, each at its descriptor
abbrev pub ExecsKeepClearRows : Type 0
ExecsKeepClearRows = (guest : List ℕ) (pid : Pid) (n : ℕ) (key : Key) (before : List Entry) (line : Line) (row : List ℕ) (entry : Entry) (fd : ℕ)
    → IsExecedAs guest pid n key before line row entry
    → at (rows_of (state_after (before ++ entry ∷ [])) pid.0) fd ≡ kept_row (at (rows_of (state_after before) pid.0) fd)

-- and its process's working directory
abbrev pub ExecsKeepTheDirectory : Type 0
ExecsKeepTheDirectory = (guest : List ℕ) (pid : Pid) (n : ℕ) (key : Key) (before : List Entry) (line : Line) (row : List ℕ) (entry : Entry)
    → IsExecedAs guest pid n key before line row entry
    → directory_of (state_after (before ++ entry ∷ [])) pid.0 ≡ directory_of (state_after before) pid.0
