-- The lines of a journal.
use Rattle.std.specs.Prelude.{ℕ, ◌+◌, ◌++◌, List, [], ◌∷◌, codes}
use Rattle.std.specs.Fmt.{decimal}
use Rattle.kern_model.specs.declared.journal.Entry.{Entry}
use Rattle.kern_model.specs.declared.journal.Who.{Who}
use Rattle.kern_model.specs.declared.journal.Who.TheVariants as who
use Rattle.kern_model.specs.declared.operation.Ins.{Ins}
use Rattle.kern_model.specs.declared.operation.Op.{Op}
use Rattle.kern_model.specs.declared.operation.Op.TheVariants.{Attach, Exec, Exit, Fork, Sys}
use Rattle.kern_model.specs.declared.outcome.Outcome.{Outcome}
use Rattle.sp_base.specs.declared.call.Call.{Call}
use Rattle.sp_base.specs.declared.call.Call.TheVariants as call
use Rattle.sp_base.specs.declared.names.Answer.{Answer}
use Rattle.guest_journal.specs.Forms.{call_text}
use Rattle.guest_rows.specs.Rows.{answer_text}
use Rattle.guest_rows.specs.declared.added.Addition.{Addition}
use Rattle.guest_rows.specs.declared.added.Addition.TheVariants as addition
use Rattle.guest_rows.specs.declared.row.SideName.{SideName}
use Rattle.guest_rows.specs.declared.row.SideName.TheVariants as side

-- for whom an entry was made: `CONN/NUMBER`, `end/CONN`, `cancel/COOKIE` or `host/GUEST/K`
unfoldable pub who_text : Who → List ℕ
who_text (who.Request conn number) = decimal conn.0 ++ codes "/" ++ decimal number.0
who_text (who.End conn) = codes "end/" ++ decimal conn.0
who_text (who.Cancelled cookie) = codes "cancel/" ++ decimal cookie
who_text (who.Host guest count) = codes "host/" ++ decimal guest ++ codes "/" ++ decimal count

-- an operation with what was gathered for it
abbrev pub op_text : Op → Ins → List ℕ
op_text (Sys call) ins = call_text call ins
op_text Attach ins = codes "attach"
op_text Fork ins = codes "fork"
op_text Exec ins = codes "exec"
op_text Exit ins = codes "exit"

-- what the result of a call adds to its value
abbrev pub call_addition : Call → Addition
call_addition (call.Read fd out len) = addition.Bytes
call_addition (call.Pread fd out len offset) = addition.Bytes
call_addition (call.Recvfrom fd out len address address_max) = addition.Received
call_addition call.Pipe = addition.SecondValue
call_addition (call.Socketpair family kind) = addition.SecondValue
call_addition (call.Fstat fd out) = addition.Stat
call_addition (call.Stat path out) = addition.Stat
call_addition (call.Getsockname fd out max) = addition.Address
call_addition (call.Getpeername fd out max) = addition.Address
call_addition (call.Poll entries count timeout) = addition.Entries count
call_addition _ = addition.Nothing

-- what the result of an operation adds to its value
abbrev pub op_addition : Op → Addition
op_addition (Sys call) = call_addition call
op_addition Attach = addition.Nothing
op_addition Fork = addition.Nothing
op_addition Exec = addition.Nothing
op_addition Exit = addition.Nothing

-- what an outcome answers, at its place in the journal
abbrev pub answer_of : ℕ → Outcome → Answer
answer_of place outcome = record { err = outcome.err; ret0 = outcome.ret0; ret1 = outcome.ret1; place = record { 0 = place } }

-- the result of an operation: its outcome
abbrev pub outcome_text : ℕ → Op → Outcome → List ℕ
outcome_text place op outcome = answer_text (op_addition op) (answer_of place outcome) outcome.outs

-- the line of an entry: `PLACE WHO PID CALL = RESULT`
unfoldable pub entry_text : ℕ → Entry → List ℕ
entry_text place entry =
    decimal place ++ codes " " ++ who_text entry.who ++ codes " " ++ decimal entry.pid.0 ++ codes " " ++ op_text entry.op entry.ins ++ codes " = "
    ++ outcome_text place entry.op entry.outcome ++ codes "\n"

-- the lines of entries, of which the first has this place
abbrev pub entries_text : ℕ → List Entry → List ℕ
entries_text place [] = []
entries_text place (entry ∷ entries) = entry_text place entry ++ entries_text (place + 1) entries

-- the line that begins a journal
abbrev pub head_text : SideName → List ℕ
head_text side.Rump = codes "journal rump\n"
head_text side.Host = codes "journal host\n"

-- a journal: its head, and a line for each entry
abbrev pub journal_text : SideName → List Entry → List ℕ
journal_text name entries = head_text name ++ entries_text 0 entries
