-- The run of one guest over a server of its own, and the rows that tell it.
use Rattle.std.specs.Prelude.{◌≡◌, ◌≤◌, ◌⊎◌, ℕ, ◌+◌, false, List, [], ◌∷◌, ◌++◌, filter, length, map, None, Some}
use Rattle.sp_base.specs.declared.call.Call.{Call}
use Rattle.sp_base.specs.declared.names.Answer.{Answer}
use Rattle.sp_base.specs.declared.names.ConnNo.{ConnNo}
use Rattle.sp_base.specs.declared.names.Pid.{Pid}
use Rattle.sp_base.specs.declared.names.SpError.TheVariants.{Memory}
use Rattle.sp_copy.specs.Parts.{can_write}
use Rattle.sp_copy.specs.declared.part.Part.{Part}
use Rattle.sp_io.specs.Causes.{Rose}
use Rattle.kern_model.specs.Journal.{next_entry, state_after}
use Rattle.kern_model.specs.declared.journal.Entry.{Entry}
use Rattle.kern_model.specs.declared.journal.Who.TheVariants.{End}
use Rattle.kern_model.specs.declared.operation.Op.TheVariants as op
use Rattle.kern_model.specs.declared.outcome.OutPiece.{OutPiece}
use Rattle.hub_model.specs.Journal.{nothing_read}
use Rattle.link_model.specs.Direct.{direct, reads}
use Rattle.guest_language.specs.Memory.{memory_of}
use Rattle.guest_language.specs.declared.script.Line.{Line}
use Rattle.guest_language.specs.declared.script.Section.{Section}
use Rattle.guest_language.specs.declared.script.What.{What}
use Rattle.guest_language.specs.declared.script.What.TheVariants.{Exec, Run}
use Rattle.guest_rows.specs.Rows.{row_text}
use Rattle.guest_rows.specs.declared.row.Row.{Row}
use Rattle.guest_rows.specs.declared.row.RowResult.TheVariants as result
use Rattle.guest_rows.specs.declared.row.SideName.TheVariants.{Rump}
use Rattle.guest_run.specs.Guest.{IsAttach, Key, first_key, key_behind, key_beyond, process_of, request}
use Rattle.guest_run.specs.declared.running.Ran.{Ran}
use Rattle.guest_run.specs.declared.running.RunEnd.{RunEnd}
use Rattle.guest_run.specs.declared.running.RunEnd.TheVariants.{Whole, Refused, NoSalt}

-- what stands in a part of memory, as a piece that was written there
abbrev pub piece_of : Part → OutPiece
piece_of part = record { addr = part.base; bytes = part.bytes }

-- what stands in a memory where a call may write
abbrev pub pieces_seen : List Part → List OutPiece
pieces_seen parts = map piece_of (filter (λ part. can_write part.right) parts)

-- the row of a line of a guest that was answered: its place is that of its entry
abbrev pub answered_row : List ℕ → ℕ → Line → Answer → List Part → Row
answered_row guest n line answer mem = record {
  guest = guest;
  number = n;
  side = Some Rump;
  both = false;
  place = Some answer.place;
  line = line.text;
  result = result.Gave answer (pieces_seen mem);
}

-- what an exec whose entry has this place is answered: 0
abbrev pub exec_answer : ℕ → Answer
exec_answer place = record { err = 0; ret0 = 0; ret1 = 0; place = record { 0 = place } }

-- the row of a line of a guest whose call the server refused for want of memory
abbrev pub refused_row : List ℕ → ℕ → Line → Row
refused_row guest n line = record {
  guest = guest;
  number = n;
  side = Some Rump;
  both = false;
  place = None;
  line = line.text;
  result = result.Refused Memory;
}

-- a line's call, with the line's memory, has the next entry of a journal, for a request; what its caller sees is what is seen where the
-- kernel is asked at once, as the journal before it leaves it; and the row tells that
pub record IsCalledAs (guest : List ℕ) (pid : Pid) (n : ℕ) (key : Key) (before : List Entry) (line : Line) (call : Call) (row : List ℕ) (entry : Entry) : Type 0 where
  pub answer : Answer
  pub mem : List Part
  pub next : next_entry before pid (request key) (op.Sys call) (reads call (memory_of line.text)) ≡ Some entry
  pub direct : direct (state_after before) (length before) pid.0 call (memory_of line.text) ≡ Some (answer, mem)
  pub text : row ≡ row_text (answered_row guest n line answer mem)

-- an exec has the next entry of a journal, for a request; and the row of its line tells its place and 0
pub record IsExecedAs (guest : List ℕ) (pid : Pid) (n : ℕ) (key : Key) (before : List Entry) (line : Line) (row : List ℕ) (entry : Entry) : Type 0 where
  pub next : next_entry before pid (request key) op.Exec nothing_read ≡ Some entry
  pub text : row ≡ row_text (answered_row guest n line (exec_answer (length before)) [])

-- the request of a line behind a last one: a call goes over the same connection, and an exec is the first request over the next one
abbrev pub key_of : What → Key → Key
key_of Exec last = key_beyond last
key_of _ last = key_behind last

-- what a line asks for has the next entry of a journal, for a request, and its row
abbrev pub IsToldBy : What → List ℕ → Pid → ℕ → Key → List Entry → Line → List ℕ → Entry → Type 0
IsToldBy (Run call) guest pid n key before line row entry = IsCalledAs guest pid n key before line call row entry
IsToldBy Exec guest pid n key before line row entry = IsExecedAs guest pid n key before line row entry
IsToldBy _ guest pid n key before line row entry = ⊥

-- a line behind a last request has the next entry of a journal, and its row
abbrev pub IsToldAs : List ℕ → Pid → ℕ → Key → List Entry → Line → List ℕ → Entry → Type 0
IsToldAs guest pid n last before line row entry = IsToldBy line.what guest pid n (key_of line.what last) before line row entry

-- what is told of the lines of a guest: their rows, how they ended, and the guest's connection and the journal then
pub record Told : Type 0 where
  pub rows : List ℕ
  pub end : RunEnd
  pub conn : ConnNo
  pub journal : List Entry

-- the same behind a row
abbrev pub behind : List ℕ → Told → Told
behind row told = record told { rows = row ++ told.rows }

-- nothing is left to tell
abbrev pub all_told : ConnNo → List Entry → Told
all_told conn journal = record { rows = []; end = Whole; conn = conn; journal = journal }

-- the row of a line that is cut short: a refused call has one, and an exec without a salt has none
abbrev pub cut_row : What → List ℕ → ℕ → Line → List ℕ
cut_row Exec guest n line = []
cut_row _ guest n line = row_text (refused_row guest n line)

-- how a run ends at a line that is cut short: no salt is drawn for an exec, or a call is refused
abbrev pub cut_end : What → RunEnd
cut_end Exec = NoSalt
cut_end _ = Refused

-- a line is cut short, and no line behind it is begun
abbrev pub cut_short : List ℕ → ℕ → ConnNo → Line → List Entry → Told
cut_short guest n conn line journal = record { rows = cut_row line.what guest n line; end = cut_end line.what; conn = conn; journal = journal }

-- the lines of a guest, from number n on, are told one after another at the end of a journal and behind a last request, up to the first
-- that is cut short
abbrev pub AreTold : List ℕ → Pid → ℕ → Key → List Entry → List Line → Told → Type 0
AreTold guest pid n last before [] told = told ≡ all_told last.conn before
AreTold guest pid n last before (line ∷ lines) told =
    (told ≡ cut_short guest n last.conn line before)
    ⊎ (row : List ℕ) × (entry : Entry) × (rest : Told) × IsToldAs guest pid n last before line row entry
    × AreTold guest pid (n + 1) (key_of line.what last) (before ++ entry ∷ []) lines rest × (told ≡ behind row rest)

-- the process of a guest exits as its last connection ends
abbrev pub HasExited : ConnNo → Pid → List Entry → List Entry → Type 0
HasExited conn pid before after = (exit : Entry) × (next_entry before pid (End conn) op.Exit nothing_read ≡ Some exit) × (after ≡ before ++ exit ∷ [])

-- the journal of a run: its process exits where all lines were answered
abbrev pub IsEnded : RunEnd → ConnNo → Pid → List Entry → List Entry → Type 0
IsEnded Whole conn pid before after = HasExited conn pid before after
IsEnded _ conn pid before after = after ≡ before

-- a guest's process is made in a fresh kernel, its lines are told, and its process exits
pub record IsRun (section : Section) (ran : Ran) : Type 0 where
  pub attach : Entry
  pub conn : ConnNo
  pub journal : List Entry
  pub attached : IsAttach attach
  pub told : AreTold section.name (process_of attach) 1 first_key (attach ∷ []) section.lines (record { rows = ran.rows; end = ran.end; conn = conn; journal = journal })
  pub ended : IsEnded ran.end conn (process_of attach) journal ran.hub.journal

-- why a run ends: for want of a salt only where the count of the salt's faults rose, which never falls
pub record HasSaltCause (before now : ℕ) (end : RunEnd) : Type 0 where
  pub later : before ≤ now
  pub failed : end ≡ NoSalt → Rose before now
