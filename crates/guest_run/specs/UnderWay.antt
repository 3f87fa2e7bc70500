-- How far a guest is with its lines: an aid of the runner's contracts.
use Rattle.std.specs.Prelude.{◌≡◌, ℕ, ◌+◌, List, [], ◌∷◌, ◌++◌}
use Rattle.sp_base.specs.declared.names.ConnNo.{ConnNo}
use Rattle.sp_base.specs.declared.names.Pid.{Pid}
use Rattle.kern_model.specs.declared.journal.Entry.{Entry}
use Rattle.guest_language.specs.declared.script.Line.{Line}
use Rattle.guest_language.specs.declared.script.Section.{Section}
use Rattle.guest_run.specs.Guest.{IsAtRest, last_key}
use Rattle.guest_run.specs.Run.{AreTold, IsToldAs, Told, behind, cut_end, cut_row, key_of}
use Rattle.guest_run.specs.declared.joined.Joined.{Joined}
use Rattle.guest_run.specs.declared.running.RunEnd.{RunEnd}
use Rattle.guest_run.specs.declared.running.RunEnd.TheVariants.{Whole, Refused, NoSalt}

-- a line was answered, and the guest is at rest behind its entry and its request
pub record IsAnsweredAs (guest : List ℕ) (pid : Pid) (n : ℕ) (old : Joined) (line : Line) (row : List ℕ) (new : Joined) : Type 0 where
  pub entry : Entry
  pub told : IsToldAs guest pid n (last_key old) old.hub.journal line row entry
  pub grown : new.hub.journal ≡ old.hub.journal ++ entry ∷ []
  pub rest : IsAtRest new pid (n + 1)
  pub key : last_key new ≡ key_of line.what (last_key old)

-- a line was cut short, and the journal is as it was
pub record IsCutAs (guest : List ℕ) (n : ℕ) (old : Joined) (line : Line) (row : List ℕ) (end : RunEnd) (new : Joined) : Type 0 where
  pub text : row ≡ cut_row line.what guest n line
  pub ends : end ≡ cut_end line.what
  pub kept : new.hub.journal ≡ old.hub.journal

-- the line of number n was answered, or cut short
abbrev pub HasTold : List ℕ → Pid → ℕ → Joined → Line → List ℕ → RunEnd → Joined → Type 0
HasTold guest pid n old line row Whole new = IsAnsweredAs guest pid n old line row new
HasTold guest pid n old line row end new = IsCutAs guest n old line row end new

-- the first lines of a guest are told: whatever is told of the lines that are left is told of all, behind the rows so far
pub record IsUnderWay (section : Section) (start now : Joined) (rows : List ℕ) (i : ℕ) (left : List Line) (pid : Pid) : Type 0 where
  pub rest : IsAtRest now pid (i + 1)
  pub more : (told : Told) → AreTold section.name pid (i + 1) (last_key now) now.hub.journal left told
      → AreTold section.name pid 1 (last_key start) start.hub.journal section.lines (behind rows told)

-- the lines of a guest are told, up to this end; where all were answered, its last connection is the one that it has now
pub record IsToldTo (section : Section) (start now : Joined) (rows : List ℕ) (end : RunEnd) (pid : Pid) : Type 0 where
  pub conn : ConnNo
  pub told : AreTold section.name pid 1 (last_key start) start.hub.journal section.lines
      (record { rows = rows; end = end; conn = conn; journal = now.hub.journal })
  pub last : end ≡ Whole → conn ≡ now.conn
