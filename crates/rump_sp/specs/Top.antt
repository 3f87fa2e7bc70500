-- What the program does.
use Rattle.std.specs.Prelude.{◌≡◌, ◌⊎◌, ◌&&◌, ⊤, ℕ, Bool, true, false, Option, Some, None, List, [], ◌∷◌, ◌++◌, Result, Ok, Err, option_map, take}
use Rattle.std.specs.Io.KnownBytes.{Appends}
use Rattle.kern_model.specs.Journal.{IsLegal, HasOwnKeys}
use Rattle.kern_model.specs.declared.journal.Entry.{Entry}
use Rattle.guest_language.specs.declared.fault.ScriptFault.{ScriptFault}
use Rattle.guest_language.specs.declared.fault.ScriptKind.{ScriptKind}
use Rattle.guest_language.specs.declared.fault.ScriptKind.TheVariants as kind
use Rattle.guest_language.specs.declared.script.Section.{Section}
use Rattle.guest_language.specs.Script.{script_of}
use Rattle.guest_rows.specs.declared.row.SideName.TheVariants.{Host, Rump}
use Rattle.guest_journal.specs.Entries.{journal_text}
use Rattle.guest_run.specs.declared.running.Ran.{Ran}
use Rattle.guest_run.specs.declared.running.RunEnd.{RunEnd}
use Rattle.guest_run.specs.declared.running.RunEnd.TheVariants.{Whole}
use Rattle.guest_run.specs.Outside.{outside_line}
use Rattle.guest_run.specs.Run.{IsRun}
use Rattle.rump_sp.specs.declared.failure.Failure.{Failure}
use Rattle.rump_sp.specs.declared.failure.Failure.TheVariants.{NoMemory, Outside, Script}
use Rattle.rump_sp.specs.Failure.{message_of}
use Rattle.rump_sp.specs.declared.words.Asked.{Asked}
use Rattle.rump_sp.specs.Words.{asked_of}

-- the failure that a fault of a kind is
abbrev pub failure_by : ScriptKind → ScriptFault → Failure
failure_by kind.NoMemory fault = NoMemory
failure_by _ fault = Script fault

-- the failure that a script's fault is
abbrev pub failure_of : ScriptFault → Failure
failure_of fault = failure_by fault.kind fault

-- the failure that a text which was read is: its fault, or else its first line that doesn't run yet
abbrev pub read_failure : Result (List Section) ScriptFault → Option Failure
read_failure (Err fault) = Some (failure_of fault)
read_failure (Ok sections) = option_map Outside (outside_line sections)

-- the failure that a text's first fault is; none where the text is a script that runs
abbrev pub first_failure : List ℕ → Option Failure
first_failure text = read_failure (script_of text)

-- the journals of both kernels, where they are asked for; the host's has no entry
abbrev pub journals_text : Bool → List Entry → List ℕ
journals_text false journal = []
journals_text true journal = journal_text Rump journal ++ journal_text Host []

-- a run went to its end
abbrev pub is_whole : RunEnd → Bool
is_whole Whole = true
is_whole _ = false

-- the text is the rows of a run of the section, with a legal journal that has one entry for each key; behind the rows of a whole run come the
-- journals, where they are asked for
pub record ShowsRun (section : Section) (journals : Bool) (done : Bool) (text : List ℕ) : Type 0 where
  pub ran : Ran
  pub run : IsRun section ran
  pub legal : IsLegal ran.hub.journal
  pub keys : HasOwnKeys ran.hub.journal
  pub whole : done ≡ is_whole ran.end
  pub shown : text ≡ ran.rows ++ journals_text (journals && is_whole ran.end) ran.hub.journal

-- what a script's sections show: without a section the journals alone, which have no entry, and of the one that there is what a run shows
abbrev pub ShowsSections : List Section → Bool → Bool → List ℕ → Type 0
ShowsSections [] journals whole shown = (whole ≡ true) × (shown ≡ journals_text journals [])
ShowsSections (section ∷ []) journals whole shown = ShowsRun section journals whole shown
ShowsSections _ journals whole shown = ⊥

-- a text is a script that runs, and this is what the script shows, with its journals or without, whole or cut short
pub record Shows (text : List ℕ) (journals : Bool) (whole : Bool) (shown : List ℕ) : Type 0 where
  pub sections : List Section
  pub read : script_of text ≡ Ok sections
  pub inside : outside_line sections ≡ None
  pub shows : ShowsSections sections journals whole shown

-- what is written is what the text that is read shows, whole, where both are told
abbrev pub Prints : Bool → Option (List ℕ) → Option (List ℕ) → Option (List ℕ) → Type 0
Prints journals None held held' = ⊤
Prints journals (Some text) held held' = (shown : List ℕ) × Shows text journals true shown × Appends held held' shown

-- first bytes of what the text shows, whole or cut short
pub record IsBeginning (text : List ℕ) (journals : Bool) (written : List ℕ) : Type 0 where
  pub whole : Bool
  pub shown : List ℕ
  pub shows : Shows text journals whole shown
  pub count : ℕ
  pub first : written ≡ take count shown

-- what is written is nothing, or the beginning of what the text that is read shows, where both are told
abbrev pub PrintsFront : Bool → Option (List ℕ) → Option (List ℕ) → Option (List ℕ) → Type 0
PrintsFront journals None held held' = ⊤
PrintsFront journals (Some text) held held' = (written : List ℕ) × ((written ≡ []) ⊎ IsBeginning text journals written) × Appends held held' written

-- where the text that is read is told, it is no script that runs, and what is told is the message of its first fault
abbrev pub TellsFault : Option (List ℕ) → (List ℕ → Type 0) → Type 0
TellsFault None tells = ⊤
TellsFault (Some text) tells = (failure : Failure) × (first_failure text ≡ Some failure) × tells (message_of failure)

-- a text shows nothing for want of memory, or since it is no script that runs
abbrev pub IsScriptFailure : List ℕ → Failure → Type 0
IsScriptFailure text failure = (failure ≡ NoMemory) ⊎ (first_failure text ≡ Some failure)

-- the program's words ask for this
abbrev pub AsksFor : List (List ℕ) → Asked → Type 0
AsksFor words asked = asked_of words ≡ Some asked
