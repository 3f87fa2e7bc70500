-- What a script's text says.
use Rattle.std.specs.Prelude.{ℕ, Bool, Err, List, Ok, Result, [], if◌then◌else◌}
use Rattle.guest_language.specs.declared.fault.ScriptFault.{ScriptFault}
use Rattle.guest_language.specs.declared.fault.ScriptKind.{ScriptKind}
use Rattle.guest_language.specs.declared.fault.ScriptKind.TheVariants.{Circle, TooLong}
use Rattle.guest_language.specs.declared.script.Section.{Section}
use Rattle.guest_language.specs.Forks.{has_circle}
use Rattle.guest_language.specs.Length.{is_too_long, lines_of}
use Rattle.guest_language.specs.Names.{names_of}
use Rattle.guest_language.specs.Sections.{steps}

-- the fault of a whole script
abbrev pub whole_fault : ScriptKind → ScriptFault
whole_fault kind = record { line = 0; kind = kind }

-- sections that read well, without a circle
abbrev pub uncircled : Result (List Section) ScriptFault → Result (List Section) ScriptFault
uncircled (Err fault) = Err fault
uncircled (Ok sections) = if has_circle sections then Err (whole_fault Circle) else Ok sections

-- the script that a text is: its sections, or its first fault
abbrev pub script_of : List ℕ → Result (List Section) ScriptFault
script_of text =
    if is_too_long text then Err (whole_fault TooLong)
    else uncircled (steps (names_of (lines_of text)) [] 1 (lines_of text))
