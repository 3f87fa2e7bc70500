-- The lines of a script that don't run yet.
use Rattle.std.specs.Prelude.{◌&&◌, ℕ, Bool, List, [], ◌∷◌, Option, None, Some, false, true, if◌then◌else◌, not}
use Rattle.sp_base.specs.Call.{call_number}
use Rattle.hub_model.specs.Verdict.{is_later_call}
use Rattle.guest_language.specs.declared.script.Line.{Line}
use Rattle.guest_language.specs.declared.script.Section.{Section}
use Rattle.guest_language.specs.declared.script.What.{What}
use Rattle.guest_language.specs.declared.script.What.TheVariants.{Exec, Fork, Join, Run}

-- a system call that the server takes by now, or an exec
abbrev pub is_taken : What → Bool
is_taken (Run call) = not (is_later_call (call_number call))
is_taken (Fork child) = false
is_taken Exec = true
is_taken Join = false

-- a line runs by now: its guest waits for it, and it is a call that the server takes, or an exec
abbrev pub is_inside : Line → Bool
is_inside line = not line.background && is_taken line.what

-- the number, in the script's text, of the first line that doesn't run yet
abbrev pub first_outside : List Line → Option ℕ
first_outside [] = None
first_outside (line ∷ lines) = if is_inside line then first_outside lines else Some line.at

-- the number of the line that begins the first of these guests
abbrev pub first_guest : List Section → Option ℕ
first_guest [] = None
first_guest (section ∷ sections) = Some section.at

-- a number, or another where there is none
abbrev pub or_else : Option ℕ → Option ℕ → Option ℕ
or_else None other = other
or_else (Some n) other = Some n

-- the number of the first line of a script that doesn't run yet; a second guest doesn't
abbrev pub outside_line : List Section → Option ℕ
outside_line [] = None
outside_line (section ∷ others) = or_else (first_outside section.lines) (first_guest others)
