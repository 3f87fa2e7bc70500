-- What keeps the program from its end, and how it is told.
use Rattle.std.specs.Prelude.{ℕ, ◌==◌, ◌⊎◌, Option, Some, None, List, [], ◌∷◌, ◌++◌, codes, decimal, if◌then◌else◌}
use Rattle.std.specs.Io.KnownBytes.{Appends}
use Rattle.sp_io.specs.Causes.{Rose}
use Rattle.sp_io.specs.Whole.{AppendsFirst}
use Rattle.guest_language.specs.declared.fault.ScriptKind.{ScriptKind}
use Rattle.guest_language.specs.declared.fault.ScriptKind.TheVariants as kind
use Rattle.rump_sp.specs.declared.failure.Failure.{Failure}
use Rattle.rump_sp.specs.declared.failure.Failure.TheVariants.{Usage, Script, Outside, Input, Output, BadFrame, Inside, TooMuch, Salt, NoMemory}

-- the exit statuses of the program
abbrev pub statuses : List ℕ
statuses = 0 ∷ 64 ∷ 65 ∷ 71 ∷ 74 ∷ 75 ∷ []

-- the exit status of a failure
abbrev pub status_of : Failure → ℕ
status_of Usage = 64
status_of (Script fault) = 65
status_of (Outside line) = 65
status_of Input = 74
status_of Output = 74
status_of (BadFrame offset) = 65
status_of (Inside offset) = 65
status_of TooMuch = 65
status_of Salt = 71
status_of NoMemory = 75

-- what is wrong with a script, in words
unfoldable pub kind_text : ScriptKind → List ℕ
kind_text kind.NoMemory = codes "out of memory"
kind_text kind.TooLong = codes "script too long"
kind_text kind.BadByte = codes "bad byte"
kind_text kind.NoGuest = codes "no guest yet"
kind_text kind.BadName = codes "bad name"
kind_text kind.GuestTwice = codes "guest twice"
kind_text kind.UnknownCall = codes "unknown call"
kind_text kind.BadWords = codes "bad words"
kind_text kind.NotInBackground = codes "not in the background"
kind_text kind.UnknownGuest = codes "unknown guest"
kind_text kind.ForkedTwice = codes "forked twice"
kind_text kind.Circle = codes "fork in a circle"

-- a number's digits, where there is one
abbrev pub number_text : Option ℕ → List ℕ
number_text None = []
number_text (Some n) = decimal n

-- the line of a message that may end in a number
abbrev pub line_text : List ℕ → Option ℕ → List ℕ
line_text before number = codes "rump_sp: " ++ before ++ number_text number ++ 10 ∷ []

-- where a script is faulty: in a line, or as a whole, which has the number 0
abbrev pub place_text : ℕ → List ℕ
place_text line = if line == 0 then codes "script" else codes "script line " ++ decimal line

-- the line of a message on a script
abbrev pub script_text : ℕ → List ℕ → List ℕ
script_text line text = codes "rump_sp: " ++ place_text line ++ codes ": " ++ text ++ 10 ∷ []

-- the message of a failure, with the line or the offset that decided
unfoldable pub message_of : Failure → List ℕ
message_of Usage = line_text (codes "usage: rump_sp stdio|local|bench|server|guest|load [options]") None
message_of (Script fault) = script_text fault.line (kind_text fault.kind)
message_of (Outside line) = script_text line (codes "not in local")
message_of Input = line_text (codes "input fault") None
message_of Output = line_text (codes "output fault") None
message_of (BadFrame offset) = line_text (codes "stdio: bad frame at offset ") (Some offset)
message_of (Inside offset) = line_text (codes "stdio: input ends inside a frame at offset ") (Some offset)
message_of TooMuch = line_text (codes "stdio: input too long") None
message_of Salt = line_text (codes "no salt") None
message_of NoMemory = line_text (codes "out of memory") None

-- the exit status of a run that failed or not
abbrev pub exit_status : Option Failure → ℕ
exit_status None = 0
exit_status (Some failure) = status_of failure

-- what is to be told of a run that failed or not
abbrev pub told_of : Option Failure → List ℕ
told_of None = []
told_of (Some failure) = message_of failure

-- a message is told: it is put whole, or the sink's count rose and first bytes of it are put
abbrev pub Tells : ℕ → ℕ → Option (List ℕ) → Option (List ℕ) → List ℕ → Type 0
Tells faults faults' held held' message = Appends held held' message ⊎ Rose faults faults' × AppendsFirst held held' message
