-- What the words of a line ask for.
use Rattle.std.specs.Prelude.{ℕ, ◌==◌, ◌||◌, Bool, Err, List, None, Ok, Option, Result, Some, [], ◌∷◌, codes, false, if◌then◌else◌, not, true}
use Rattle.std.specs.List.{list_any}
use Rattle.std.specs.Str.{bytes_eq}
use Rattle.guest_language.specs.declared.fault.ScriptKind.{ScriptKind}
use Rattle.guest_language.specs.declared.fault.ScriptKind.TheVariants as kind
use Rattle.guest_language.specs.declared.script.Line.{Line}
use Rattle.guest_language.specs.declared.script.Section.{Section}
use Rattle.guest_language.specs.declared.script.What.{What}
use Rattle.guest_language.specs.declared.script.What.TheVariants.{Exec, Fork, Join, Run}
use Rattle.guest_language.specs.declared.slot.Made.{Made}
use Rattle.guest_language.specs.declared.verb.Verb.{Verb}
use Rattle.guest_language.specs.declared.verb.Verb.TheVariants.{Pread, Pwrite, Read, Recvfrom, Sendto, Write}
use Rattle.guest_language.specs.Made.{made_of}
use Rattle.guest_language.specs.Names.{is_name, place_of}
use Rattle.guest_language.specs.Verbs.{verb_of}

-- it is a fork of the section of a number
abbrev pub forks : ℕ → What → Bool
forks child (Fork n) = n == child
forks child (Run call) = false
forks child Exec = false
forks child Join = false

-- one of the lines forks the section of a number
abbrev pub has_fork : ℕ → List Line → Bool
has_fork child lines = list_any (λ line. forks child line.what) lines

-- a line of the sections forks the section of a number
abbrev pub is_forked : ℕ → List Section → Bool
is_forked child sections = list_any (λ section. has_fork child section.lines) sections

-- a fork of the guest at a place, where no line before forks it
abbrev pub fork_of : List Section → Option ℕ → Result What ScriptKind
fork_of sections None = Err kind.UnknownGuest
fork_of sections (Some child) = if is_forked child sections then Err kind.ForkedTwice else Ok (Fork child)

-- `fork NAME`, where a section has the name and no line before forks it
abbrev pub fork_what : List (List ℕ) → List Section → List (List ℕ) → Result What ScriptKind
fork_what names sections (name ∷ []) = if not (is_name name) then Err kind.BadName else fork_of sections (place_of names name)
fork_what names sections _ = Err kind.BadWords

-- `exec`, `join`: no words
abbrev pub only_line : What → List (List ℕ) → Result What ScriptKind
only_line what [] = Ok what
only_line what _ = Err kind.BadWords

-- a call, where the words are those of its line
abbrev pub run_what : Option Made → Result What ScriptKind
run_what None = Err kind.BadWords
run_what (Some made) = Ok (Run made.call)

-- the call of a verb, where there is one
abbrev pub run_verb : Option Verb → List (List ℕ) → Result What ScriptKind
run_verb None words = Err kind.UnknownCall
run_verb (Some verb) words = run_what (made_of verb words)

-- the call of a line
abbrev pub verb_what : List ℕ → List (List ℕ) → Result What ScriptKind
verb_what word words = run_verb (verb_of word) words

-- what the words of a line of a guest ask for
abbrev pub line_what : List (List ℕ) → List Section → List (List ℕ) → Result What ScriptKind
line_what names sections [] = Err kind.BadWords
line_what names sections (word ∷ words) =
    if bytes_eq word (codes "fork") then fork_what names sections words
    else if bytes_eq word (codes "exec") then only_line Exec words
    else if bytes_eq word (codes "join") then only_line Join words
    else verb_what word words

-- a call that may be started on a caller of its own
abbrev pub in_background : Verb → Bool
in_background Read = true
in_background Write = true
in_background Pread = true
in_background Pwrite = true
in_background Recvfrom = true
in_background Sendto = true
in_background _ = false

-- the fault of a line behind `&` that names a guest
abbrev pub child_aside : List (List ℕ) → ScriptKind
child_aside (name ∷ []) = if is_name name then kind.NotInBackground else kind.BadName
child_aside _ = kind.BadWords

-- a call behind `&`, where the words are those of its line and it may be there
abbrev pub run_aside : Verb → Option Made → Result What ScriptKind
run_aside verb None = Err kind.BadWords
run_aside verb (Some made) = if in_background verb then Ok (Run made.call) else Err kind.NotInBackground

-- the call of a verb behind `&`, where there is one
abbrev pub verb_made_aside : Option Verb → List (List ℕ) → Result What ScriptKind
verb_made_aside None words = Err kind.UnknownCall
verb_made_aside (Some verb) words = run_aside verb (made_of verb words)

-- the call of a line behind `&`
abbrev pub verb_aside : List ℕ → List (List ℕ) → Result What ScriptKind
verb_aside word words = verb_made_aside (verb_of word) words

-- the fault of `& exec` and `& join`
abbrev pub only_aside : List (List ℕ) → ScriptKind
only_aside [] = kind.NotInBackground
only_aside _ = kind.BadWords

-- what the words behind `&` ask for
abbrev pub aside_what : List (List ℕ) → Result What ScriptKind
aside_what [] = Err kind.BadWords
aside_what (word ∷ words) =
    if bytes_eq word (codes "guest") || bytes_eq word (codes "fork") then Err (child_aside words)
    else if bytes_eq word (codes "exec") || bytes_eq word (codes "join") then Err (only_aside words)
    else verb_aside word words

-- what a line asks for, `&` before it or not
abbrev pub what_of : List (List ℕ) → List Section → List (List ℕ) → Result What ScriptKind
what_of names sections [] = Err kind.BadWords
what_of names sections (word ∷ words) =
    if bytes_eq word (codes "&") then aside_what words
    else line_what names sections (word ∷ words)
