-- A script's text, read line by line.
use Rattle.std.specs.Prelude.{ℕ, ◌+◌, ◌-◌, ◌==◌, ◌&&◌, ◌++◌, Bool, Err, List, Ok, Result, [], ◌∷◌, codes, if◌then◌else◌, length, nat_le, not, slice_index, slice_index_or, slice_set}
use Rattle.std.specs.List.{list_all, list_any}
use Rattle.std.specs.Str.{bytes_eq}
use Rattle.guest_language.specs.declared.fault.ScriptFault.{ScriptFault}
use Rattle.guest_language.specs.declared.fault.ScriptKind.{ScriptKind}
use Rattle.guest_language.specs.declared.fault.ScriptKind.TheVariants.{BadByte, BadName, BadWords, GuestTwice, NoGuest}
use Rattle.guest_language.specs.declared.script.Line.{Line}
use Rattle.guest_language.specs.declared.script.Section.{Section}
use Rattle.guest_language.specs.declared.script.What.{What}
use Rattle.guest_language.specs.Names.{is_name}
use Rattle.guest_language.specs.What.{what_of}
use Rattle.script_words.specs.Words.{first_word, joined, words_of}

-- all bytes are those of scripts
abbrev pub is_printed : List ℕ → Bool
is_printed bytes = list_all (λ b. nat_le 32 b && nat_le b 126) bytes

-- a section has the name
abbrev pub is_taken : List Section → List ℕ → Bool
is_taken sections name = list_any (λ section. bytes_eq section.name name) sections

-- the sections with a new one, by the words behind `guest`
abbrev pub guest_step : List Section → ℕ → List (List ℕ) → Result (List Section) ScriptKind
guest_step sections at (name ∷ []) =
    if not (is_name name) then Err BadName
    else if is_taken sections name then Err GuestTwice
    else Ok (sections ++ record { name = name; at = at; lines = [] } ∷ [])
guest_step sections at _ = Err BadWords

-- the line of these words, which ask for this
abbrev pub line_of : ℕ → List (List ℕ) → What → Line
line_of at words what = record { text = joined words; at = at; background = bytes_eq (first_word words) (codes "&"); what = what }

-- a section with one line more
abbrev pub with_line : Section → Line → Section
with_line section line = record section { lines = section.lines ++ line ∷ [] }

-- the section of no guest
abbrev pub no_section : Section
no_section = record { name = []; at = 0; lines = [] }

-- the sections with a line at the end of the last
abbrev pub add_line : List Section → Line → List Section
add_line sections line = slice_set sections (length sections - 1) (with_line (slice_index_or sections (length sections - 1) no_section) line)

-- the sections with a line that asks for this, or the line's fault
abbrev pub what_step : List Section → ℕ → List (List ℕ) → Result What ScriptKind → Result (List Section) ScriptKind
what_step sections at words (Err kind) = Err kind
what_step sections at words (Ok what) = Ok (add_line sections (line_of at words what))

-- the sections after a line of these words, or its fault; no words are a blank line
abbrev pub words_step : List (List ℕ) → List Section → ℕ → List (List ℕ) → Result (List Section) ScriptKind
words_step names sections at [] = Ok sections
words_step names sections at (word ∷ words) =
    if bytes_eq word (codes "guest") then guest_step sections at words
    else if length sections == 0 then Err NoGuest
    else what_step sections at (word ∷ words) (what_of names sections (word ∷ words))

-- the sections after a line, or its fault; a line that begins with `#` is ignored
unfoldable pub step : List (List ℕ) → List Section → ℕ → List ℕ → Result (List Section) ScriptKind
step names sections at line =
    if not (is_printed line) then Err BadByte
    else if slice_index line 0 == 35 then Ok sections
    else words_step names sections at (words_of line)

-- what follows a line, or its fault
abbrev pub next : ℕ → Result (List Section) ScriptKind → (List Section → Result (List Section) ScriptFault) → Result (List Section) ScriptFault
next at (Err kind) rest = Err (record { line = at; kind = kind })
next at (Ok sections) rest = rest sections

-- the sections after lines, the first of which has the number `at`, or the first fault
abbrev pub steps : List (List ℕ) → List Section → ℕ → List (List ℕ) → Result (List Section) ScriptFault
steps names sections at [] = Ok sections
steps names sections at (line ∷ lines) = next at (step names sections at line) (λ new. steps names new (at + 1) lines)
