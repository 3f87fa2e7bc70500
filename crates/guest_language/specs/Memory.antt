-- The memory of a line.
use Rattle.std.specs.Prelude.{ℕ, ◌++◌, ◌==◌, ◌||◌, List, None, Option, Some, [], ◌∷◌, codes, if◌then◌else◌, length, nat_lt, replicate}
use Rattle.std.specs.Str.{bytes_eq}
use Rattle.sp_copy.specs.declared.part.Part.{Part}
use Rattle.sp_copy.specs.declared.part.Right.{Right}
use Rattle.sp_copy.specs.declared.part.Right.TheVariants.{Both, Readable, Writable}
use Rattle.guest_language.specs.declared.slot.Made.{Made}
use Rattle.guest_language.specs.declared.slot.Slot.{Slot}
use Rattle.guest_language.specs.declared.slot.Slot.TheVariants.{Blank, Entries, Filled, Given, Nothing}
use Rattle.guest_language.specs.declared.slot.TheConstants.{FIRST, SECOND}
use Rattle.guest_language.specs.declared.verb.Verb.{Verb}
use Rattle.guest_language.specs.Made.{made_of}
use Rattle.guest_language.specs.Verbs.{verb_of}
use Rattle.script_words.specs.Words.{words_of}

-- a part, where it has bytes, and no more than lie before the next address; no script's line has more
unfoldable pub part_of : ℕ → Right → List ℕ → List Part
part_of base right bytes =
    if length bytes == 0 || nat_lt FIRST (length bytes) then []
    else record { base = base; right = right; bytes = bytes } ∷ []

-- what lies at an address
abbrev pub slot_part : ℕ → Slot → List Part
slot_part base Nothing = []
slot_part base (Given bytes) = part_of base Readable bytes
slot_part base (Filled len) = part_of base Readable (replicate len 120)
slot_part base (Blank len) = part_of base Writable (replicate len 0)
slot_part base (Entries bytes) = part_of base Both bytes

-- the words of a line's call, without `&`
abbrev pub call_words : List (List ℕ) → List (List ℕ)
call_words [] = []
call_words (word ∷ words) = if bytes_eq word (codes "&") then words else word ∷ words

-- the call of a verb, where there is one
abbrev pub verb_made : Option Verb → List (List ℕ) → Option Made
verb_made None words = None
verb_made (Some verb) words = made_of verb words

-- the call that a line spells
abbrev pub line_made : List (List ℕ) → Option Made
line_made [] = None
line_made (word ∷ words) = verb_made (verb_of word) words

-- the parts of a call as a line spells it
abbrev pub made_parts : Option Made → List Part
made_parts None = []
made_parts (Some made) = slot_part FIRST made.first ++ slot_part SECOND made.second

-- the parts of a line's memory; none where it is no line of a call
abbrev pub memory_of : List ℕ → List Part
memory_of text = made_parts (line_made (call_words (words_of text)))
