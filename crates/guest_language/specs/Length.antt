-- How long a script may be.
use Rattle.std.specs.Prelude.{ℕ, ◌+◌, ◌-◌, ◌==◌, ◌||◌, Bool, List, [], ◌∷◌, codes, count_by, if◌then◌else◌, length, nat_lt, slice_index}
use Rattle.std.specs.Str.{bytes_eq}
use Rattle.guest_language.specs.declared.length.TheConstants.{MOST_BYTES, MOST_GUESTS, MOST_LINES}
use Rattle.script_words.specs.Pieces.{pieces_of}
use Rattle.script_words.specs.Words.{first_word, words_of}

-- the lines of a text; what stands behind the last line end is the last one
abbrev pub lines_of : List ℕ → List (List ℕ)
lines_of text = pieces_of 10 text

-- a text whose last line has its line end
abbrev pub is_ended : List ℕ → Bool
is_ended text = (length text == 0) || (slice_index text (length text - 1) == 10)

-- how many lines a text has; bytes behind the last line end are a line
abbrev pub line_count : List ℕ → ℕ
line_count text = count_by (λ b. b == 10) text + (if is_ended text then 0 else 1)

-- more bytes or lines than are read
abbrev pub is_long : List ℕ → Bool
is_long text = nat_lt MOST_BYTES (length text) || nat_lt MOST_LINES (line_count text)

-- a line whose first word is `guest`
abbrev pub is_guest_line : List ℕ → Bool
is_guest_line line = bytes_eq (first_word (words_of line)) (codes "guest")

-- how many lines begin with the word `guest`
abbrev pub guest_line_count : List (List ℕ) → ℕ
guest_line_count lines = count_by is_guest_line lines

-- a script is too long: above 16 MiB, 100,000 lines, or 200 lines that begin with the word `guest`
abbrev pub is_too_long : List ℕ → Bool
is_too_long text = is_long text || nat_lt MOST_GUESTS (guest_line_count (lines_of text))
