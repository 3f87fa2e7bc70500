-- The names of guests.
use Rattle.std.specs.Prelude.{ℕ, ◌+◌, ◌==◌, ◌&&◌, ◌||◌, Bool, List, None, Option, Some, [], ◌∷◌, codes, if◌then◌else◌, length, nat_le, slice_index, suc}
use Rattle.std.specs.List.{list_all}
use Rattle.std.specs.Option.{option_map}
use Rattle.std.specs.Str.{bytes_eq}
use Rattle.script_words.specs.Words.{words_of}

-- a letter of a name
abbrev pub is_letter : ℕ → Bool
is_letter b = nat_le 97 b && nat_le b 122

-- a byte of a name: a letter, a digit, or `_`
abbrev pub is_name_byte : ℕ → Bool
is_name_byte b = is_letter b || (nat_le 48 b && nat_le b 57) || (b == 95)

-- a guest's name: 1 to 31 bytes, a letter first
unfoldable pub is_name : List ℕ → Bool
is_name w = is_letter (slice_index w 0) && nat_le (length w) 31 && list_all is_name_byte w

-- the name in the words of a line `guest NAME`
abbrev pub guest_name : List (List ℕ) → Option (List ℕ)
guest_name (verb ∷ name ∷ []) = if bytes_eq verb (codes "guest") && is_name name then Some name else None
guest_name _ = None

-- a name before others, if there is one
abbrev pub with_name : Option (List ℕ) → List (List ℕ) → List (List ℕ)
with_name None names = names
with_name (Some name) names = name ∷ names

-- the names of all lines `guest NAME`, in order
abbrev pub names_of : List (List ℕ) → List (List ℕ)
names_of [] = []
names_of (line ∷ lines) = with_name (guest_name (words_of line)) (names_of lines)

-- the place of a name among some
abbrev pub place_of : List (List ℕ) → List ℕ → Option ℕ
place_of [] name = None
place_of (other ∷ names) name = if bytes_eq other name then Some 0 else option_map suc (place_of names name)
