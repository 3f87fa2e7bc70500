-- The items of RUMPHIJACK, their keys and what they say.
use Rattle.std.specs.Prelude.{ℕ, ◌==◌, List, None, Option, Some, [], codes, drop, find, if◌then◌else◌, length, nat_eq, option_map}
use Rattle.std.specs.List.{list_any, starts_with}
use Rattle.script_words.specs.Pieces.{pieces_of}
use Rattle.hijack_rules.specs.declared.items.Key.{Key}
use Rattle.hijack_rules.specs.declared.items.Key.TheVariants.{Blanket, Offset, Path, Socket}
use Rattle.std.specs.Prelude.{Bool}

-- the items of a text, which commas part; the empty text has none
unfoldable pub items_of : List ℕ → List (List ℕ)
items_of text = if length text == 0 then [] else pieces_of 44 text

-- what an item of a key begins with
abbrev pub name_of : Key → List ℕ
name_of Path = codes "path="
name_of Blanket = codes "blanket="
name_of Socket = codes "socket="
name_of Offset = codes "fdoff="

-- an item is of a key
abbrev pub is_of : Key → List ℕ → Bool
is_of key item = starts_with nat_eq item (name_of key)

-- the key of an item
unfoldable pub key_of : List ℕ → Option Key
key_of item =
    if is_of Path item then Some Path
    else if is_of Blanket item then Some Blanket
    else if is_of Socket item then Some Socket
    else if is_of Offset item then Some Offset
    else None

-- what an item of a key says: what stands behind the key
abbrev pub value_in : Key → List ℕ → List ℕ
value_in key item = drop (length (name_of key)) item

-- some item is of a key
abbrev pub is_given : Key → List (List ℕ) → Bool
is_given key items = list_any (is_of key) items

-- what the first item of a key says
abbrev pub value_of : Key → List (List ℕ) → Option (List ℕ)
value_of key items = option_map (value_in key) (find (is_of key) items)
