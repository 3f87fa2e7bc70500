-- The entries of a poll, as words and as bytes.
use Rattle.std.specs.Prelude.{ℕ, ◌+◌, ◌==◌, ◌++◌, List, None, Option, Some, [], ◌∷◌, codes, drop, if◌then◌else◌, position, take}
use Rattle.std.specs.Int.{to_le_bytes, w16, w32}
use Rattle.std.specs.Str.{bytes_eq}
use Rattle.script_words.specs.Numbers.{small_signed_of}
use Rattle.script_words.specs.Steps.{◌>>=◌}

-- the bits of the events that are asked for
unfoldable pub events_of : List ℕ → Option ℕ
events_of w =
    if bytes_eq w (codes "in") then Some 1
    else if bytes_eq w (codes "out") then Some 4
    else if bytes_eq w (codes "in|out") then Some 5
    else if bytes_eq w (codes "none") then Some 0
    else None

-- the bytes of an entry that asks for these events: descriptor, events, and no events answered
unfoldable pub entry_bytes : ℕ → ℕ → List ℕ
entry_bytes fd events = to_le_bytes w32 fd ++ to_le_bytes w16 events ++ 0 ∷ 0 ∷ []

-- the bytes of an entry whose colon stands at a place
abbrev pub entry_at : List ℕ → Option ℕ → Option (List ℕ)
entry_at w None = None
entry_at w (Some i) = small_signed_of (take i w) >>= (λ fd. events_of (drop (i + 1) w) >>= (λ events. Some (entry_bytes fd events)))

-- the bytes of an entry: `FD:EVENTS`
unfoldable pub entry_of : List ℕ → Option (List ℕ)
entry_of w = entry_at w (position (λ b. b == 58) w)

-- the bytes of entries, behind those before them
abbrev pub entries_from : List ℕ → List (List ℕ) → Option (List ℕ)
entries_from front [] = Some front
entries_from front (w ∷ ws) = entry_of w >>= (λ entry. entries_from (front ++ entry) ws)

-- the bytes of the entries that words spell
abbrev pub entries_of : List (List ℕ) → Option (List ℕ)
entries_of words = entries_from [] words
