-- The entries of a poll, as it was asked and as it answers.
use Rattle.std.specs.Prelude.{ℕ, ◌-◌, ◌/◌, ◌%◌, ◌^◌, ◌==◌, ◌&&◌, ◌++◌, Bool, List, None, Option, Some, [], ◌∷◌, codes, drop, if◌then◌else◌, length, nat_lt, suc, zero}
use Rattle.std.specs.Fmt.{decimal}
use Rattle.guest_rows.specs.declared.answered.PollPart.{PollPart}
use Rattle.guest_rows.specs.declared.answered.PollPart.TheVariants.{Answered, Asked}
use Rattle.guest_rows.specs.Fields.{u16_in, u32_in}
use Rattle.script_words.specs.Steps.{◌>>=◌}

-- bits that a poll answers: 1, 4, 8, 16 and 32
unfoldable pub is_revents : ℕ → Bool
is_revents bits = nat_lt bits 64 && ((bits / 2) % 2 == 0)

-- the name of a bit behind `|`, where it is set
unfoldable pub bar : ℕ → ℕ → List ℕ → List ℕ
bar bits bit name = if (bits / bit) % 2 == 1 then 124 ∷ name else []

-- the names of the bits that are set, each behind `|`
unfoldable pub revents_bars : ℕ → List ℕ
revents_bars bits = bar bits 1 (codes "in") ++ bar bits 4 (codes "out") ++ bar bits 8 (codes "err") ++ bar bits 16 (codes "hup") ++ bar bits 32 (codes "nval")

-- the names of the bits that are set, joined by `|`, or `none`
unfoldable pub revents_text : ℕ → List ℕ
revents_text bits = if length (revents_bars bits) == 0 then codes "none" else drop 1 (revents_bars bits)

-- a descriptor of 32 bits in two's complement
unfoldable pub fd_text : ℕ → List ℕ
fd_text fd = if nat_lt fd (2 ^ 31) then decimal fd else 45 ∷ decimal (2 ^ 32 - fd)

-- the entry that bytes begin with, as it is answered: `FD:EVENTS`
unfoldable pub answered_entry : List ℕ → Option (List ℕ)
answered_entry bytes =
    if nat_lt (length bytes) 8 then None
    else if is_revents (u16_in 6 bytes) then Some (fd_text (u32_in 0 bytes) ++ codes ":" ++ revents_text (u16_in 6 bytes))
    else None

-- the events that a script asks for
unfoldable pub asked_name : ℕ → Option (List ℕ)
asked_name events =
    if events == 0 then Some (codes "none")
    else if events == 1 then Some (codes "in")
    else if events == 4 then Some (codes "out")
    else if events == 5 then Some (codes "in|out")
    else None

-- a descriptor and the events that it is asked for
abbrev pub with_events : ℕ → Option (List ℕ) → Option (List ℕ)
with_events fd None = None
with_events fd (Some events) = Some (fd_text fd ++ codes ":" ++ events)

-- the entry that bytes begin with, as a script asks for one: no event is answered in it yet
unfoldable pub asked_entry : List ℕ → Option (List ℕ)
asked_entry bytes =
    if nat_lt (length bytes) 8 then None
    else if u16_in 6 bytes == 0 then with_events (u32_in 0 bytes) (asked_name (u16_in 4 bytes))
    else None

-- the entry that bytes begin with
abbrev pub entry_text : PollPart → List ℕ → Option (List ℕ)
entry_text Asked bytes = asked_entry bytes
entry_text Answered bytes = answered_entry bytes

-- the texts so far, and of so many entries more, each behind a space
abbrev pub entries_from : PollPart → List ℕ → ℕ → List ℕ → Option (List ℕ)
entries_from part front zero bytes = Some front
entries_from part front (suc n) bytes = entry_text part bytes >>= (λ text. entries_from part (front ++ codes " " ++ text) n (drop 8 bytes))

-- the texts of so many entries, each behind a space
unfoldable pub entries_text : PollPart → ℕ → List ℕ → Option (List ℕ)
entries_text part count bytes = entries_from part [] count bytes
