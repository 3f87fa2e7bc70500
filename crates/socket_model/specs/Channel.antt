-- Channels: all that was ever put, how much of it was taken, and which ends are shut.
use Rattle.std.specs.Prelude.{ℕ, ◌+◌, ◌-◌, Bool, true, false, ◌&&◌, List, [], ◌∷◌, ◌++◌, length, drop, Option, None, Some, slice_set, if◌then◌else◌}
use Rattle.sp_base.specs.Table.{at}
use Rattle.socket_model.specs.declared.limits.TheConstants.{STREAM_BYTES}
use Rattle.socket_model.specs.declared.letter.Letter.{Letter}
use Rattle.socket_model.specs.declared.ruling.How.{How}
use Rattle.socket_model.specs.declared.ruling.How.TheVariants.{Reading, Writing, Both}

-- what goes through a channel: all that was ever put, the oldest first; how much of it was taken; whether the end that
-- is read from and the end that is written to are shut
pub record Track (X : Type 0) : Type 0 where
  pub all : List X
  pub taken : ℕ
  pub reading_shut : Bool
  pub writing_shut : Bool

module _ {X : Type 0} where
  -- nothing was put yet, and both ends are open
  abbrev pub fresh_track : Track X
  fresh_track = record { all = []; taken = 0; reading_shut = false; writing_shut = false }

  -- what is held: the list of all that was put, from the number taken on
  abbrev pub held : Track X → List X
  held t = drop t.taken t.all

  -- the track after more was put
  abbrev pub with_put : Track X → List X → Track X
  with_put t items = record t { all = t.all ++ items }

  -- the track after the oldest n of those held were taken
  abbrev pub with_taken : Track X → ℕ → Track X
  with_taken t n = record t { taken = t.taken + n }

  -- the track after an end, or both, were shut
  abbrev pub with_shut : Track X → How → Track X
  with_shut t Reading = record t { reading_shut = true }
  with_shut t Writing = record t { writing_shut = true }
  with_shut t Both = record t { reading_shut = true; writing_shut = true }

-- how many bytes fit
abbrev pub room : Track ℕ → ℕ
room t = STREAM_BYTES - length (held t)

-- a channel of bytes, as a pipe or one direction of a stream is, or of letters, as a datagram socket has one
pub data Channel : Type 0 where
  Bytes : Track ℕ → Channel
  Letters : Track Letter → Channel

-- the track of a channel of bytes
abbrev pub bytes_in : Option Channel → Track ℕ
bytes_in None = fresh_track
bytes_in (Some (Bytes t)) = t
bytes_in (Some (Letters t)) = fresh_track

-- the track of a channel of letters
abbrev pub letters_in : Option Channel → Track Letter
letters_in None = fresh_track
letters_in (Some (Bytes t)) = fresh_track
letters_in (Some (Letters t)) = t

-- there is a channel, and it is one of bytes
abbrev pub IsBytes : Option Channel → Type 0
IsBytes None = ⊥
IsBytes (Some (Bytes t)) = Unit {0}
IsBytes (Some (Letters t)) = ⊥

-- there is a channel, and it is one of letters
abbrev pub IsLetters : Option Channel → Type 0
IsLetters None = ⊥
IsLetters (Some (Bytes t)) = ⊥
IsLetters (Some (Letters t)) = Unit {0}

-- how many bytes or letters a channel holds
abbrev pub count_held : Option Channel → ℕ
count_held None = 0
count_held (Some (Bytes t)) = length (held t)
count_held (Some (Letters t)) = length (held t)

-- whether a channel's reading end is shut, and whether its writing end is
abbrev pub ends_of : Option Channel → Bool × Bool
ends_of None = (false, false)
ends_of (Some (Bytes t)) = (t.reading_shut, t.writing_shut)
ends_of (Some (Letters t)) = (t.reading_shut, t.writing_shut)

-- a channel after an end, or both, were shut
abbrev pub shut_channel : Option Channel → How → Option Channel
shut_channel None how = None
shut_channel (Some (Bytes t)) how = Some (Bytes (with_shut t how))
shut_channel (Some (Letters t)) how = Some (Letters (with_shut t how))

-- a channel is there until both its ends are shut
abbrev pub while_open : Option Channel → Option Channel
while_open channel = if (ends_of channel).0 && (ends_of channel).1 then None else channel

-- the channels after an end of one, or both, were shut
abbrev pub shut_end : List (Option Channel) → ℕ → How → List (Option Channel)
shut_end channels c how = slice_set channels c (while_open (shut_channel (at channels c) how))

-- the channels with another track of the channel of bytes with a number
abbrev pub set_bytes : List (Option Channel) → ℕ → Track ℕ → List (Option Channel)
set_bytes channels c t = slice_set channels c (Some (Bytes t))

-- the channels with another track of the channel of letters with a number
abbrev pub set_letters : List (Option Channel) → ℕ → Track Letter → List (Option Channel)
set_letters channels c t = slice_set channels c (Some (Letters t))

-- the channels with a new one of bytes, whose number is the length of the table before
abbrev pub with_bytes : List (Option Channel) → List (Option Channel)
with_bytes channels = channels ++ Some (Bytes fresh_track) ∷ []

-- the channels with a new one of letters, whose number is the length of the table before
abbrev pub with_letters : List (Option Channel) → List (Option Channel)
with_letters channels = channels ++ Some (Letters fresh_track) ∷ []
