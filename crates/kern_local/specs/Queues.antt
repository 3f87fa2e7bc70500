-- The places of connections that wait at a socket, and of letters.
use Rattle.std.specs.Prelude.{◌≡◌, ℕ, ◌<◌, ◌≤◌, List, length, Option, None, Some}
use Rattle.sp_base.specs.Table.{at}
use Rattle.socket_model.specs.declared.limits.TheConstants.{BACKLOG, LETTERS}
use Rattle.socket_model.specs.Channel.{Channel, IsLetters, letters_in, held}

-- so many connections may wait
abbrev pub IsBacklog : Option ℕ → Type 0
IsBacklog None = Unit {0}
IsBacklog (Some most) = most ≤ BACKLOG

-- the ring has room for as many as may wait
pub record FitsQueue (backlog : Option ℕ) (capacity : ℕ) : Type 0 where
  pub most : IsBacklog backlog
  pub places : capacity ≡ BACKLOG

-- fewer wait than may
abbrev pub IsQueueable : Option ℕ → ℕ → Type 0
IsQueueable None count = ⊥
IsQueueable (Some most) count = count < most

-- a link names a channel of letters in which one more fits
abbrev pub HasPlace : List (Option Channel) → Option ℕ → Type 0
HasPlace channels None = ⊥
HasPlace channels (Some c) = IsLetters (at channels c) × (length (held (letters_in (at channels c))) < LETTERS)
