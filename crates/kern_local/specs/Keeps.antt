-- What a change of channels keeps.
use Rattle.std.specs.Prelude.{ℕ, List, Option}
use Rattle.sp_base.specs.Table.{at}
use Rattle.socket_model.specs.Channel.{Channel, IsLetters}
use Rattle.socket_model.specs.Sound.{IsOpenToRead, IsOpenToWrite}

-- open ends stay open, and letters stay letters
pub record Keeps (old new : List (Option Channel)) : Type 0 where
  pub reads : (c : ℕ) → IsOpenToRead (at old c) → IsOpenToRead (at new c)
  pub writes : (c : ℕ) → IsOpenToWrite (at old c) → IsOpenToWrite (at new c)
  pub letters : (c : ℕ) → IsLetters (at old c) → IsLetters (at new c)
