-- What a ring and the history beside it stand for.
use Rattle.std.specs.Prelude.{◌≡◌, ◌-◌, ◌≤◌, true, false, List, length, drop}
use Rattle.socket_model.specs.declared.ruling.How.{How}
use Rattle.socket_model.specs.declared.ruling.How.TheVariants.{Reading, Writing, Both}
use Rattle.socket_model.specs.Channel.{Track}
use Rattle.kern_local.specs.declared.ends.Ends.{Ends}

-- neither end is shut
abbrev pub all_open : Ends
all_open = record { reading_shut = false; writing_shut = false }

-- an end, or both, shut as well
abbrev pub with_end_shut : Ends → How → Ends
with_end_shut ends Reading = record ends { reading_shut = true }
with_end_shut ends Writing = record ends { writing_shut = true }
with_end_shut ends Both = record { reading_shut = true; writing_shut = true }

module _ {X : Type 0} where
  -- all that was put, and that the items of the ring weren't taken yet
  abbrev pub track_of : List X → List X → Ends → Track X
  track_of all items ends = record { all = all; taken = length all - length items; reading_shut = ends.reading_shut; writing_shut = ends.writing_shut }

  -- the items of the ring are the last ones of all that was put
  pub record IsHeld (all items : List X) : Type 0 where
    pub fewer : length items ≤ length all
    pub last : drop (length all - length items) all ≡ items
