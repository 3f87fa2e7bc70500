-- The objects in memory: what they tell, and which of their calls are to fail.
use Rattle.std.specs.Prelude.{ℕ, zero, suc, ◌+◌, ◌^◌, ◌%◌, Bool, false, List, [], ◌∷◌, ◌++◌}

-- a source in memory: the bytes that it gave, those that it has left, and its calls of take
pub record SourceState : Type 0 where
  pub passed : List ℕ
  pub left : List ℕ
  pub ended : Bool
  pub fails : List ℕ
  pub calls : ℕ
  pub faults : ℕ
  pub is_done : Bool

-- a source of these bytes, whose calls of these numbers are to fail
abbrev pub fresh_source : List ℕ → List ℕ → SourceState
fresh_source bytes fails = record {
  passed = [];
  left = bytes;
  ended = false;
  fails = fails;
  calls = 0;
  faults = 0;
  is_done = false;
}

-- a sink in memory: the bytes that it took, and its calls of put
pub record SinkState : Type 0 where
  pub held : List ℕ
  pub fails : List ℕ
  pub calls : ℕ
  pub faults : ℕ
  pub is_done : Bool

-- an empty sink, whose calls of these numbers are to fail
abbrev pub fresh_sink : List ℕ → SinkState
fresh_sink fails = record { held = []; fails = fails; calls = 0; faults = 0; is_done = false }

-- so many numbers that count up from the first, where 0 follows 2^64 - 1
abbrev pub counted : ℕ → ℕ → List ℕ
counted first zero = []
counted first (suc given) = counted first given ++ ((first + given) % 2 ^ 64) ∷ []

-- a salt in memory: the number that it counts up from, how many it gave, and its calls of next
pub record SaltState : Type 0 where
  pub first : ℕ
  pub given : ℕ
  pub fails : List ℕ
  pub calls : ℕ
  pub faults : ℕ

-- a salt that counts up from this number, whose calls of these numbers are to fail
abbrev pub fresh_salt : ℕ → List ℕ → SaltState
fresh_salt first fails = record { first = first; given = 0; fails = fails; calls = 0; faults = 0 }

-- the numbers that were drawn of it
abbrev pub drawn_of : SaltState → List ℕ
drawn_of salt = counted salt.first salt.given

-- a spawner in memory: its calls, and those that hand their jobs back
pub record SpawnerState : Type 0 where
  pub fails : List ℕ
  pub calls : ℕ
  pub faults : ℕ

-- a spawner whose calls of these numbers hand their jobs back
abbrev pub fresh_spawner : List ℕ → SpawnerState
fresh_spawner fails = record { fails = fails; calls = 0; faults = 0 }
