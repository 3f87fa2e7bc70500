-- The needs of a call that were asked for, by index; a call has two at the most.
use Rattle.std.specs.Prelude.{◌≡◌, ℕ, ◌+◌, ◌<◌, ◌≤◌, ◌==◌, Bool, List, length, if◌then◌else◌}
use Rattle.std.specs.List.{list_any}
use Rattle.sp_frames.specs.declared.frame.Body.{Body}
use Rattle.sp_frames.specs.declared.frame.Body.TheVariants.{AskBytes, AskText}

-- the index was asked for
abbrev pub was_asked : List ℕ → ℕ → Bool
was_asked asked index = list_any (λ i. i == index) asked

-- one ask, where the index was asked for
abbrev pub asks_for : List ℕ → ℕ → ℕ
asks_for asked index = if was_asked asked index then 1 else 0

-- no more asks than indexes that were asked for
abbrev pub AskedOnce : List ℕ → Type 0
AskedOnce asked = length asked ≤ asks_for asked 0 + asks_for asked 1

-- an ask of this index, which a call can have, for no more than a frame of its answer can carry
abbrev pub IsAskOf : ℕ → Body → Type 0
IsAskOf index (AskBytes i addr len) = (i ≡ index) × (index < 2) × (len ≤ 131044)
IsAskOf index (AskText i addr most) = (i ≡ index) × (index < 2) × (most ≤ 1024)
IsAskOf index _ = ⊥
