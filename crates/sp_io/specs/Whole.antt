-- What reading a whole source, and writing all of a text, leave behind.
use Rattle.std.specs.Prelude.{◌≡◌, ℕ, ◌≤◌, ◌<◌, Option, Some, None, List, length, take, ⊤}
use Rattle.std.specs.Io.KnownBytes.{Appends, Consumes}

-- the text is all that was left, where that is told
abbrev pub IsAll : Option (List ℕ) → List ℕ → Type 0
IsAll None text = ⊤
IsAll (Some left) text = text ≡ left

-- more than so many bytes were left, where that is told
abbrev pub IsLonger : Option (List ℕ) → ℕ → Type 0
IsLonger None most = ⊤
IsLonger (Some left) most = most < length left

-- at most so many bytes went from what was left to what was passed
abbrev pub TakesAtMost : Option (List ℕ) → Option (List ℕ) → Option (List ℕ) → Option (List ℕ) → ℕ → Type 0
TakesAtMost left left' passed passed' most =
    (text : List ℕ) × (length text ≤ most) × Consumes left left' text × Appends passed passed' text

-- first bytes of the piece were put
abbrev pub AppendsFirst : Option (List ℕ) → Option (List ℕ) → List ℕ → Type 0
AppendsFirst held held' bytes = (n : ℕ) × Appends held held' (take n bytes)
