-- Histories of calls: which are legal, whose calls stand in them, and how one goes on from another.
use Rattle.std.specs.Prelude.{◌≡◌, ℕ, ◌==◌, List, [], ◌∷◌, ◌++◌, length, nat_lt, Option, Some, Bool, true, false, ◌&&◌, filter, if◌then◌else◌}
use Rattle.turn_lock.specs.declared.view.Entry.{Entry}

-- the two names are one
abbrev pub is_name : List ℕ → List ℕ → Bool
is_name [] [] = true
is_name [] (y ∷ ys) = false
is_name (x ∷ xs) [] = false
is_name (x ∷ xs) (y ∷ ys) = (x == y) && is_name xs ys

-- the history begins with what was seen
abbrev pub BeginsWith : {A : Type 0} → List A → List A → Type 0
BeginsWith {A} history seen = (rest : List A) × (history ≡ seen ++ rest)

-- the history begins with what was seen and ends with the entry
abbrev pub BeginsAndEnds : {A : Type 0} → List A → A → List A → Type 0
BeginsAndEnds {A} seen last history = (between : List A) × (history ≡ (seen ++ between) ++ last ∷ [])

-- the longer of two histories
abbrev pub longer : {A : Type 0} → List A → List A → List A
longer xs ys = if nat_lt (length xs) (length ys) then ys else xs

module _ {E R : Type 0} where
  -- the call of a pass with this name
  abbrev pub entry : List ℕ → E → R → Entry E R
  entry name event reply = record { name = name; event = event; reply = reply }

  -- the calls of one name, in order
  abbrev pub calls_by : List ℕ → List (Entry E R) → List (Entry E R)
  calls_by name history = filter (λ e. is_name name e.name) history

module _ {O E R : Type 0} where
  -- the history leads from the object `from` to the object `to`: at each call the step allows the reply and what follows
  abbrev pub Runs : (O → E → R → O → Type 0) → O → List (Entry E R) → O → Type 0
  Runs step from [] to = from ≡ to
  Runs step from (e ∷ history) to = (next : O) × step from e.event e.reply next × Runs step next history to

  -- the history leads to this object from the opening one
  abbrev pub Leads : (O → E → R → O → Type 0) → Option O → List (Entry E R) → O → Type 0
  Leads step opening history to = (from : O) × (opening ≡ Some from) × Runs step from history to

  -- each reply of the history is one that the step allows at that point from the opening object
  abbrev pub IsLegal : (O → E → R → O → Type 0) → Option O → List (Entry E R) → Type 0
  IsLegal step opening history = (to : O) × Leads step opening history to
