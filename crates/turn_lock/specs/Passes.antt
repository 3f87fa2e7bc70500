-- What passes know, and what a call, a split, a join and a close make of it.
use Rattle.std.specs.Prelude.{◌≡◌, ◌⊎◌, ℕ, ◌+◌, ◌<◌, List, [], ◌∷◌, ◌++◌, Some}
use Rattle.atomic_table.specs.Seated.{TableId}
use Rattle.turn_lock.specs.declared.view.Entry.{Entry}
use Rattle.turn_lock.specs.declared.view.Player.{Player}
use Rattle.turn_lock.specs.declared.view.Known.{Known}
use Rattle.turn_lock.specs.History.{BeginsWith, entry, calls_by, longer, Leads}

-- a pass as contracts see it: the lock that it is of, and what it knows
pub record PassState (O E R : Type 0) : Type 0 where
  pub turn : TableId
  pub known : Known O E R

-- x is an element of the list
abbrev pub IsIn : {A : Type 0} → A → List A → Type 0
IsIn x [] = ⊥
IsIn x (y ∷ ys) = (x ≡ y) ⊎ IsIn x ys

module _ {E R : Type 0} where
  -- a pass of this name, off which so many passes were split, with these calls
  abbrev pub player : List ℕ → ℕ → List (Entry E R) → Player E R
  player name splits calls = record { name = name; splits = splits; calls = calls }

  -- the name of the next pass that is split off: the name with the count of splits behind it
  abbrev pub next_name : Player E R → List ℕ
  next_name c = c.name ++ c.splits ∷ []

  -- the same pass with one call more
  abbrev pub with_call : Player E R → E → R → Player E R
  with_call c event reply = player c.name c.splits (c.calls ++ entry c.name event reply ∷ [])

module _ {O E R : Type 0} where
  -- the first pass: it has the empty name, and has seen nothing
  abbrev pub beginner : O → Known O E R
  beginner o = record { opening = Some o; seen = []; own = player [] 0 []; joined = [] }

  -- off the pass one more was split
  abbrev pub counted : Known O E R → Known O E R
  counted k = record k { own = player k.own.name (k.own.splits + 1) k.own.calls }

  -- the pass that is split off: it has a name of its own, has seen the same history, and made no call
  abbrev pub child : Known O E R → Known O E R
  child k = record { opening = k.opening; seen = k.seen; own = player (next_name k.own) 0 []; joined = [] }

  -- the pass after another was joined into it: it keeps the longer history, and what the other is known by
  abbrev pub joining : Known O E R → Known O E R → Known O E R
  joining k other = record k { seen = longer k.seen other.seen; joined = other.own ∷ other.joined ++ k.joined }

  -- c is the pass, or one that was joined into it
  abbrev pub Has : Known O E R → Player E R → Type 0
  Has k c = (c ≡ k.own) ⊎ IsIn c k.joined

  -- the pass, or one that was joined into it, has this name
  abbrev pub HasName : Known O E R → List ℕ → Type 0
  HasName k name = (c : Player E R) × Has k c × (c.name ≡ name)

  -- the first pass is this one or was joined into it, and so was each pass that was split off one of them
  abbrev pub IsWhole : Known O E R → Type 0
  IsWhole k = HasName k [] × ((c : Player E R) (n : ℕ) → Has k c → n < c.splits → HasName k (c.name ++ n ∷ []))

  -- the object is what one legal history leads to, which begins with all that the pass has seen, in which it and each
  -- pass that was joined into it have exactly their calls, and in which no entry has another name
  pub record Closes (step : O → E → R → O → Type 0) (k : Known O E R) (o : O) : Type 0 where
    pub history : List (Entry E R)
    pub legal : Leads step k.opening history o
    pub begins : BeginsWith history k.seen
    pub calls : (c : Player E R) → Has k c → calls_by c.name history ≡ c.calls
    pub others : (name : List ℕ) → (HasName k name → ⊥) → calls_by name history ≡ []
