-- Passes that were split off and not joined yet: what threads owe each other and give back.
use Rattle.std.specs.Prelude.{◌≡◌, ◌⊎◌, ℕ, ◌<◌, List, [], ◌∷◌, ◌++◌}
use Rattle.turn_lock.specs.declared.view.Player.{Player}
use Rattle.turn_lock.specs.declared.view.Known.{Known}
use Rattle.turn_lock.specs.Passes.{IsIn, Has, HasName}

module _ {O E R : Type 0} where
  -- each pass that was split off this one, or off one that was joined into it, was joined into it too, but for these
  abbrev pub Owes : Known O E R → List (List ℕ) → Type 0
  Owes k names = (c : Player E R) (n : ℕ) → Has k c → n < c.splits
      → HasName k (c.name ++ n ∷ []) ⊎ IsIn (c.name ++ n ∷ []) names

  -- nothing is owed
  pub record IsPaid (k : Known O E R) : Type 0 where
    pub owes : Owes k []

  -- the same pass later on, which owes these
  pub record IsLater (k later : Known O E R) (owed : List (List ℕ)) : Type 0 where
    pub name : later.own.name ≡ k.own.name
    pub owes : Owes later owed

  -- what a thread gives back for the pass k: the same pass later on, which owes nothing
  abbrev pub Returns : Known O E R → Known O E R → Type 0
  Returns k later = IsLater k later []
