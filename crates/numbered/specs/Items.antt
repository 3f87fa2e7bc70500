-- How a `Numbered` keeps its values.
use Rattle.std.specs.Prelude.{◌≡◌, ℕ, zero, suc, ◌+◌, ◌<◌, ◌^◌, ◌==◌, List, [], ◌∷◌, ◌++◌, Option, Some, None, slice_index_or, if◌then◌else◌}
use Rattle.slab.specs.Slab.{Slab, HasRoomFor}
use Rattle.numbered.specs.declared.Item.{Item}

module _ {T : Type 0} where
  -- the number of what a slot holds
  abbrev pub number_of : Option (Item T) → Option ℕ
  number_of None = None
  number_of (Some item) = Some item.number

  -- the value under a number
  unfoldable pub find : List (Option (Item T)) → ℕ → Option T
  find [] n = None
  find (None ∷ slots) n = find slots n
  find (Some item ∷ slots) n = if item.number == n then Some item.value else find slots n

  -- the values under the numbers below a bound
  unfoldable pub items_of : List (Option (Item T)) → ℕ → List (Option T)
  items_of slots zero = []
  items_of slots (suc n) = items_of slots n ++ find slots n ∷ []

  -- the numbers are below the next one, and no two slots have one number
  pub record AreNumbers (slots : List (Option (Item T))) (next : ℕ) : Type 0 where
    pub below : (k : ℕ) (item : Item T) → slice_index_or slots k None ≡ Some item → item.number < next
    pub distinct : (j k : ℕ) (a b : Item T) → slice_index_or slots j None ≡ Some a → slice_index_or slots k None ≡ Some b → a.number ≡ b.number → j ≡ k

  -- so many more values have a slot and a number
  pub record IsNumbered (slab : Slab (Item T)) (next room : ℕ) : Type 0 where
    pub numbers : AreNumbers slab.slots next
    pub slots : HasRoomFor slab room
    pub last : next + room < 2 ^ 64
