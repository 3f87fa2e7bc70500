-- A finite map from small numbers, as the list of what it has at each number.
use Rattle.std.specs.Prelude.{ℕ, List, Option, None, slice_index_or, drop, is_none}
use Rattle.std.specs.List.{position_from}

-- what a table has at a number
abbrev pub at : {X : Type 0} → List (Option X) → ℕ → Option X
at table n = slice_index_or table n None

-- the lowest unused number from `least` on
abbrev pub lowest_unused : {X : Type 0} → List (Option X) → ℕ → Option ℕ
lowest_unused table least = position_from is_none least (drop least table)
