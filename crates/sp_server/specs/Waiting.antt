-- How many calls of a connection wait: what rounds of work use up.
use Rattle.std.specs.Prelude.{ℕ, zero, suc, ◌+◌, List, [], ◌∷◌, Option, None, Some, if◌then◌else◌}
use Rattle.std.specs.Ordering.{nat_cmp}
use Rattle.std.specs.FinMap.{FinMap, get, entries}
use Rattle.sp_base.specs.declared.names.ConnNo.{ConnNo}
use Rattle.hub_model.specs.Sound.{is_waiting}
use Rattle.hub_model.specs.State.{Machine}
use Rattle.hub_model.specs.Task.{open_calls}
use Rattle.hub_model.specs.declared.state.OpenCall.{OpenCall}

-- one where a call waits
abbrev pub waits_at : Option OpenCall → ℕ
waits_at None = 0
waits_at (Some task) = if is_waiting task then 1 else 0

-- how many calls up to a number wait
unfoldable pub waiting_to : FinMap nat_cmp OpenCall → ℕ → ℕ
waiting_to calls zero = waits_at (get calls 0)
waiting_to calls (suc n) = waits_at (get calls (suc n)) + waiting_to calls n

-- the sum of the keys, which none of them is above
unfoldable pub keys_to : {X : Type 0} → List (ℕ × X) → ℕ
keys_to [] = 0
keys_to (e ∷ es) = e.0 + keys_to es

-- no call has a number above this one
unfoldable pub bound : FinMap nat_cmp OpenCall → ℕ
bound calls = keys_to (entries calls)

-- how many calls wait
abbrev pub all_waiting : FinMap nat_cmp OpenCall → ℕ
all_waiting calls = waiting_to calls (bound calls)

-- how many calls of a connection wait
abbrev pub waiting : Machine → ConnNo → ℕ
waiting m c = all_waiting (open_calls m c)
