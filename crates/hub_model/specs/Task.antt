-- Which call that waits is the lowest one above a number.
use Rattle.std.specs.Prelude.{◌≡◌, ◌⊎◌, ℕ, ◌<◌, ◌≤◌, Option, None, Some, IsTrue}
use Rattle.std.specs.Ordering.{nat_cmp}
use Rattle.std.specs.FinMap.{FinMap, get, empty}
use Rattle.sp_base.specs.declared.names.ConnNo.{ConnNo}
use Rattle.sp_base.specs.declared.names.ReqNo.{ReqNo}
use Rattle.hub_model.specs.Sound.{is_waiting}
use Rattle.hub_model.specs.State.{Connection, Machine}
use Rattle.hub_model.specs.declared.state.OpenCall.{OpenCall}

-- the open calls of a connection, if there is one
abbrev pub calls_in : Option Connection → FinMap nat_cmp OpenCall
calls_in None = empty
calls_in (Some x) = x.calls

-- the open calls of the connection of a number; none where it is over or was never opened
abbrev pub open_calls : Machine → ConnNo → FinMap nat_cmp OpenCall
open_calls m c = calls_in (get m.connections c.0)

-- a call of this number is open, and isn't performed yet
abbrev pub Waits : FinMap nat_cmp OpenCall → ℕ → Type 0
Waits calls n = (task : OpenCall) × (get calls n ≡ Some task) × IsTrue (is_waiting task)

-- a call above a number that waits, than which no such call is lower; none exactly where no call above it waits
abbrev pub IsLowest : FinMap nat_cmp OpenCall → ReqNo → Option ReqNo → Type 0
IsLowest calls above None = (n : ℕ) → Waits calls n → n ≤ above.0
IsLowest calls above (Some r) = (above.0 < r.0) × Waits calls r.0 × ((n : ℕ) → Waits calls n → (n ≤ above.0) ⊎ (r.0 ≤ n))
