-- When nothing of a server goes on by itself.
use Rattle.std.specs.Prelude.{ℕ, ◌==◌, ◌||◌, not, Bool, List, length}
use Rattle.std.specs.FinMap.{values}
use Rattle.std.specs.List.{list_any}
use Rattle.hub_model.specs.Sound.{is_waiting}
use Rattle.hub_model.specs.State.{Connection, Machine}

-- a frame of the connection is queued, or a call of it isn't performed yet
abbrev pub has_work : Connection → Bool
has_work x = not (length x.queue == 0) || list_any is_waiting (values x.calls)

-- no frame is queued, and no call is still to be performed
abbrev pub is_idle : Machine → Bool
is_idle m = not (list_any has_work (values m.connections))
