-- The room that is kept so that nothing fails later.
use Rattle.std.specs.Prelude.{◌≡◌, ℕ, ◌+◌, ◌≤◌, Some, count_by, is_some, IsTrue, IsSome}
use Rattle.std.specs.Ordering.{nat_cmp}
use Rattle.std.specs.FinMap.{FinMap, get, len}
use Rattle.std.specs.List.{AllByRecursion}
use Rattle.sp_base.specs.Kept.{Room}
use Rattle.sp_frames.specs.Grammar.{Fits}
use Rattle.sp_frames.specs.declared.frame.Frame.{Frame}
use Rattle.kern_model.specs.Journal.{state_after}
use Rattle.kern_model.specs.declared.journal.Entry.{Entry}
use Rattle.hub_model.specs.Sound.{is_waiting}
use Rattle.hub_model.specs.State.{speaks}
use Rattle.hub_model.specs.declared.state.Condition.{Condition}
use Rattle.hub_model.specs.declared.state.OpenCall.{OpenCall}

-- there is room for so many frames: an error for each call that waits, and the last error of the connection
pub record HasErrorRoom (calls : FinMap nat_cmp OpenCall) (spare : ℕ) : Type 0 where
  pub waiting : FinMap nat_cmp ℕ
  pub each : (number : ℕ) (task : OpenCall) → get calls number ≡ Some task → IsTrue (is_waiting task) → IsSome (get waiting number)
  pub room : len waiting + 1 ≤ spare

-- a connection whose client may still send something has that room
abbrev pub KeepsErrorRoom : Condition → FinMap nat_cmp OpenCall → ℕ → Type 0
KeepsErrorRoom condition calls spare = IsTrue (speaks condition) → HasErrorRoom calls spare

-- what holds of a connection's queue: it keeps that room, and each of its frames is within its row
pub record IsQueue (condition : Condition) (calls : FinMap nat_cmp OpenCall) (queue : Room Frame) : Type 0 where
  pub room : KeepsErrorRoom condition calls queue.spare
  pub fits : AllByRecursion Fits queue.items

-- there is room for the entry of each process's exit
abbrev pub HasExitRoom : Room Entry → Type 0
HasExitRoom journal = count_by is_some (state_after journal.items).processes ≤ journal.spare
