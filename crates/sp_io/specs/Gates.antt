-- Gates: why one answers no, how often one answers yes, and how the first question of several gates fares.
use Rattle.std.specs.Prelude.{◌≡◌, ℕ, ◌≤◌, Bool, true, false}
use Rattle.sp_io.specs.Causes.{Rose}
use Rattle.sp_io.specs.declared.gate.Meeting.{Meeting}
use Rattle.sp_io.specs.declared.gate.Meeting.TheVariants.{Unasked, Waiting, Met, Missed}

-- the count never falls, and no is answered only where it rose
pub record HasAnswerCause (before now : ℕ) (answer : Bool) : Type 0 where
  pub later : before ≤ now
  pub no : answer ≡ false → Rose before now

-- a gate that counts: how many questions it answers by yes, how many of these are left, and its faults
pub record GateState : Type 0 where
  pub most : ℕ
  pub left : ℕ
  pub faults : ℕ

-- a gate that was asked nothing
abbrev pub fresh_gate : ℕ → GateState
fresh_gate most = record { most = most; left = most; faults = 0 }

-- no question was asked yet
abbrev pub is_unasked : Meeting → Bool
is_unasked Unasked = true
is_unasked Waiting = false
is_unasked Met = false
is_unasked Missed = false

-- another gate ended the first question
abbrev pub is_met : Meeting → Bool
is_met Unasked = false
is_met Waiting = false
is_met Met = true
is_met Missed = false

-- a gate was asked: the first question waits, and the second ends that
abbrev pub asked : Meeting → Meeting
asked Unasked = Waiting
asked Waiting = Met
asked Met = Met
asked Missed = Missed

-- a gate noted: that ends the first question where it waits
abbrev pub noted : Meeting → Meeting
noted Unasked = Unasked
noted Waiting = Met
noted Met = Met
noted Missed = Missed

-- the first question waits no longer
abbrev pub ended : Meeting → Meeting
ended Unasked = Unasked
ended Waiting = Missed
ended Met = Met
ended Missed = Missed
