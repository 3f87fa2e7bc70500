-- What a side counts.
use Rattle.std.specs.Prelude.{ℕ}
use Rattle.sp_io.specs.Causes.{Rose}
use Rattle.hijack_calls.specs.declared.side.Cause.{Cause}
use Rattle.hijack_calls.specs.declared.side.Cause.TheVariants as cause
use Rattle.hijack_calls.specs.declared.side.SideFault.{SideFault}
use Rattle.hijack_calls.specs.declared.side.SideFault.TheVariants as fault

-- a fault's count rose; want of memory has none
abbrev pub HasRisen : (Cause → ℕ) → (Cause → ℕ) → SideFault → Type 0
HasRisen before now (fault.Blocked mem) = Rose (before cause.Blocked) (now cause.Blocked)
HasRisen before now (fault.Refused error mem) = Rose (before cause.Refused) (now cause.Refused)
HasRisen before now (fault.Lost mem) = Rose (before cause.Lost) (now cause.Lost)
HasRisen before now (fault.Broken mem) = Rose (before cause.Broken) (now cause.Broken)
HasRisen before now (fault.NoMemory mem) = Unit {0}
