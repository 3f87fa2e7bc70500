-- What an operation gives.
use Rattle.std.specs.Prelude.{ℕ, []}
use Rattle.sp_base.specs.declared.errno.Errno.{Errno}
use Rattle.sp_base.specs.Errno.{errno_number}
use Rattle.kern_model.specs.declared.outcome.Outcome.{Outcome}

-- a success with one value, which writes nothing
abbrev pub success : ℕ → Outcome
success value = record { err = 0; ret0 = value; ret1 = 0; outs = [] }

-- an error: both values are 0, and nothing is written
abbrev pub failure : Errno → Outcome
failure error = record { err = errno_number error; ret0 = 0; ret1 = 0; outs = [] }
