-- How the command stdio ends.
use Rattle.std.specs.Prelude.{◌≡◌, ℕ, Bool, true, Option, Some, None, List}
use Rattle.sp_io.specs.Causes.{Rose}
use Rattle.sp_server.specs.Stdio.{is_read}
use Rattle.sp_server.specs.declared.stdio.StdioEnd.{StdioEnd}
use Rattle.sp_server.specs.declared.stdio.StdioEnd.TheVariants.{Clean, BadAt, InsideAt, TooMuch, InputFault, OutputFault, SaltFault, NoMemory}
use Rattle.rump_sp.specs.declared.failure.Failure.{Failure}
use Rattle.rump_sp.specs.declared.failure.Failure.TheVariants as failure
use Rattle.rump_sp.specs.Failure.{exit_status, told_of}

-- the failure that an end is
abbrev pub end_failure : StdioEnd → Option Failure
end_failure Clean = None
end_failure (BadAt offset) = Some (failure.BadFrame offset)
end_failure (InsideAt offset) = Some (failure.Inside offset)
end_failure TooMuch = Some failure.TooMuch
end_failure InputFault = Some failure.Input
end_failure OutputFault = Some failure.Output
end_failure SaltFault = Some failure.Salt
end_failure NoMemory = Some failure.NoMemory

-- the exit status of an end
abbrev pub end_status : StdioEnd → ℕ
end_status end = exit_status (end_failure end)

-- what is told of an end: nothing of a clean one, and of another one its message with its offset
abbrev pub end_message : StdioEnd → List ℕ
end_message end = told_of (end_failure end)

-- why an end came: the input ended where it is said to have, and a fault of the input, the output or the salt comes only where its count rose
pub record HasEndCause (end : StdioEnd) (ended : Bool) (input input' output output' salt salt' : ℕ) : Type 0 where
  pub read : is_read end ≡ true → ended ≡ true
  pub failed_input : end ≡ InputFault → Rose input input'
  pub failed_output : end ≡ OutputFault → Rose output output'
  pub failed_salt : end ≡ SaltFault → Rose salt salt'
