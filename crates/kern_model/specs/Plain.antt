-- What an answer of the plain kernel says of the definition's step.
use Rattle.std.specs.Prelude.{ℕ, Option, None, Some}
use Rattle.kern_model.specs.declared.outcome.Outcome.{Outcome}
use Rattle.std.specs.Option.{option_map}
use Rattle.kern_model.specs.declared.node.OpenFile.{OpenFile}
use Rattle.kern_model.specs.declared.node.Row.{Row}
use Rattle.sp_base.specs.Table.{at}
use Rattle.kern_model.specs.State.{State, replace_file}
use Rattle.kern_model.specs.Step.{Step}

-- the step that an answer and the state after it make
abbrev pub step_of : Option Outcome → State → Step
step_of None after = None
step_of (Some outcome) after = Some (outcome, after)

-- the state after a write that came to an end: there an open file goes on, where one has a number here
abbrev pub after_write : Option ℕ → OpenFile → State → ℕ → State
after_write None file next end = next
after_write (Some number) file next end = replace_file next number (record file { offset = end })

-- the open file of a row, with its number
abbrev pub file_of_row : State → Option Row → Option (ℕ × OpenFile)
file_of_row s None = None
file_of_row s (Some row) = option_map (λ file. (row.file, file)) (at s.files row.file)
