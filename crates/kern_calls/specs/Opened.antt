-- What an open makes.
use Rattle.std.specs.Prelude.{ℕ, ◌+◌, Bool, [], if◌then◌else◌}
use Rattle.kern_model.specs.declared.node.Access.{Access}
use Rattle.kern_model.specs.declared.node.Object.TheVariants as object
use Rattle.kern_model.specs.declared.node.OpenFile.{OpenFile}
use Rattle.kern_model.specs.Descriptors.{has_bit}
use Rattle.kern_model.specs.State.{State}
use Rattle.kern_model.specs.State as state
use Rattle.kern_files.specs.Files.{Files, holders_of, with_holders, with_bytes}

-- the open file that an open of a node makes
abbrev pub opened_file : ℕ → ℕ → Access → OpenFile
opened_file node flags access = record { object = object.Node node; access = access; append = has_bit flags 8; nonblock = has_bit flags 4; offset = 0 }

-- the files with one holder more of a node
abbrev pub held : Files → ℕ → Files
held f node = with_holders f node (holders_of f node + 1)

-- the files with a node emptied, where that is asked for
abbrev pub emptied_if : Bool → Files → ℕ → Files
emptied_if asked f node = if asked then with_bytes f node [] else f

-- the state with a node emptied, where that is asked for
abbrev pub without_bytes_if : Bool → State → ℕ → State
without_bytes_if asked s node = if asked then state.with_bytes s node [] else s
