-- What a rename comes to that nothing stands against.
use Rattle.std.specs.Prelude.{◌≡◌, ℕ, ◌==◌, List, Option, None, Some, if◌then◌else◌}
use Rattle.std.specs.FinMap.{get}
use Rattle.kern_model.specs.Links.{act_rename, moved, without_name}
use Rattle.kern_model.specs.Name.{Path, is_same_path}
use Rattle.kern_model.specs.State.{State}
use Rattle.kern_model.specs.Step.{answered}
use Rattle.kern_names.specs.declared.walk.Last.{Last}
use Rattle.kern_files.specs.Files.{rename_error}
use Rattle.kern_files.specs.Reach.{IsLast}
use Rattle.kern_calls.specs.Reached.{files_of}

-- the state after a node has another path: one object under two names loses the old one; what else was there is gone
abbrev pub renamed_to : State → Path → ℕ → Path → Option ℕ → State
renamed_to s old node new None = moved s old new
renamed_to s old node new (Some replaced) =
    if is_same_path old new then s
    else if node == replaced then without_name s old node
    else moved (without_name s new replaced) old new

-- some path is what a part of a text spells in a directory
pub record IsPart (s : State) (text : List ℕ) (last : Last) : Type 0 where
  pub path : Path
  pub is : IsLast (files_of s) text path last

-- a rename may be done: its names stand in directories of the tree, which doesn't refuse it, and it gives that state
pub record MayRename (s : State) (pid : ℕ) (old new : List ℕ) (from to : Last) : Type 0 where
  pub path : Path
  pub above : Path
  pub node : ℕ
  pub begins : IsLast (files_of s) old path from
  pub ends : IsLast (files_of s) new above to
  pub there : get s.names path ≡ Some node
  pub allowed : rename_error (files_of s) path above ≡ None
  pub acts : act_rename s pid old new ≡ answered 0 (renamed_to s path node above (get s.names above))
