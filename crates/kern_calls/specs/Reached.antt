-- What a path's text leads to for a process.
use Rattle.std.specs.Prelude.{◌≡◌, ℕ, ◌+◌, ◌≤◌, List, [], ◌∷◌, length, Option, None, Some, is_some, slice_range}
use Rattle.std.specs.FinMap.{get}
use Rattle.kern_model.specs.declared.walk.Walked.{Walked}
use Rattle.kern_model.specs.declared.walk.Walked.TheVariants as way
use Rattle.kern_model.specs.Name.{Path}
use Rattle.kern_model.specs.State.{State}
use Rattle.kern_names.specs.declared.walk.Last.{Last}
use Rattle.kern_files.specs.Files.{Files}
use Rattle.kern_files.specs.Reach.{IsLast, IsNamed}

-- the files of a state, without holders
abbrev pub files_of : State → Files
files_of s = record { names = s.names; nodes = s.nodes; holders = [] }

-- a walk came to a node, under a path that the text's last component names, where that is a name
pub record IsFound (s : State) (text : List ℕ) (walk : Walked) (node : ℕ) (last : Option Last) : Type 0 where
  pub path : Path
  pub walks : walk ≡ way.Found path node (is_some last)
  pub stands : get s.names path ≡ Some node
  pub named : IsNamed (files_of s) text path last

-- a walk came to a path that nothing stands under, which the text's last component names
pub record IsMissing (s : State) (text : List ℕ) (walk : Walked) (last : Last) : Type 0 where
  pub path : Path
  pub walks : walk ≡ way.Missing path last.slash
  pub free : get s.names path ≡ None
  pub named : IsLast (files_of s) text path last
