-- What a walk of a path's text comes to.
use Rattle.std.specs.Prelude.{◌≡◌, ℕ, ◌+◌, ◌≤◌, List, ◌∷◌, length, Option, None, Some, is_some, slice_range}
use Rattle.std.specs.FinMap.{get}
use Rattle.kern_model.specs.declared.walk.Walked.{Walked as Way}
use Rattle.kern_model.specs.declared.walk.Walked.TheVariants as way
use Rattle.kern_model.specs.Name.{Path, ends_with_slash}
use Rattle.kern_names.specs.declared.walk.Last.{Last}
use Rattle.kern_names.specs.declared.walk.Walked.{Walked}
use Rattle.kern_names.specs.declared.walk.Walked.TheVariants.{Found, Missing, Fault}
use Rattle.kern_files.specs.Files.{Files}
use Rattle.kern_files.specs.Requests.{IsDirectory}

-- a path is what a part of a text spells in a directory
pub record IsLast (f : Files) (text : List ℕ) (path : Path) (last : Last) : Type 0 where
  pub above : Path
  pub spelled : path ≡ slice_range text last.from (last.from + last.len) ∷ above
  pub stands : get f.names above ≡ Some last.directory.0
  pub within : IsDirectory f last.directory.0
  pub fits : last.from + last.len ≤ length text
  pub slash : last.slash ≡ ends_with_slash text

-- a path is what the last component spells, where that is a name
abbrev pub IsNamed : Files → List ℕ → Path → Option Last → Type 0
IsNamed f text path None = Unit {0}
IsNamed f text path (Some last) = IsLast f text path last

-- an answer says what a walk comes to
abbrev pub Reaches : Files → List ℕ → Way → Walked → Type 0
Reaches f text walk (Found node last) = (path : Path) × (walk ≡ way.Found path node.0 (is_some last)) × (get f.names path ≡ Some node.0) × IsNamed f text path last
Reaches f text walk (Missing last) = (path : Path) × (walk ≡ way.Missing path last.slash) × (get f.names path ≡ None) × IsLast f text path last
Reaches f text walk (Fault error) = walk ≡ way.Faulty error
