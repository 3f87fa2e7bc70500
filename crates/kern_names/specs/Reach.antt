-- What a walk of a path's text comes to.
use Rattle.std.specs.Prelude.{◌≡◌, ℕ, ◌+◌, ◌≤◌, List, ◌∷◌, length, Option, None, Some, is_some, IsTrue, slice_range}
use Rattle.std.specs.FinMap.{get}
use Rattle.kern_model.specs.declared.walk.Walked.{Walked as Way}
use Rattle.kern_model.specs.declared.walk.Walked.TheVariants as way
use Rattle.kern_model.specs.Name.{Path, ends_with_slash}
use Rattle.kern_model.specs.State.{State, is_directory}
use Rattle.kern_names.specs.declared.walk.Last.{Last}
use Rattle.kern_names.specs.declared.walk.Walked.{Walked}
use Rattle.kern_names.specs.declared.walk.Walked.TheVariants.{Found, Missing, Fault}
use Rattle.kern_names.specs.Tree.{Tree, has_directory}

-- a state has the names of a tree, and the directories among them
pub record HasNames (s : State) (t : Tree) : Type 0 where
  pub names : s.names ≡ t.names
  pub directories : (path : Path) (node : ℕ) → get t.names path ≡ Some node → is_directory s node ≡ has_directory t node

-- a path is what a part of a text spells in a directory
pub record IsLast (t : Tree) (text : List ℕ) (path : Path) (last : Last) : Type 0 where
  pub above : Path
  pub spelled : path ≡ slice_range text last.from (last.from + last.len) ∷ above
  pub stands : get t.names above ≡ Some last.directory.0
  pub within : IsTrue (has_directory t last.directory.0)
  pub fits : last.from + last.len ≤ length text
  pub slash : last.slash ≡ ends_with_slash text

-- a path is what the last component spells, where that is a name
abbrev pub IsNamed : Tree → List ℕ → Path → Option Last → Type 0
IsNamed t text path None = Unit {0}
IsNamed t text path (Some last) = IsLast t text path last

-- an answer says what a walk comes to
abbrev pub Reaches : Tree → List ℕ → Way → Walked → Type 0
Reaches t text walk (Found node last) = (path : Path) × (walk ≡ way.Found path node.0 (is_some last)) × (get t.names path ≡ Some node.0) × IsNamed t text path last
Reaches t text walk (Missing last) = (path : Path) × (walk ≡ way.Missing path last.slash) × (get t.names path ≡ None) × IsLast t text path last
Reaches t text walk (Fault error) = walk ≡ way.Faulty error
