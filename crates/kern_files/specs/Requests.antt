-- What may be asked of a tree of files.
use Rattle.std.specs.Prelude.{◌≡◌, ◌≢◌, ℕ, false, Some, IsSome, IsTrue}
use Rattle.std.specs.FinMap.{get}
use Rattle.kern_model.specs.Name.{Path, has_entries}
use Rattle.kern_model.specs.State.{is_directory}
use Rattle.kern_model.specs.Links.{is_below}
use Rattle.kern_files.specs.Files.{Files, state_of}

-- a node is a directory that has a name
pub record IsDirectory (f : Files) (node : ℕ) : Type 0 where
  pub path : Path
  pub stands : get f.names path ≡ Some node
  pub directory : IsTrue (is_directory (state_of f) node)

-- what is `old` may take the place of another node: no directory with entries, not above, and not the same node
pub record MayReplace (f : Files) (old new : Path) (replaced : ℕ) : Type 0 where
  pub there : IsSome (get f.names old)
  pub taken : get f.names new ≡ Some replaced
  pub empty : IsTrue (is_directory (state_of f) replaced) → has_entries f.names new ≡ false
  pub outside : is_below new old ≡ false
  pub two : get f.names old ≢ Some replaced
