-- What may be asked of the directories.
use Rattle.std.specs.Prelude.{◌≡◌, ◌≢◌, ℕ, Bool, false, None, Some, IsSome, IsTrue}
use Rattle.std.specs.FinMap.{get}
use Rattle.kern_model.specs.Name.{Path, has_entries}
use Rattle.kern_model.specs.Links.{is_below}
use Rattle.kern_names.specs.Tree.{Tree, has_directory}

-- a node may have a new name: it is no directory of the tree, and a new directory has no name
pub record MayHaveName (t : Tree) (node : ℕ) (is_directory : Bool) : Type 0 where
  pub plain : has_directory t node ≡ false
  pub unnamed : IsTrue is_directory → (path : Path) → get t.names path ≢ Some node

-- a path may be taken away: something is there, and a directory has no entries
pub record MayGo (t : Tree) (path : Path) : Type 0 where
  pub there : IsSome (get t.names path)
  pub empty : (node : ℕ) → get t.names path ≡ Some node → IsTrue (has_directory t node) → has_entries t.names path ≡ false

-- what is `old` may be `new`: it is there, nothing is at the new path, and that isn't below the old one
pub record MayMove (t : Tree) (old new : Path) : Type 0 where
  pub there : IsSome (get t.names old)
  pub free : get t.names new ≡ None
  pub outside : is_below new old ≡ false

-- what is `old` may take the place of another node, which may be taken away and isn't above
pub record MayReplace (t : Tree) (old new : Path) : Type 0 where
  pub there : IsSome (get t.names old)
  pub taken : MayGo t new
  pub outside : is_below new old ≡ false
  pub two : get t.names old ≢ get t.names new
