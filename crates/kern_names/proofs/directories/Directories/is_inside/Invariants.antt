use Rattle.std.proofs.Common.{◌≡◌, Some}
use Rattle.std.specs.Prelude.{is_some, IsTrue}
use Rattle.std.specs.FinMap.{get}
use Rattle.kern_model.specs.Name.{Path, below}
use Rattle.kern_names.specs.Tree.{has_directory}
use Rattle.kern_names.proofs.AboveLaws.{depth}
use Rattle.kern_names.proofs.directories.Directories.is_inside.Given as goal

abbrev pub invariant-loop-at : goal.invariant-loop-at
invariant-loop-at l = IsTrue (has_directory l.self l.at)
    × ((path p above : Path) → get l.self.names path ≡ Some l.fn.directory.0 → get l.self.names p ≡ Some l.at → get l.self.names above ≡ Some l.top.0 → is_some (below path above) ≡ is_some (below p above))

abbrev pub decreases-loop-at : goal.decreases-loop-at
decreases-loop-at l = depth l.self l.at
