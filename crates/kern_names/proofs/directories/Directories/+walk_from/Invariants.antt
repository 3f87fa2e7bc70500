use Rattle.std.proofs.Common.{◌-◌, length}
use Rattle.kern_names.proofs.directories.Directories.+walk_from.Given as goal

abbrev pub decreases-walk_from : goal.decreases-walk_from
decreases-walk_from l = length l.text.now - l.from
