use Rattle.std.proofs.Common.{length}
use Rattle.kern_model.proofs.path.+depth_below.Given as goal

abbrev pub decreases-depth_below : goal.decreases-depth_below
decreases-depth_below l = length l.path.now
