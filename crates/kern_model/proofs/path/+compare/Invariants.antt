use Rattle.std.proofs.Common.{length}
use Rattle.kern_model.proofs.path.+compare.Given as goal

abbrev pub decreases-compare : goal.decreases-compare
decreases-compare l = length l.left.now
