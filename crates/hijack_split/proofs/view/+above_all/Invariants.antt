use Rattle.std.proofs.Common.{length}
use Rattle.hijack_split.proofs.view.+above_all.Given as goal

abbrev pub decreases-above_all : goal.decreases-above_all
decreases-above_all l = length l.aliases.now
