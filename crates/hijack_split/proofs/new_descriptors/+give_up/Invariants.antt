use Rattle.std.proofs.Common.{length}
use Rattle.hijack_split.proofs.new_descriptors.+give_up.Given as goal

abbrev pub decreases-give_up : goal.decreases-give_up
decreases-give_up l = length l.made.now
