use Rattle.std.proofs.Common.{length}
use Rattle.frame_bench.proofs.passing.take_all.Given as goal

abbrev pub decreases-loop-frame : goal.decreases-loop-frame
decreases-loop-frame l = length l.framer.ready
