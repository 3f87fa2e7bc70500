use Rattle.std.proofs.Common.{◌≡◌, drop, take, ◌-◌, ◌≤◌, length}
use Rattle.std.specs.List.{AllByRecursion}
use Rattle.sp_frames.specs.Grammar.{Fits}
use Rattle.sp_frames.specs.Stream.{stream_of}
use Rattle.sp_frames.proofs.framer.split.Given as goal

abbrev pub invariant-loop-frame : goal.invariant-loop-frame
invariant-loop-frame l = record {
  inside : l.used ≤ length l.bytes;
  whole : stream_of l.ready.items (drop l.used l.bytes) ≡ stream_of l.fn.ready.items l.bytes;
  each : AllByRecursion Fits l.fn.ready.items → AllByRecursion Fits l.ready.items;
  front : take (length l.fn.ready.items) l.ready.items ≡ l.fn.ready.items;
}

abbrev pub decreases-loop-frame : goal.decreases-loop-frame
decreases-loop-frame l = length l.bytes - l.used
