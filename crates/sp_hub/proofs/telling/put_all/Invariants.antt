use Rattle.std.proofs.Common.{◌≡◌, ◌+◌, ◌++◌, length, drop}
use Rattle.std.specs.List.{AllByRecursion}
use Rattle.sp_frames.specs.Grammar.{Fits}
use Rattle.hub_model.specs.Frames.{puts_from}
use Rattle.sp_hub.specs.Outs.{HaveRooms}
use Rattle.sp_hub.proofs.telling.put_all.Given as goal

abbrev pub invariant-loop-index : goal.invariant-loop-index
invariant-loop-index l = record {
  rooms : HaveRooms l.blanks (drop l.index l.pieces);
  used : length l.blanks + l.index ≡ length l.initial.blanks;
  spare : l.queue.spare + l.index ≡ l.initial.queue.spare;
  items : l.queue.items ++ puts_from l.number l.index (drop l.index l.pieces) ≡ l.initial.queue.items ++ puts_from l.number 0 l.pieces;
  fits : AllByRecursion Fits l.initial.queue.items → AllByRecursion Fits l.queue.items;
}
