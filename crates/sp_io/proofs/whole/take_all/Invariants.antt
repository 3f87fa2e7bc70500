use Rattle.std.proofs.Common.{◌≡◌, ◌+◌, ◌-◌, ◌≤◌, false, length}
use Rattle.std.specs.Io.KnownBytes.{Appends, Consumes}
use Rattle.sp_io.proofs.whole.take_all.Given as goal

abbrev pub invariant-loop-piece : goal.invariant-loop-piece
invariant-loop-piece g l =
    let s = g.S.Source in
    record {
      few : length l.text ≤ l.most;
      taken : Consumes (s.left l.fn.source) (s.left l.source) l.text;
      passed : Appends (s.passed l.fn.source) (s.passed l.source) l.text;
      «open» : s.is_done l.source ≡ false;
      later : s.faults l.fn.source ≤ s.faults l.source;
    }

abbrev pub decreases-loop-piece : goal.decreases-loop-piece
decreases-loop-piece g l = l.most + 1 - length l.text
