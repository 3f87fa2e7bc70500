use Rattle.std.proofs.Common.{◌≡◌, ◌≤◌, ◌++◌, false, List, ℕ, length}
use Rattle.std.specs.Io.KnownBytes.{Appends}
use Rattle.sp_io.proofs.whole.put_all.Given as goal

abbrev pub invariant-loop-rest : goal.invariant-loop-rest
invariant-loop-rest g l =
    let s = g.K.Sink in
    record {
      sofar : (done : List ℕ) × (l.bytes ≡ done ++ l.rest) × Appends (s.held l.fn.sink) (s.held l.sink) done;
      «open» : s.is_done l.sink ≡ false;
      later : s.faults l.fn.sink ≤ s.faults l.sink;
    }

abbrev pub decreases-loop-rest : goal.decreases-loop-rest
decreases-loop-rest g l = length l.rest
