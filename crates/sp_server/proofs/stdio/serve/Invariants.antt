use Rattle.std.proofs.Common.{◌≡◌, ◌-◌, ◌≤◌, false}
use Rattle.sp_server.specs.Stdio.{most_input}
use Rattle.sp_server.proofs.RunLaws.{told, IsRunning}
use Rattle.sp_server.proofs.stdio.serve.Given as goal

abbrev pub invariant-loop-piece : goal.invariant-loop-piece
invariant-loop-piece g l =
    let i = g.I.Source in
    let o = g.O.Sink in
    let s = g.S.Salt in
    record {
      so : IsRunning l.session (told (i.left l.fn.source) (i.passed l.fn.source) (o.held l.fn.sink) (s.drawn l.fn.salt)) (told (i.left l.source) (i.passed l.source) (o.held l.sink) (s.drawn l.salt));
      sourced : i.faults l.fn.source ≤ i.faults l.source;
      sunk : o.faults l.fn.sink ≤ o.faults l.sink;
      salted : s.faults l.fn.salt ≤ s.faults l.salt;
      unread : i.is_done l.source ≡ false;
      «open» : o.is_done l.sink ≡ false;
    }

abbrev pub decreases-loop-piece : goal.decreases-loop-piece
decreases-loop-piece g l = most_input - l.session.fed
