use Rattle.std.proofs.Common.{◌≡◌, ◌≤◌, false, List, ℕ, ◌++◌, length}
use Rattle.sp_server.specs.Session.{Moves, IsBehind}
use Rattle.sp_server.proofs.session.answer_ready.Given as goal

abbrev pub invariant-loop-frame : goal.invariant-loop-frame
invariant-loop-frame g l =
    let o = g.O.Sink in
    let s = g.S.Salt in
    record {
      so : (input before written : List ℕ) → IsBehind l.fn.framer l.fn.hub input before written
          → Moves (s.drawn l.fn.salt) (s.drawn l.salt) (o.held l.fn.sink) (o.held l.sink) (λ salts text. IsBehind l.framer l.hub input (before ++ salts) (written ++ text));
      rest : l.framer.rest ≡ l.fn.framer.rest;
      stop : l.framer.stop ≡ l.fn.framer.stop;
      later : o.faults l.fn.sink ≤ o.faults l.sink;
      salted : s.faults l.fn.salt ≤ s.faults l.salt;
      «open» : o.is_done l.sink ≡ false;
    }

abbrev pub decreases-loop-frame : goal.decreases-loop-frame
decreases-loop-frame g l = length l.framer.ready
