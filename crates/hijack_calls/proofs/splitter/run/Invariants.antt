use Rattle.std.proofs.Common.{◌≤◌, ◌-◌, length}
use Rattle.hijack_split.specs.Split.{steps_by}
use Rattle.hijack_calls.specs.Turns.{Ends, left}
use Rattle.hijack_calls.specs.declared.side.Cause.{Cause}
use Rattle.hijack_calls.proofs.RunLaws.{RunsOn}
use Rattle.hijack_calls.proofs.splitter.run.Given as goal

abbrev pub invariant-loop-i : goal.invariant-loop-i
invariant-loop-i g l =
    let r = g.R.Side in
    let h = g.H.Side in
    let steps = steps_by l.view l.call l.route in
    record {
      count : length l.answers ≤ l.i;
      ends : Ends (9 - l.i) (left steps l.answers);
      runs : RunsOn r.does h.does (left steps l.answers) l.rump l.host l.mem steps l.fn.rump l.fn.host l.fn.mem;
      rump : (cause : Cause) → r.faults l.fn.rump cause ≤ r.faults l.rump cause;
      host : (cause : Cause) → h.faults l.fn.host cause ≤ h.faults l.host cause;
    }
