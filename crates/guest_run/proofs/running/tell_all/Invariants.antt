use Rattle.std.proofs.Common.{◌≡◌, ◌≤◌, drop, None}
use Rattle.std.specs.List.{AllByRecursion}
use Rattle.sp_base.specs.declared.names.Pid.{Pid}
use Rattle.guest_language.specs.Facts.{HasProperCall}
use Rattle.guest_run.specs.Guest.{IsAtRest}
use Rattle.guest_run.specs.Outside.{first_outside}
use Rattle.guest_run.specs.UnderWay.{IsUnderWay}
use Rattle.guest_run.proofs.running.tell_all.Given as goal

abbrev pub invariant-loop-i : goal.invariant-loop-i
invariant-loop-i g l = record {
  way : (pid : Pid) → IsAtRest l.fn.joined pid 1 → IsUnderWay l.section l.fn.joined l.joined l.rows l.i (drop l.i l.line-items) pid;
  proper : AllByRecursion HasProperCall (drop l.i l.line-items);
  inside : first_outside (drop l.i l.line-items) ≡ None;
  cause : g.S.Salt.faults l.fn.salt ≤ g.S.Salt.faults l.salt;
}
