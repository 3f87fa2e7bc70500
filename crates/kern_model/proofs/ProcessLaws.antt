-- What the operations on processes do.
use Rattle.std.specs.Prelude.{IsSome, IsTrue, ◌↔◌}
use Rattle.std.proofs.lemmas.Bool.{true≢false}
use Rattle.std.proofs.Common.{◌≡◌, ◌≢◌, ℕ, List, [], length, Option, Some, None, true, false, refl, sym, ap, subst, ◌∙◌}
use Rattle.std.proofs.lemmas.List.{length-set}
use Rattle.sp_base.specs.declared.call.Call.{Call}
use Rattle.sp_base.specs.declared.errno.Errno.TheVariants.{Eagain}
use Rattle.sp_base.specs.Errno.{errno_number}
use Rattle.kern_model.specs.declared.operation.Op.{Op}
use Rattle.kern_model.specs.declared.operation.Op.TheVariants.{Sys, Attach, Fork, Exec, Exit}
use Rattle.kern_model.specs.declared.operation.Ins.{Ins}
use Rattle.kern_model.specs.declared.operation.Ins.TheVariants.{Given, Fault}
use Rattle.kern_model.specs.declared.outcome.Outcome.{Outcome}
use Rattle.sp_base.specs.Table.{at, lowest_unused}
use Rattle.kern_model.specs.Outcome.{failure}
use Rattle.kern_model.specs.State.{State, Process, fresh_process, rows_in, with_process, close_rows}
use Rattle.kern_model.specs.Step.{Step, answered, or_fail}
use Rattle.kern_model.specs.Descriptors.{act_attach, act_fork, act_exec, act_exit}
use Rattle.kern_model.specs.Act.{act, act_op, act_call, has_step}
use Rattle.kern_model.specs.Sound.{HasTables}
use Rattle.kern_model.specs.Laws.{MakesLowest}
use Rattle.sp_base.proofs.TableLaws.{at_other, at_same, at_within, all_set, lowest_unused_is}
use Rattle.kern_model.proofs.KeepLaws.{Keeps, keeps_same, keeps_close_rows}
use Rattle.kern_model.proofs.Holds.{HoldsOf, holds_is, each_is}
use Rattle.kern_model.proofs.KeepChanges.{keeps_changed}
use Rattle.kern_model.proofs.Does.{FailsClean, Does, fails, clean_failure, clean_success}
use Rattle.kern_model.proofs.CallLaws.{does_call}
use Rattle.kern_model.proofs.Errors.{no_error_is_zero}

-- what keeps the processes keeps the lengths of the tables
pub keeps_tables : (pid : ℕ) (s t : State) → Keeps pid s t → HasTables s → HasTables t
keeps_tables pid s t k h = record { numbers = k.numbers ∙ h.numbers; descriptors = λ q live. k.descriptors q ∙ h.descriptors q (sym (k.live q) ∙ live) }

-- ---- a new process

-- what a new process under the lowest unused number is, or that no number is unused
abbrev pub news : State → Option Process → Option ℕ → Step
news s process number = or_fail number Eagain s (λ pid. answered pid (with_process s pid process))

new_is : (s : State) (process : Option Process) (n : ℕ) → lowest_unused s.processes 2 ≡ Some n → MakesLowest s process n (with_process s n process)
new_is s process n low = record {
  lowest = low;
  unused = (lowest_unused_is s.processes 2 n low).1;
  made = at_within s.processes n process (lowest_unused_is s.processes 2 n low).0;
  names = refl;
  nodes = refl;
  files = refl;
}

-- what is so of each step that makes a process
pub record Makes (s : State) (process : Option Process) (outcome : Outcome) (t : State) : Type 0 where
  pub clean : FailsClean s outcome t
  pub others : (q : ℕ) → q ≢ outcome.ret0 → at t.processes q ≡ at s.processes q
  pub numbers : length t.processes ≡ length s.processes
  pub new : outcome.err ≡ 0 → MakesLowest s process outcome.ret0 t
  pub tables : (IsSome process → length (rows_in process) ≡ 128) → HasTables s → HasTables t
  pub full : outcome.err ≡ errno_number Eagain ↔ (lowest_unused s.processes 2 ≡ None)

makes_by : (s : State) (process : Option Process) (number : Option ℕ) → lowest_unused s.processes 2 ≡ number → HoldsOf Unit (Makes s process) (news s process number)
makes_by s process None low = record {
  clean = clean_failure s Eagain;
  others = λ q ne. refl;
  numbers = refl;
  new = λ e. absurd (no_error_is_zero Eagain e);
  tables = λ rows h. h;
  full = ((λ e. low), (λ e. refl));
}
makes_by s process (Some n) low = record {
  clean = clean_success s n [] (with_process s n process);
  others = λ q ne. at_other s.processes n process q ne;
  numbers = length-set s.processes n process;
  new = λ e. new_is s process n low;
  tables = λ rows h. record { numbers = length-set s.processes n process ∙ h.numbers; descriptors = all_set (λ (p : Option Process). IsSome p → length (rows_in p) ≡ 128) s.processes n process rows h.descriptors };
  full = ((λ e. absurd (no_error_is_zero Eagain (sym e))), (λ e. let k : Some n ≡ None = sym low ∙ e in absurd cc));
}

pub attach_makes : (s : State) (outcome : Outcome) (t : State) → act_attach s ≡ Some (outcome, t) → Makes s (Some fresh_process) outcome t
attach_makes s outcome t e = each_is (Makes s (Some fresh_process)) (act_attach s) outcome t (makes_by s (Some fresh_process) (lowest_unused s.processes 2) refl) e

pub fork_makes : (s : State) (pid : ℕ) (outcome : Outcome) (t : State) → act_fork s pid ≡ Some (outcome, t) → Makes s (at s.processes pid) outcome t
fork_makes s pid outcome t e = each_is (Makes s (at s.processes pid)) (act_fork s pid) outcome t (makes_by s (at s.processes pid) (lowest_unused s.processes 2) refl) e

-- a live process is the same after a new one is made
pub live_stays : {s t : State} {process : Option Process} {outcome : Outcome} (q : ℕ) → Makes s process outcome t → outcome.err ≡ 0 → IsSome (at s.processes q) → at t.processes q ≡ at s.processes q
live_stays {s = s} {t = t} q m e live = m.others q (λ same.
    let none : at s.processes q ≡ None = ap (λ (n : ℕ). at s.processes n) same ∙ (m.new e).unused in
    let no : IsSome {T = Process} None = subst (λ (o : Option Process). IsSome o) none live in absurd cc)

-- ---- exec and exit

-- what is so of each exit
pub record Ends (pid : ℕ) (s : State) (outcome : Outcome) (t : State) : Type 0 where
  pub clean : FailsClean s outcome t
  pub others : (q : ℕ) → q ≢ pid → at t.processes q ≡ at s.processes q
  pub tables : HasTables s → HasTables t
  pub gone : at t.processes pid ≡ None
  pub numbers : length t.processes ≡ length s.processes

exit_each : (s : State) (pid : ℕ) → HoldsOf Unit (Ends pid s) (act_exit s pid)
exit_each s pid =
    let closed = close_rows false s pid 128 in
    let keeps = keeps_close_rows false pid s 128 in record {
      clean = clean_success s 0 [] _;
      others = λ q ne. at_other closed.processes pid None q ne ∙ keeps.others q ne;
      tables = λ h. (let k = keeps_tables pid s closed keeps h in record {
        numbers = length-set closed.processes pid None ∙ k.numbers;
        descriptors = all_set (λ (p : Option Process). IsSome p → length (rows_in p) ≡ 128) closed.processes pid None (λ live. absurd cc) k.descriptors;
      });
      gone = at_same closed.processes pid None (λ _. refl);
      numbers = length-set closed.processes pid None ∙ keeps.numbers;
    }

pub exit_ends : (s : State) (pid : ℕ) (outcome : Outcome) (t : State) → act_exit s pid ≡ Some (outcome, t) → Ends pid s outcome t
exit_ends s pid outcome t e = each_is (Ends pid s) (act_exit s pid) outcome t (exit_each s pid) e

-- ---- every operation

-- what a call does, whatever it was given
pub call_does : (s : State) (pid : ℕ) (c : Call) (ins : Ins) (outcome : Outcome) (t : State) → act s pid (Sys c) ins ≡ Some (outcome, t) → Does pid s outcome t
call_does s pid c (Given pieces) outcome t e = holds_is outcome t (does_call Unit s pid c pieces (λ _. tt)) e
call_does s pid c (Fault error) outcome t e = each_is (Does pid s) (Some (failure error, s)) outcome t (fails pid s error) e

pub call_keeps : (s : State) (pid : ℕ) (c : Call) (ins : Ins) (outcome : Outcome) (t : State) → act s pid (Sys c) ins ≡ Some (outcome, t) → FailsClean s outcome t × Keeps pid s t
call_keeps s pid c ins outcome t e = let does = call_does s pid c ins outcome t e in (does.clean, keeps_changed does.change)

pub exec_keeps : (s : State) (pid : ℕ) (ins : Ins) (outcome : Outcome) (t : State) → act s pid Exec ins ≡ Some (outcome, t) → FailsClean s outcome t × Keeps pid s t
exec_keeps s pid (Given pieces) outcome t e = each_is (λ o t. FailsClean s o t × Keeps pid s t) (act_exec s pid) outcome t (clean_success s 0 [] _, keeps_close_rows true pid s 128) e
exec_keeps s pid (Fault error) outcome t e = each_is (λ o t. FailsClean s o t × Keeps pid s t) (Some (failure error, s)) outcome t (clean_failure s error, keeps_same pid s s refl) e

-- a call that has a step never waits
pub call_acts : (s : State) (pid : ℕ) (c : Call) (pieces : List (List ℕ)) → IsTrue (has_step c) → act_call s pid c pieces ≢ None
call_acts s pid c pieces has = λ e. subst (λ (step : Step). HoldsOf ⊥ (Does pid s) step) e (does_call ⊥ s pid c pieces (λ none. true≢false (sym has ∙ none))).is

clean_op : (s : State) (pid : ℕ) (op : Op) (pieces : List (List ℕ)) (outcome : Outcome) (t : State) → act_op s pid op pieces ≡ Some (outcome, t) → FailsClean s outcome t
clean_op s pid (Sys c) pieces outcome t e = (call_keeps s pid c (Given pieces) outcome t e).0
clean_op s pid Attach pieces outcome t e = (attach_makes s outcome t e).clean
clean_op s pid Fork pieces outcome t e = (fork_makes s pid outcome t e).clean
clean_op s pid Exec pieces outcome t e = (exec_keeps s pid (Given pieces) outcome t e).0
clean_op s pid Exit pieces outcome t e = (exit_ends s pid outcome t e).clean

-- an error has no values and no pieces, and leaves the state
pub clean : (s : State) (pid : ℕ) (op : Op) (ins : Ins) (outcome : Outcome) (t : State) → act s pid op ins ≡ Some (outcome, t) → FailsClean s outcome t
clean s pid op (Given pieces) outcome t e = clean_op s pid op pieces outcome t e
clean s pid op (Fault error) outcome t e = each_is (FailsClean s) (Some (failure error, s)) outcome t (clean_failure s error) e
