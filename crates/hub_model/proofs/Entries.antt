-- The next entry of a journal, and which processes are live after it.
use Rattle.std.proofs.Common.{◌≡◌, ◌≢◌, ℕ, zero, suc, ◌+◌, ◌<◌, List, [], ◌∷◌, ◌++◌, length, Option, Some, None, IsSome, refl, sym, ap, subst, ◌∙◌, arith}
use Rattle.std.specs.Prelude.{slice_set, is_some, count_by}
use Rattle.std.proofs.lemmas.List.Sums.{sum_by-cons}
use Rattle.sp_base.specs.Table.{at, lowest_unused}
use Rattle.sp_base.specs.declared.call.Call.{Call}
use Rattle.sp_base.specs.declared.errno.Errno.TheVariants.{Eagain}
use Rattle.sp_base.specs.declared.limits.TheConstants.{FIRST_PROCESS}
use Rattle.sp_base.specs.declared.names.Pid.{Pid}
use Rattle.sp_base.proofs.CountLaws.{one_if}
use Rattle.sp_base.proofs.TableLaws.{at_within, lowest_unused_is}
use Rattle.kern_model.specs.declared.journal.Entry.{Entry}
use Rattle.kern_model.specs.declared.journal.Who.{Who}
use Rattle.kern_model.specs.declared.operation.Ins.{Ins}
use Rattle.kern_model.specs.declared.operation.Op.{Op}
use Rattle.kern_model.specs.declared.operation.Op.TheVariants.{Sys, Exec}
use Rattle.kern_model.specs.declared.outcome.Outcome.{Outcome}
use Rattle.kern_model.specs.Act.{act}
use Rattle.kern_model.specs.Descriptors.{act_attach, act_fork, act_exit}
use Rattle.kern_model.specs.Journal.{FitsPid, Follows, state_after, entry_of_step, next_entry}
use Rattle.kern_model.specs.Needs.{FitsIns}
use Rattle.kern_model.specs.Outcome.{success}
use Rattle.kern_model.specs.State.{State, Process, fresh_process, with_process}
use Rattle.kern_model.specs.Step.{Step, answered, or_fail}
use Rattle.kern_model.proofs.Journals.{entry, state_after-push, after_entry-entry, follows_by}
use Rattle.kern_model.proofs.Lemmas.{each_is, call_keeps, exec_keeps, exit_ends, journal_tables}

-- an operation's entry, with the state after it
pub record Nexts (journal : List Entry) (pid : Pid) (who : Who) (op : Op) (ins : Ins) (e : Entry) : Type 0 where
  pub next : State
  pub acts : act (state_after journal) pid.0 op ins ≡ Some (e.outcome, next)
  pub state : state_after (journal ++ e ∷ []) ≡ next
  pub is : e ≡ entry pid who op ins e.outcome

nexts_by : (journal : List Entry) (pid : Pid) (who : Who) (op : Op) (ins : Ins) (e : Entry) (step : Step) → act (state_after journal) pid.0 op ins ≡ step → entry_of_step pid who op ins step ≡ Some e → Nexts journal pid who op ins e
nexts_by journal pid who op ins e None acts h = absurd cc
nexts_by journal pid who op ins e (Some step) acts h =
    let same : entry pid who op ins step.0 ≡ e = cc in
    subst (λ (e : Entry). Nexts journal pid who op ins e) same (record {
      next = step.1;
      acts = acts;
      state = state_after-push journal (entry pid who op ins step.0) ∙ after_entry-entry (state_after journal) step.1 pid who op ins step.0 acts;
      is = refl;
    })

pub nexts : (journal : List Entry) (pid : Pid) (who : Who) (op : Op) (ins : Ins) (e : Entry) → next_entry journal pid who op ins ≡ Some e → Nexts journal pid who op ins e
nexts journal pid who op ins e h = nexts_by journal pid who op ins e (act (state_after journal) pid.0 op ins) refl h

-- the entry follows the journal, where its process and its ins fit
pub next_follows : (journal : List Entry) (pid : Pid) (who : Who) (op : Op) (ins : Ins) (e : Entry) → Nexts journal pid who op ins e
    → FitsPid (state_after journal) pid.0 op → FitsIns op ins → Follows (state_after journal) e
next_follows journal pid who op ins e n process fits =
    subst (λ (f : Entry). Follows (state_after journal) f) (sym n.is) (follows_by (state_after journal) n.next pid who op ins e.outcome process fits n.acts)

-- the entry is by its key
pub next_who : (journal : List Entry) (pid : Pid) (who : Who) (op : Op) (ins : Ins) (e : Entry) → Nexts journal pid who op ins e → e.who ≡ who
next_who journal pid who op ins e n = ap (λ (f : Entry). f.who) n.is

-- ---- which processes are live

-- what a new process under the lowest unused number is, or that no number is unused
abbrev news : State → Option Process → Option ℕ → Step
news s process number = or_fail number Eagain s (λ pid. answered pid (with_process s pid process))

live_put : {X : Type 0} (table : List (Option X)) (n : ℕ) (x : X) (q : ℕ) → IsSome (at table q) → IsSome (at (slice_set table n (Some x)) q)
live_put [] n x q h = h
live_put (y ∷ table) zero x zero h = refl
live_put (y ∷ table) zero x (suc q) h = h
live_put (y ∷ table) (suc n) x zero h = h
live_put (y ∷ table) (suc n) x (suc q) h = live_put table n x q h

put_live : {X : Type 0} (table : List (Option X)) (n : ℕ) (x : X) → n < length table → IsSome (at (slice_set table n (Some x)) n)
put_live {X = X} table n x lt = ap (λ (o : Option X). is_some o) (at_within table n (Some x) lt)

-- a new process, where a number is unused, has the lowest one
new_does : (s : State) (process : Option Process) (n : ℕ) (outcome : Outcome) (t : State) → lowest_unused s.processes FIRST_PROCESS ≡ Some n
    → news s process (lowest_unused s.processes FIRST_PROCESS) ≡ Some (outcome, t) → (outcome ≡ success n) × (t ≡ with_process s n process)
new_does s process n outcome t low h =
    let g : answered n (with_process s n process) ≡ Some (outcome, t) = rw low at h in
    each_is (λ o u. (o ≡ success n) × (u ≡ with_process s n process)) (answered n (with_process s n process)) outcome t (refl, refl) g

-- what an attach or a fork makes of the processes, where a number is unused
pub record Made (s : State) (outcome : Outcome) (t : State) : Type 0 where
  pub unused : at s.processes outcome.ret0 ≡ None
  pub made : IsSome (at t.processes outcome.ret0)
  pub live : (q : ℕ) → IsSome (at s.processes q) → IsSome (at t.processes q)

made_by : (s : State) (process : Option Process) (n : ℕ) (outcome : Outcome) (t : State) → IsSome process → lowest_unused s.processes FIRST_PROCESS ≡ Some n
    → news s process (lowest_unused s.processes FIRST_PROCESS) ≡ Some (outcome, t) → Made s outcome t
made_by s None n outcome t there low h = absurd cc
made_by s (Some process) n outcome t there low h =
    let does = new_does s (Some process) n outcome t low h in
    let is = lowest_unused_is s.processes FIRST_PROCESS n low in
    let value : n ≡ outcome.ret0 = sym (ap (λ (o : Outcome). o.ret0) does.0) in
    let after : t.processes ≡ slice_set s.processes n (Some process) = ap (λ (u : State). u.processes) does.1 in
    record {
      unused = subst (λ (k : ℕ). at s.processes k ≡ None) value is.1;
      made = subst (λ (k : ℕ). IsSome (at t.processes k)) value (subst (λ (l : List (Option Process)). IsSome (at l n)) (sym after) (put_live s.processes n process is.0));
      live = λ q live. subst (λ (l : List (Option Process)). IsSome (at l q)) (sym after) (live_put s.processes n process q live);
    }

pub attached : (s : State) (n : ℕ) (outcome : Outcome) (t : State) → lowest_unused s.processes FIRST_PROCESS ≡ Some n → act_attach s ≡ Some (outcome, t) → Made s outcome t
attached s n outcome t low h = made_by s (Some fresh_process) n outcome t refl low h

pub forked : (s : State) (pid n : ℕ) (outcome : Outcome) (t : State) → IsSome (at s.processes pid) → lowest_unused s.processes FIRST_PROCESS ≡ Some n
    → act_fork s pid ≡ Some (outcome, t) → Made s outcome t
forked s pid n outcome t live low h = made_by s (at s.processes pid) n outcome t live low h

-- a call leaves every process live
pub call_live : (s : State) (pid : ℕ) (call : Call) (ins : Ins) (outcome : Outcome) (t : State) (q : ℕ) → act s pid (Sys call) ins ≡ Some (outcome, t) → IsSome (at s.processes q) → IsSome (at t.processes q)
call_live s pid call ins outcome t q h live = (call_keeps s pid call ins outcome t h).1.live q ∙ live

-- an exec leaves every process live
pub exec_live : (s : State) (pid : ℕ) (ins : Ins) (outcome : Outcome) (t : State) (q : ℕ) → act s pid Exec ins ≡ Some (outcome, t) → IsSome (at s.processes q) → IsSome (at t.processes q)
exec_live s pid ins outcome t q h live = (exec_keeps s pid ins outcome t h).1.live q ∙ live

-- an exit leaves every other process live
pub exit_live : (s : State) (pid : ℕ) (outcome : Outcome) (t : State) (q : ℕ) → act_exit s pid ≡ Some (outcome, t) → q ≢ pid → IsSome (at s.processes q) → IsSome (at t.processes q)
exit_live s pid outcome t q h ne live = ap (λ (o : Option Process). is_some o) ((exit_ends s pid outcome t h).others q ne) ∙ live

-- ---- how many processes there are

-- a journal leaves 258 numbers of processes, used or not
pub process_numbers : (journal : List Entry) → length (state_after journal).processes ≡ 258
process_numbers journal = (journal_tables journal).numbers

new_below : (s : State) (process : Option Process) (number : Option ℕ) (outcome : Outcome) (t : State) → lowest_unused s.processes FIRST_PROCESS ≡ number
    → news s process number ≡ Some (outcome, t) → length s.processes ≡ 258 → outcome.ret0 < 258
new_below s process None outcome t low h len = each_is (λ o u. o.ret0 < 258) _ outcome t (omega arith) h
new_below s process (Some n) outcome t low h len = each_is (λ o u. o.ret0 < 258) _ outcome t (let lt = (lowest_unused_is s.processes FIRST_PROCESS n low).0 in omega arith) h

-- the number that an attach answers, or 0, is below 258
pub attach_below : (s : State) (outcome : Outcome) (t : State) → act_attach s ≡ Some (outcome, t) → length s.processes ≡ 258 → outcome.ret0 < 258
attach_below s outcome t h len = new_below s (Some fresh_process) (lowest_unused s.processes FIRST_PROCESS) outcome t refl h len

-- the number that a fork answers, or 0, is below 258
pub fork_below : (s : State) (pid : ℕ) (outcome : Outcome) (t : State) → act_fork s pid ≡ Some (outcome, t) → length s.processes ≡ 258 → outcome.ret0 < 258
fork_below s pid outcome t h len = new_below s (at s.processes pid) (lowest_unused s.processes FIRST_PROCESS) outcome t refl h len

-- tables that have something at the same numbers have as many items
count_same : {X : Type 0} (old new : List (Option X)) → length new ≡ length old → ((q : ℕ) → is_some (at new q) ≡ is_some (at old q)) → count_by is_some new ≡ count_by is_some old
count_same [] [] e same = refl
count_same [] (y ∷ new) e same = absurd (omega (arith, e))
count_same (x ∷ old) [] e same = absurd (omega (arith, e))
count_same (x ∷ old) (y ∷ new) e same =
    let rest = count_same old new (omega (arith, e)) (λ q. same (suc q)) in
    let one : one_if (is_some y) ≡ one_if (is_some x) = ap one_if (same 0) in
    let was = sum_by-cons (λ o. one_if (is_some o)) x old in
    let is = sum_by-cons (λ o. one_if (is_some o)) y new in
    omega (arith, rest, was, is, one)

-- a table that differs at one number from another has one item more, one fewer, or as many
pub count_changed : {X : Type 0} (old new : List (Option X)) (n : ℕ) → length new ≡ length old → ((q : ℕ) → q ≢ n → is_some (at new q) ≡ is_some (at old q))
    → count_by is_some new + one_if (is_some (at old n)) ≡ count_by is_some old + one_if (is_some (at new n))
count_changed [] [] n e same = refl
count_changed [] (y ∷ new) n e same = absurd (omega (arith, e))
count_changed (x ∷ old) [] n e same = absurd (omega (arith, e))
count_changed (x ∷ old) (y ∷ new) zero e same =
    let rest = count_same old new (omega (arith, e)) (λ q. same (suc q) (λ k. omega (arith, k))) in
    let was = sum_by-cons (λ o. one_if (is_some o)) x old in
    let is = sum_by-cons (λ o. one_if (is_some o)) y new in
    omega (arith, rest, was, is)
count_changed (x ∷ old) (y ∷ new) (suc n) e same =
    let rest = count_changed old new n (omega (arith, e)) (λ q ne. same (suc q) (λ k. ne (omega (arith, k)))) in
    let first : is_some y ≡ is_some x = same 0 (λ k. omega (arith, k)) in
    let one : one_if (is_some y) ≡ one_if (is_some x) = ap one_if first in
    let was = sum_by-cons (λ o. one_if (is_some o)) x old in
    let is = sum_by-cons (λ o. one_if (is_some o)) y new in
    omega (arith, rest, was, is, one)
