-- A fork and an exec in the kernel.
use Rattle.std.proofs.Common.{◌≡◌, inl, inr, ℕ, ◌+◌, ◌≤◌, Option, Some, None, IsSome, refl, sym, subst}
use Rattle.std.specs.Prelude.{count_by, is_some}
use Rattle.sp_base.specs.Kept.{Room}
use Rattle.sp_base.specs.Table.{at, lowest_unused}
use Rattle.sp_base.specs.declared.errno.Errno.TheVariants.{Eagain}
use Rattle.sp_base.specs.declared.limits.TheConstants.{FIRST_PROCESS}
use Rattle.sp_base.specs.declared.names.Pid.{Pid}
use Rattle.kern_model.specs.Act.{act}
use Rattle.kern_model.specs.Descriptors.{act_fork}
use Rattle.kern_model.specs.Journal.{entry_of_step, next_entry, state_after}
use Rattle.kern_model.specs.State.{Process, State, with_process}
use Rattle.kern_model.specs.Step.{Step, answered, or_fail}
use Rattle.kern_model.specs.declared.journal.Entry.{Entry}
use Rattle.kern_model.specs.declared.journal.Who.{Who}
use Rattle.kern_model.specs.declared.operation.Op.{Op}
use Rattle.kern_model.specs.declared.operation.Op.TheVariants.{Fork, Exec}
use Rattle.kern_calls.specs.Kernel.{Performs, process_of}
use Rattle.hub_model.specs.Journal.{nothing_read}
use Rattle.sp_hub.specs.Handing.{IsHanding}
use Rattle.sp_hub.specs.Room.{HasExitRoom}
use Rattle.sp_hub.specs.Work.{Appends}
use Rattle.sp_hub.proofs.Exits.{exec_room, fork_room}

-- what is so of a fork and of an exec is so of each operation that hands over
each : (P : Op → Type 0) (op : Op) → IsHanding op → P Fork → P Exec → P op
each P op is fork exec = elim is [ inl e ↦ subst P (sym e) fork | inr e ↦ subst P (sym e) exec ]

-- ---- neither waits

fork_by : (s : State) (process : Option Process) (number : Option ℕ) → IsSome (or_fail number Eagain s (λ child. answered child (with_process s child process)))
fork_by s process None = refl
fork_by s process (Some n) = refl

fork_acts : (s : State) (pid : ℕ) → IsSome (act_fork s pid)
fork_acts s pid = fork_by s (at s.processes pid) (lowest_unused s.processes FIRST_PROCESS)

acts : (s : State) (pid : ℕ) (op : Op) → IsHanding op → IsSome (act s pid op nothing_read)
acts s pid op is = each (λ (o : Op). IsSome (act s pid o nothing_read)) op is (fork_acts s pid) refl

enters_by : (pid : Pid) (who : Who) (op : Op) (step : Step) → IsSome step → IsSome (entry_of_step pid who op nothing_read step)
enters_by pid who op None there = absurd cc
enters_by pid who op (Some step) there = refl

-- each has its entry
pub enters : (journal : _) (pid : Pid) (who : Who) (op : Op) → IsHanding op → IsSome (next_entry journal pid who op nothing_read)
enters journal pid who op is = enters_by pid who op (act (state_after journal) pid.0 op nothing_read) (acts (state_after journal) pid.0 op is)

-- ---- what was performed

same_process : (op : Op) (pid : Pid) → IsHanding op → process_of op pid ≡ pid
same_process op pid is = each (λ (o : Op). process_of o pid ≡ pid) op is refl refl

pub appends : (old new : Room Entry) (pid : Pid) (who : Who) (op : Op) (place : ℕ) → IsHanding op → Performs old pid who op nothing_read place new
    → Appends old.items (next_entry old.items pid who op nothing_read) place new.items
appends old new pid who op place is does = record {
  entry = does.entry;
  is = subst (λ (p : Pid). next_entry old.items p who op nothing_read ≡ Some does.entry) (same_process op pid is) does.is;
  items = does.items;
  last = does.last;
}

pub room : (old new : Room Entry) (pid : Pid) (who : Who) (op : Op) (place : ℕ) → IsHanding op → count_by is_some (state_after old.items).processes + 1 ≤ old.spare
    → Performs old pid who op nothing_read place new → HasExitRoom new
room old new pid who op place is enough does =
    each (λ (o : Op). Performs old pid who o nothing_read place new → HasExitRoom new) op is
    (fork_room old new pid who place enough) (exec_room old new pid who place enough) does

-- ---- the child of a fork
