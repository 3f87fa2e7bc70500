-- What the kernel does with an operation and with the room that is kept for its journal.
use Rattle.std.specs.Prelude.{◌≡◌, ℕ, ◌-◌, ◌==◌, Bool, true, false, not, List, [], ◌∷◌, ◌++◌, length, Option, Some, if◌then◌else◌}
use Rattle.sp_base.specs.Kept.{Room}
use Rattle.sp_base.specs.declared.call.Call.{Call}
use Rattle.sp_base.specs.declared.call.Call.TheVariants as call
use Rattle.sp_base.specs.declared.names.Pid.{Pid}
use Rattle.kern_model.specs.declared.journal.Entry.{Entry}
use Rattle.kern_model.specs.declared.journal.Who.{Who}
use Rattle.kern_model.specs.declared.operation.Ins.{Ins}
use Rattle.kern_model.specs.declared.operation.Op.{Op}
use Rattle.kern_model.specs.declared.operation.Op.TheVariants.{Sys, Attach, Fork, Exec, Exit}
use Rattle.kern_model.specs.declared.outcome.Outcome.{Outcome}
use Rattle.kern_model.specs.State.{State}
use Rattle.kern_model.specs.Act.{act, has_step}
use Rattle.kern_model.specs.Journal.{next_entry}

-- a system call that needs no memory but for its entry: close, lseek, and fcntl other than F_DUPFD
abbrev pub is_steady_call : Call → Bool
is_steady_call (call.Close fd) = true
is_steady_call (call.Lseek fd offset whence) = true
is_steady_call (call.Fcntl fd command argument) = not (command == 0)
is_steady_call _ = false

-- an operation that needs no memory but for its entry
abbrev pub is_steady : Op → Bool
is_steady (Sys call) = is_steady_call call
is_steady Attach = false
is_steady Fork = false
is_steady Exec = true
is_steady Exit = true

-- an operation never waits: a call that is built, and any other operation
abbrev pub is_built : Op → Bool
is_built (Sys call) = has_step call
is_built _ = true

-- the process that an operation is performed for: none by an attach
abbrev pub process_of : Op → Pid → Pid
process_of (Sys call) pid = pid
process_of Attach pid = record { 0 = 0 }
process_of Fork pid = pid
process_of Exec pid = pid
process_of Exit pid = pid

-- the room that an operation leaves: one that needs no other memory uses up room that was kept, where there was any
abbrev pub spare_after : Op → ℕ → ℕ
spare_after op spare = if is_steady op then spare - 1 else spare

-- an operation was performed: its entry, which is the definition's, stands at the end of the journal, at this place
pub record Performs (old : Room Entry) (pid : Pid) (who : Who) (op : Op) (ins : Ins) (place : ℕ) (new : Room Entry) : Type 0 where
  pub entry : Entry
  pub is : next_entry old.items (process_of op pid) who op ins ≡ Some entry
  pub items : new.items ≡ old.items ++ entry ∷ []
  pub last : place ≡ length old.items
  pub spare : new.spare ≡ spare_after op old.spare

-- an operation wasn't performed: it and what was gathered for it are handed back, and nothing changed
pub record HandsBack (old : Room Entry) (op : Op) (ins : Ins) (op' : Op) (ins' : Ins) (new : Room Entry) : Type 0 where
  pub same_op : op' ≡ op
  pub same_ins : ins' ≡ ins
  pub stays : new ≡ old

-- the parts performed an operation, and its entry stands at the end of the journal, at this place, which keeps so much room
pub record Appends (old : State) (journal : Room Entry) (pid : Pid) (who : Who) (op : Op) (ins : Ins) (place : ℕ) (new : State) (journal' : Room Entry) (room : ℕ) : Type 0 where
  pub outcome : Outcome
  pub acts : act old pid.0 op ins ≡ Some (outcome, new)
  pub items : journal'.items ≡ journal.items ++ record { pid = pid; who = who; op = op; ins = ins; outcome = outcome } ∷ []
  pub last : place ≡ length journal.items
  pub spare : journal'.spare ≡ room
