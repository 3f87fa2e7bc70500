-- What the kernel holds after an operation, and that it performed the definition's.
use Rattle.std.proofs.Common.{◌≡◌, ℕ, List, [], ◌∷◌, ◌++◌, Some, None, refl, sym, ap, subst, ◌∙◌}
use Rattle.sp_base.specs.Kept.{Room}
use Rattle.sp_base.specs.declared.names.Pid.{Pid}
use Rattle.sp_base.specs.declared.names.Place.{Place}
use Rattle.kern_model.specs.declared.journal.Entry.{Entry}
use Rattle.kern_model.specs.declared.journal.Who.{Who}
use Rattle.kern_model.specs.declared.operation.Ins.{Ins}
use Rattle.kern_model.specs.declared.operation.Op.{Op}
use Rattle.kern_model.specs.State.{State}
use Rattle.kern_model.specs.Act.{act}
use Rattle.kern_model.specs.Step.{Step}
use Rattle.kern_model.specs.Journal.{FitsPid, IsLegal, state_after, entry_of_step}
use Rattle.kern_model.specs.Needs.{FitsIns}
use Rattle.kern_calls.specs.declared.acted.Tried.{Tried}
use Rattle.kern_calls.specs.declared.acted.Tried.TheVariants.{Done, NotReady, NoMemory}
use Rattle.kern_calls.specs.Kernel.{Appends, HandsBack, Performs, process_of, spare_after}
use Rattle.kern_model.proofs.Journals.{state_after-push, legal_push, entry, after_entry-entry, follows_by}

-- the state that the parts hold is the one that the journal, which is legal, leaves
abbrev pub IsKernel : Room Entry → State → Type 0
IsKernel journal s = IsLegal journal.items × (state_after journal.items ≡ s)

-- an operation that is appended leaves a kernel
pub appended : (journal journal' : Room Entry) (s t : State) (pid : Pid) (who : Who) (op : Op) (ins : Ins) (place room : ℕ)
    → IsKernel journal s → FitsPid s pid.0 op → FitsIns op ins → Appends s journal pid who op ins place t journal' room → IsKernel journal' t
appended journal journal' s t pid who op ins place room kernel process given a =
    let fits : FitsPid (state_after journal.items) pid.0 op = subst (λ (u : State). FitsPid u pid.0 op) (sym kernel.1) process in
    let does : act (state_after journal.items) pid.0 op ins ≡ Some (a.outcome, t) = subst (λ (u : State). act u pid.0 op ins ≡ Some (a.outcome, t)) (sym kernel.1) a.acts in
    let follows = follows_by (state_after journal.items) t pid who op ins a.outcome fits given does in
    subst (λ (items : List Entry). IsLegal items × (state_after items ≡ t)) (sym a.items) (
      legal_push journal.items (entry pid who op ins a.outcome) kernel.0 follows,
      state_after-push journal.items (entry pid who op ins a.outcome) ∙ after_entry-entry (state_after journal.items) t pid who op ins a.outcome does,
    )

-- an operation that is appended is the one that the definition performs
pub performs : (journal journal' : Room Entry) (s t : State) (pid : Pid) (who : Who) (op : Op) (ins : Ins) (place room : ℕ)
    → IsKernel journal s → room ≡ spare_after op journal.spare → Appends s journal (process_of op pid) who op ins place t journal' room → Performs journal pid who op ins place journal'
performs journal journal' s t pid who op ins place room kernel kept a =
    let does : act (state_after journal.items) (process_of op pid).0 op ins ≡ Some (a.outcome, t) = subst (λ (u : State). act u (process_of op pid).0 op ins ≡ Some (a.outcome, t)) (sym kernel.1) a.acts in record {
      entry = entry (process_of op pid) who op ins a.outcome;
      is = ap (entry_of_step (process_of op pid) who op ins) does;
      items = a.items;
      last = a.last;
      spare = a.spare ∙ kept;
    }

-- an operation that was tried leaves a kernel
pub tried : (journal journal' : Room Entry) (s t : State) (pid : Pid) (who : Who) (op : Op) (ins : Ins) (r : Tried)
    → IsKernel journal s → FitsPid s pid.0 op → FitsIns op ins
    → ((place : Place) → r ≡ Done place → Appends s journal pid who op ins place.0 t journal' journal.spare)
    → ((o : Op) (i : Ins) → r ≡ NotReady o i → (act s pid.0 op ins ≡ None) × (t ≡ s) × HandsBack journal op ins o i journal')
    → ((o : Op) (i : Ins) → r ≡ NoMemory o i → (t ≡ s) × HandsBack journal op ins o i journal')
    → IsKernel journal' t
tried journal journal' s t pid who op ins (Done place) kernel process given done waits refused =
    appended journal journal' s t pid who op ins place.0 journal.spare kernel process given (done place refl)
tried journal journal' s t pid who op ins (NotReady o i) kernel process given done waits refused =
    let w = waits o i refl in rw (w.1, w.2.stays) kernel
tried journal journal' s t pid who op ins (NoMemory o i) kernel process given done waits refused =
    let w = refused o i refl in rw (w.0, w.1.stays) kernel
