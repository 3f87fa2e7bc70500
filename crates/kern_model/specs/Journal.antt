-- Legal journals.
use Rattle.std.specs.Prelude.{◌≡◌, ℕ, ◌+◌, List, [], ◌∷◌, take, slice_get, Option, None, Some, IsSome}
use Rattle.std.specs.List.{AllByRecursion}
use Rattle.sp_base.specs.declared.names.Pid.{Pid}
use Rattle.kern_model.specs.declared.journal.Entry.{Entry}
use Rattle.kern_model.specs.declared.journal.Who.{Who}
use Rattle.kern_model.specs.declared.operation.Op.{Op}
use Rattle.kern_model.specs.declared.operation.Op.TheVariants.{Sys, Attach, Fork, Exec, Exit}
use Rattle.kern_model.specs.declared.operation.Ins.{Ins}
use Rattle.sp_base.specs.Table.{at}
use Rattle.kern_model.specs.State.{State, opening}
use Rattle.kern_model.specs.Step.{Step}
use Rattle.kern_model.specs.Needs.{FitsIns}
use Rattle.kern_model.specs.Act.{act}

-- who may ask: anyone for an attach, a live process for any other operation
abbrev pub CanAsk : State → ℕ → Op → Type 0
CanAsk s pid Attach = Unit {0}
CanAsk s pid Fork = IsSome (at s.processes pid)
CanAsk s pid Exec = IsSome (at s.processes pid)
CanAsk s pid Exit = IsSome (at s.processes pid)
CanAsk s pid (Sys call) = IsSome (at s.processes pid)

-- the process of an entry: 0 for an attach, a live one for any other operation
abbrev pub FitsPid : State → ℕ → Op → Type 0
FitsPid s pid Attach = pid ≡ 0
FitsPid s pid Fork = IsSome (at s.processes pid)
FitsPid s pid Exec = IsSome (at s.processes pid)
FitsPid s pid Exit = IsSome (at s.processes pid)
FitsPid s pid (Sys call) = IsSome (at s.processes pid)

-- the state after a step, the same where there is none
abbrev pub state_of_step : State → Step → State
state_of_step s None = s
state_of_step s (Some step) = step.1

-- the state after an entry
abbrev pub after_entry : State → Entry → State
after_entry s e = state_of_step s (act s e.pid.0 e.op e.ins)

-- the state after these entries, from a state on
abbrev pub state_from : State → List Entry → State
state_from s [] = s
state_from s (e ∷ entries) = state_from (after_entry s e) entries

-- the state that a journal leaves
abbrev pub state_after : List Entry → State
state_after journal = state_from opening journal

-- the state before the entry of a place
abbrev pub state_before : List Entry → ℕ → State
state_before journal place = state_after (take place journal)

-- what an operation does at a place of a journal
abbrev pub step_at : List Entry → ℕ → ℕ → Op → Ins → Step
step_at journal place pid op ins = act (state_before journal place) pid op ins

-- the entry of a step, none where there is none
abbrev pub entry_of_step : Pid → Who → Op → Ins → Step → Option Entry
entry_of_step pid who op ins None = None
entry_of_step pid who op ins (Some step) = Some (record { pid = pid; who = who; op = op; ins = ins; outcome = step.0 })

-- the entry that an operation gets at the end of a journal, none where it waits
abbrev pub next_entry : List Entry → Pid → Who → Op → Ins → Option Entry
next_entry journal pid who op ins = entry_of_step pid who op ins (act (state_after journal) pid.0 op ins)

-- in a state, the entry has a process and ins that fit, and the outcome that the kernel gives there
pub record Follows (s : State) (e : Entry) : Type 0 where
  pub process : FitsPid s e.pid.0 e.op
  pub ins : FitsIns e.op e.ins
  pub acts : act s e.pid.0 e.op e.ins ≡ Some (e.outcome, after_entry s e)

-- from a state on, each entry follows the ones before it
abbrev pub IsLegalFrom : State → List Entry → Type 0
IsLegalFrom s [] = Unit {0}
IsLegalFrom s (e ∷ entries) = Follows s e × IsLegalFrom (after_entry s e) entries

-- a journal is legal: from the opening state on, each entry follows the ones before it
abbrev pub IsLegal : List Entry → Type 0
IsLegal journal = IsLegalFrom opening journal

-- at its place, an entry follows the ones before it, and leaves the state before the next place
pub record FollowsAt (journal : List Entry) (place : ℕ) (e : Entry) : Type 0 where
  pub follows : Follows (state_before journal place) e
  pub acts : step_at journal place e.pid.0 e.op e.ins ≡ Some (e.outcome, state_before journal (place + 1))

-- each entry of a legal journal does so
abbrev pub LegalJournalsReplay : Type 0
LegalJournalsReplay = (journal : List Entry) (place : ℕ) (e : Entry)
    → IsLegal journal → slice_get journal place ≡ Some e → FollowsAt journal place e

-- no entry of the journal was made for this one
abbrev pub IsNew : Who → List Entry → Type 0
IsNew who journal = AllByRecursion (λ e. e.who ≡ who → ⊥) journal

-- no two entries were made for the same
abbrev pub HasOwnKeys : List Entry → Type 0
HasOwnKeys [] = Unit {0}
HasOwnKeys (e ∷ journal) = IsNew e.who journal × HasOwnKeys journal
