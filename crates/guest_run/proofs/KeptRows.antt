-- What an exec's entry leaves of its process.
use Rattle.std.proofs.Common.{◌≡◌, ℕ, ◌≤◌, true, List, [], ◌∷◌, ◌++◌, length, Option, None, Some, refl, sym, ap, ◌∙◌, arith}
use Rattle.std.specs.Prelude.{IsSome}
use Rattle.sp_base.specs.Table.{at}
use Rattle.sp_base.specs.declared.names.Pid.{Pid}
use Rattle.kern_model.specs.Journal.{after_entry, next_entry, state_after}
use Rattle.kern_model.specs.Laws.{kept_row}
use Rattle.kern_model.specs.Outcome.{success}
use Rattle.kern_model.specs.State.{Process, State, close_rows, directory_of, rows_in, rows_of}
use Rattle.kern_model.specs.declared.journal.Entry.{Entry}
use Rattle.kern_model.specs.declared.journal.Who.{Who}
use Rattle.kern_model.specs.declared.operation.Op.TheVariants.{Exec}
use Rattle.kern_model.proofs.ExecLaws.{rows_left}
use Rattle.kern_model.proofs.JournalLaws.{journal_tables}
use Rattle.kern_model.proofs.Journals.{state_after-push}
use Rattle.kern_model.proofs.OperationLaws.{exec_stays}
use Rattle.hub_model.specs.Journal.{nothing_read}

-- the state after an entry, if there is one
abbrev after_some : State → Option Entry → State
after_some s None = s
after_some s (Some e) = after_entry s e

-- the entry of an exec leaves the state without the rows that are marked
closes_marked : (before : List Entry) (pid : Pid) (who : Who) (entry : Entry) → next_entry before pid who Exec nothing_read ≡ Some entry
    → state_after (before ++ entry ∷ []) ≡ close_rows true (state_after before) pid.0 128
closes_marked before pid who entry next = state_after-push before entry ∙ ap (λ (e : Option Entry). after_some (state_after before) e) (sym next)

few_rows : (process : Option Process) → (IsSome process → length (rows_in process) ≡ 128) → length (rows_in process) ≤ 128
few_rows None all = omega arith
few_rows (Some process) all = let is = all refl in omega (arith, is)

-- of the rows, exactly those are left whose flag is clear
pub keeps_clear : (before : List Entry) (pid : Pid) (who : Who) (entry : Entry) (fd : ℕ) → next_entry before pid who Exec nothing_read ≡ Some entry
    → at (rows_of (state_after (before ++ entry ∷ [])) pid.0) fd ≡ kept_row (at (rows_of (state_after before) pid.0) fd)
keeps_clear before pid who entry fd next =
    let s = state_after before in
    ap (λ (t : State). at (rows_of t pid.0) fd) (closes_marked before pid who entry next)
    ∙ rows_left true s pid.0 fd (few_rows (at s.processes pid.0) ((journal_tables before).descriptors pid.0))

-- the working directory is left
pub keeps_directory : (before : List Entry) (pid : Pid) (who : Who) (entry : Entry) → next_entry before pid who Exec nothing_read ≡ Some entry
    → directory_of (state_after (before ++ entry ∷ [])) pid.0 ≡ directory_of (state_after before) pid.0
keeps_directory before pid who entry next =
    let s = state_after before in
    ap (λ (t : State). directory_of t pid.0) (closes_marked before pid who entry next)
    ∙ exec_stays s pid.0 (success 0) (close_rows true s pid.0 128) refl
