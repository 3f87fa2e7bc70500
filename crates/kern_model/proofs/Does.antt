-- What every system call does: an error gives nothing, and the state changes in the ways of a call.
use Rattle.std.proofs.Common.{◌≡◌, ◌≢◌, ℕ, List, [], Some, refl}
use Rattle.sp_base.specs.Table.{at}
use Rattle.sp_base.specs.declared.errno.Errno.{Errno}
use Rattle.sp_base.specs.declared.errno.Errno.TheVariants.{Ebadf}
use Rattle.kern_model.specs.declared.node.OpenFile.{OpenFile}
use Rattle.kern_model.specs.declared.node.Row.{Row}
use Rattle.kern_model.specs.declared.outcome.OutPiece.{OutPiece}
use Rattle.kern_model.specs.declared.outcome.Outcome.{Outcome}
use Rattle.kern_model.specs.Outcome.{success, failure}
use Rattle.kern_model.specs.State.{State, rows_of}
use Rattle.kern_model.specs.Step.{Step, answered, wrote}
use Rattle.kern_model.specs.Descriptors.{with_open, with_open_file}
use Rattle.kern_model.proofs.Holds.{Holds, HoldsOfErrors, holds_answered, holds_wrote, holds_or_fail}
use Rattle.kern_model.proofs.Changes.{Changes, Stays}

-- where the outcome is an error, it has no values and no pieces, and the state is the same
pub record FailsClean (s : State) (outcome : Outcome) (t : State) : Type 0 where
  pub first : outcome.err ≢ 0 → outcome.ret0 ≡ 0
  pub second : outcome.err ≢ 0 → outcome.ret1 ≡ 0
  pub pieces : outcome.err ≢ 0 → outcome.outs ≡ []
  pub state : outcome.err ≢ 0 → t ≡ s

pub clean_failure : (s : State) (error : Errno) → FailsClean s (failure error) s
clean_failure s error = record { first = λ _. refl; second = λ _. refl; pieces = λ _. refl; state = λ _. refl }

pub clean_success : (s : State) (value : ℕ) (outs : List OutPiece) (t : State) → FailsClean s (record (success value) { outs = outs }) t
clean_success s value outs t = record { first = λ ne. absurd (ne refl); second = λ ne. absurd (ne refl); pieces = λ ne. absurd (ne refl); state = λ ne. absurd (ne refl) }

-- what a call of a process does
pub record Does (pid : ℕ) (s : State) (outcome : Outcome) (t : State) : Type 0 where
  pub clean : FailsClean s outcome t
  pub change : Changes pid s t

-- every error does so
pub fails : (pid : ℕ) (s : State) → HoldsOfErrors (Does pid s) s
fails pid s error = record { clean = clean_failure s error; change = Stays }

-- a step is what a call of a process does, or waits
abbrev pub DoesStep : Type 0 → ℕ → State → Step → Type 0
DoesStep waits pid s step = Holds waits (Does pid s) step

module _ {waits : Type 0} (pid : ℕ) (s : State) where
  pub does_answered : (value : ℕ) (t : State) → Changes pid s t → DoesStep waits pid s (answered value t)
  does_answered value t change = holds_answered value t (record { clean = clean_success s value [] t; change = change })

  pub does_wrote : (value addr : ℕ) (bytes : List ℕ) (t : State) → Changes pid s t → DoesStep waits pid s (wrote value addr bytes t)
  does_wrote value addr bytes t change = holds_wrote value addr bytes t (record { clean = clean_success s value _ t; change = change })

  -- what is done with a row is done with one that is there
  pub does_open : (fd : ℕ) (act_with : Row → Step) → ((row : Row) → at (rows_of s pid) fd ≡ Some row → DoesStep waits pid s (act_with row)) → DoesStep waits pid s (with_open s pid fd act_with)
  does_open fd act_with h = holds_or_fail s (at (rows_of s pid) fd) Ebadf act_with (fails pid s) h

  -- what is done with an open file is done with one that is there
  pub does_file : (fd : ℕ) (act_with : ℕ → OpenFile → Step) → ((number : ℕ) (file : OpenFile) → at s.files number ≡ Some file → DoesStep waits pid s (act_with number file))
      → DoesStep waits pid s (with_open_file s pid fd act_with)
  does_file fd act_with h = does_open fd _ (λ row e. holds_or_fail s (at s.files row.file) Ebadf (act_with row.file) (fails pid s) (λ file f. h row.file file f))
