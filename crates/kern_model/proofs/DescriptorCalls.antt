-- What the calls on descriptors do.
use Rattle.std.specs.Prelude.{nat_le}
use Rattle.std.proofs.Common.{◌≡◌, ℕ, false, ◌==◌, Some, refl, sym, ◌∙◌}
use Rattle.std.proofs.lemmas.Bool.{eq-eqb, true≢false}
use Rattle.sp_base.specs.Table.{at, lowest_unused}
use Rattle.sp_base.specs.declared.limits.TheConstants.{DESCRIPTORS}
use Rattle.sp_base.specs.declared.errno.Errno.TheVariants.{Ebadf, Emfile, Einval}
use Rattle.sp_base.proofs.TableLaws.{lowest_unused_is}
use Rattle.kern_model.specs.declared.node.Row.{Row}
use Rattle.kern_model.specs.State.{State, rows_of, with_row, close_row}
use Rattle.kern_model.specs.Step.{answered}
use Rattle.kern_model.specs.Descriptors.{has_bit, duplicate, act_close, act_dup, act_dup2, act_fcntl}
use Rattle.kern_model.proofs.RowLaws.{closed_row, other_row}
use Rattle.kern_model.proofs.Holds.{holds_failed, holds_if, holds_fail_if, holds_or_fail}
use Rattle.kern_model.proofs.Changes.{Stays, Then, Closes, Shares, Marks, Refiles}
use Rattle.kern_model.proofs.Does.{DoesStep, fails, does_answered, does_open}

module _ (waits : Type 0) (pid : ℕ) (s : State) where
  pub does_close : (fd : ℕ) → DoesStep waits pid s (act_close s pid fd)
  does_close fd = does_open pid s fd _ (λ row e. does_answered pid s 0 _ (Closes fd))

  does_duplicate : (fd : ℕ) (row : Row) (least : ℕ) → at (rows_of s pid) fd ≡ Some row → DoesStep waits pid s (duplicate s pid row least)
  does_duplicate fd row least e = holds_or_fail s (lowest_unused (rows_of s pid) least) Emfile _ (fails pid s) (λ new low.
      does_answered pid s new _ (Shares new (record row { close_on_exec = false }) (lowest_unused_is (rows_of s pid) least new low).1 (λ held. held.rows pid fd row e)))

  pub does_dup : (fd : ℕ) → DoesStep waits pid s (act_dup s pid fd)
  does_dup fd = does_open pid s fd _ (λ row e. does_duplicate fd row 0 e)

  -- the open file of a descriptor goes to another one, which is closed first
  takes : (fd new : ℕ) (row : Row) → at (rows_of s pid) fd ≡ Some row → (fd == new) ≡ false → DoesStep waits pid s (answered new (with_row (close_row s pid new) pid new (Some (record row { close_on_exec = false }))))
  takes fd new row e other =
      let closed = close_row s pid new in
      let still : at (rows_of closed pid) fd ≡ Some row = other_row s pid new fd (λ is. true≢false (sym (eq-eqb fd new is) ∙ other)) ∙ e in
      does_answered pid s new _ (Then (Closes new) (Shares new (record row { close_on_exec = false }) (closed_row s pid new) (λ held. held.rows pid fd row still)))

  pub does_dup2 : (fd new : ℕ) → DoesStep waits pid s (act_dup2 s pid fd new)
  does_dup2 fd new = does_open pid s fd _ (λ row e.
      holds_if (nat_le DESCRIPTORS new) _ _ (λ _. holds_failed s Ebadf (fails pid s)) (λ _.
      holds_if (fd == new) _ _ (λ _. does_answered pid s new s Stays) (λ other. takes fd new row e other)))

  pub does_fcntl : (fd command argument : ℕ) → DoesStep waits pid s (act_fcntl s pid fd command argument)
  does_fcntl fd command argument = does_open pid s fd _ (λ row e.
      holds_if (command == 0) _ _ (λ _. holds_fail_if s (nat_le DESCRIPTORS argument) Einval _ (fails pid s) (λ _. does_duplicate fd row argument e)) (λ _.
      holds_if (command == 1) _ _ (λ _. does_answered pid s _ s Stays) (λ _.
      holds_if (command == 2) _ _ (λ _. does_answered pid s 0 _ (Marks fd row (has_bit argument 1) e)) (λ _.
      holds_if (command == 3) _ _ (λ _. holds_or_fail s (at s.files row.file) Ebadf _ (fails pid s) (λ file f. does_answered pid s _ s Stays)) (λ _.
      holds_if (command == 4) _ _ (λ _. holds_or_fail s (at s.files row.file) Ebadf _ (fails pid s) (λ file f.
      does_answered pid s 0 _ (Refiles row.file file (record file { append = has_bit argument 8; nonblock = has_bit argument 4 }) f refl))) (λ _.
      holds_failed s Einval (fails pid s)))))))
