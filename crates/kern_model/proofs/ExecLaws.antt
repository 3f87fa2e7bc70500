-- Which rows an exec and an exit leave.
use Rattle.std.specs.Prelude.{if◌then◌else◌, length, not, ◌||◌}
use Rattle.std.proofs.Common.{◌≡◌, ◌≢◌, ℕ, zero, suc, ◌<◌, ◌≤◌, ◌⊎◌, inl, inr, Bool, true, false, List, [], ◌∷◌, Option, Some, None, refl, sym, ap, subst, ◌∙◌, arith}
use Rattle.std.proofs.lemmas.Bool.{cases_order}
use Rattle.kern_model.specs.declared.node.Row.{Row}
use Rattle.sp_base.specs.Table.{at}
use Rattle.kern_model.specs.State.{State, rows_of, close_row, close_rows, closes}
use Rattle.kern_model.specs.Laws.{kept_row}
use Rattle.kern_model.proofs.RowLaws.{closed_row, other_row}

other_if : (b : Bool) (s : State) (pid fd k : ℕ) → k ≢ fd → at (rows_of (if b then close_row s pid fd else s) pid) k ≡ at (rows_of s pid) k
other_if true s pid fd k ne = other_row s pid fd k ne
other_if false s pid fd k ne = refl

beyond : (rows : List (Option Row)) (k : ℕ) → length rows ≤ k → at rows k ≡ None
beyond [] k le = refl
beyond (row ∷ rows) zero le = absurd (omega (arith, le))
beyond (row ∷ rows) (suc k) le = beyond rows k (omega (arith, le))

-- what an exec, which closes the marked rows alone, or an exit leaves of a row
abbrev pub left_row : Bool → Option Row → Option Row
left_row only_marked row = if not only_marked || closes row then None else row

module _ (only_marked : Bool) (s : State) (pid : ℕ) where
  abbrev before : ℕ → State
  before n = close_rows only_marked s pid n

  -- a row is left as it is to be
  this_if : (state : State) (fd : ℕ) → at (rows_of (if not only_marked || closes (at (rows_of state pid) fd) then close_row state pid fd else state) pid) fd ≡ left_row only_marked (at (rows_of state pid) fd)
  this_if state fd =
      elim (not only_marked || closes (at (rows_of state pid) fd)) as (λ b. at (rows_of (if b then close_row state pid fd else state) pid) fd ≡ (if b then None else at (rows_of state pid) fd)) [
        | true ↦ closed_row state pid fd
        | false ↦ refl
      ]

  -- the rows from a descriptor on stay while those below it are closed
  above : (n k : ℕ) → n ≤ k → at (rows_of (before n) pid) k ≡ at (rows_of s pid) k
  above zero k le = refl
  above (suc n) k le =
      let ne : k ≢ n = λ e. omega (arith, e) in
      other_if (not only_marked || closes (at (rows_of (before n) pid) n)) (before n) pid n k ne ∙ above n k (omega (arith, le))

  next_below : (n k : ℕ) → k < suc n → (k < n → at (rows_of (before n) pid) k ≡ left_row only_marked (at (rows_of s pid) k)) → (k ≡ n) ⊎ ((k < n) ⊎ (n < k)) → at (rows_of (before (suc n)) pid) k ≡ left_row only_marked (at (rows_of s pid) k)
  next_below n k lt was (inl e) =
      subst (λ (k : ℕ). at (rows_of (before (suc n)) pid) k ≡ left_row only_marked (at (rows_of s pid) k)) (sym e)
      (this_if (before n) n ∙ ap (λ (row : Option Row). left_row only_marked row) (above n n (omega arith)))
  next_below n k lt was (inr (inl less)) =
      let ne : k ≢ n = λ e. omega (arith, e, less) in
      other_if (not only_marked || closes (at (rows_of (before n) pid) n)) (before n) pid n k ne ∙ was less
  next_below n k lt was (inr (inr more)) = absurd (omega (arith, lt, more))

  -- each row below a descriptor is left as it is to be
  below : (n k : ℕ) → k < n → at (rows_of (before n) pid) k ≡ left_row only_marked (at (rows_of s pid) k)
  below zero k lt = absurd (omega (arith, lt))
  below (suc n) k lt = next_below n k lt (λ less. below n k less) (cases_order k n)

  none_left : (row : Option Row) → row ≡ None → row ≡ left_row only_marked row
  none_left None e = left_none (not only_marked || false) where
    left_none : (b : Bool) → ◌≡◌ {A = Option Row} None (if b then None else None)
    left_none true = refl
    left_none false = refl
  none_left (Some row) e = absurd cc

  -- of at most 128 rows, each is left as it is to be
  pub rows_left : (k : ℕ) → length (rows_of s pid) ≤ 128 → at (rows_of (before 128) pid) k ≡ left_row only_marked (at (rows_of s pid) k)
  rows_left k len = by_order (cases_order k 128) where
    high : 128 ≤ k → at (rows_of (before 128) pid) k ≡ left_row only_marked (at (rows_of s pid) k)
    high le = above 128 k le ∙ none_left (at (rows_of s pid) k) (beyond (rows_of s pid) k (omega (arith, le, len)))

    by_order : (k ≡ 128) ⊎ ((k < 128) ⊎ (128 < k)) → at (rows_of (before 128) pid) k ≡ left_row only_marked (at (rows_of s pid) k)
    by_order (inl e) = high (omega (arith, e))
    by_order (inr (inl less)) = below 128 k less
    by_order (inr (inr more)) = high (omega (arith, more))

-- an exec leaves exactly the rows whose flag is clear
pub exec_rows : (s : State) (pid k : ℕ) → length (rows_of s pid) ≡ 128 → at (rows_of (close_rows true s pid 128) pid) k ≡ kept_row (at (rows_of s pid) k)
exec_rows s pid k len = rows_left true s pid k (omega (arith, len))

-- an exit leaves no row
pub exit_rows : (s : State) (pid k : ℕ) → length (rows_of s pid) ≤ 128 → at (rows_of (close_rows false s pid 128) pid) k ≡ None
exit_rows s pid k len = rows_left false s pid k len
