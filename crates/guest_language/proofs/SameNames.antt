-- Lines with single spaces, and blank ones behind them, name the same guests.
use Rattle.std.proofs.Common.{◌≡◌, ℕ, zero, suc, ◌+◌, ◌==◌, Bool, true, false, cond, List, [], ◌∷◌, ◌++◌, map, Option, None, Result, Ok, Err, refl, ap, sym, ◌∙◌, subst, arith, replicate, slice_index, take}
use Rattle.std.specs.Prelude.{codes}
use Rattle.std.specs.Str.{bytes_eq}
use Rattle.std.proofs.lemmas.Bool.{eqb-true}
use Rattle.std.proofs.lemmas.List.Folds.{sum_by-replicate}
use Rattle.std.proofs.lemmas.List.Sums.{sum_by-append, sum_by-cons}
use Rattle.guest_language.specs.declared.fault.ScriptKind.{ScriptKind}
use Rattle.guest_language.specs.declared.script.Section.{Section}
use Rattle.guest_language.specs.Length.{guest_line_count, is_guest_line}
use Rattle.guest_language.specs.Names.{guest_name, names_of, with_name}
use Rattle.guest_language.specs.Sections.{next, step, steps}
use Rattle.script_words.proofs.LineLaws.{joined_again}
use Rattle.script_words.specs.Words.{first_word, joined, word_len, words_from, words_of}
use Rattle.guest_language.proofs.SpacedLines.{single_spaced}
use Rattle.guest_language.proofs.SpelledSteps.{blank_reads}

hash_name : (w : List ℕ) (words : List (List ℕ)) → guest_name ((35 ∷ w) ∷ words) ≡ None
hash_name w [] = refl
hash_name w (a ∷ []) = refl
hash_name w (a ∷ b ∷ words) = refl

comment_name : (line : List ℕ) → (slice_index line 0 == 35) ≡ true → guest_name (words_of line) ≡ None
comment_name [] h = absurd (cc)
comment_name (b ∷ bs) h = subst (λ (n : ℕ). guest_name (words_of (n ∷ bs)) ≡ None) (sym (eqb-true b 35 h)) (hash_name (take (word_len 35 bs) bs) (words_from (word_len 35 bs) bs))

comment_line : (line : List ℕ) → (slice_index line 0 == 35) ≡ true → is_guest_line line ≡ false
comment_line [] h = absurd (cc)
comment_line (b ∷ bs) h = subst (λ (n : ℕ). is_guest_line (n ∷ bs) ≡ false) (sym (eqb-true b 35 h)) refl

line_name : (line : List ℕ) → guest_name (words_of (single_spaced line)) ≡ guest_name (words_of line)
line_name line =
    elim (slice_index line 0 == 35) as (λ c. (slice_index line 0 == 35) ≡ c → guest_name (words_of (cond c [] (joined (words_of line)))) ≡ guest_name (words_of line)) [
      | true ↦ λ e. sym (comment_name line e)
      | false ↦ λ e. ap guest_name (joined_again line)
    ] refl

line_guest : (line : List ℕ) → is_guest_line (single_spaced line) ≡ is_guest_line line
line_guest line =
    elim (slice_index line 0 == 35) as (λ c. (slice_index line 0 == 35) ≡ c → is_guest_line (cond c [] (joined (words_of line))) ≡ is_guest_line line) [
      | true ↦ λ e. sym (comment_line line e)
      | false ↦ λ e. ap (λ (words : List (List ℕ)). bytes_eq (first_word words) (codes "guest")) (joined_again line)
    ] refl

pub spaced_names : (lines : List (List ℕ)) → names_of (map single_spaced lines) ≡ names_of lines
spaced_names [] = refl
spaced_names (line ∷ lines) =
    ap (λ (name : Option (List ℕ)). with_name name (names_of (map single_spaced lines))) (line_name line)
    ∙ ap (with_name (guest_name (words_of line))) (spaced_names lines)

pub spaced_guests : (lines : List (List ℕ)) → guest_line_count (map single_spaced lines) ≡ guest_line_count lines
spaced_guests [] = refl
spaced_guests (line ∷ lines) =
    sum_by-cons guests (single_spaced line) (map single_spaced lines)
    ∙ ap (λ (b : Bool). cond b 1 0 + guest_line_count (map single_spaced lines)) (line_guest line)
    ∙ ap (λ (n : ℕ). guests line + n) (spaced_guests lines)
    ∙ sym (sum_by-cons guests line lines)
  where
    guests : List ℕ → ℕ
    guests line = cond (is_guest_line line) 1 0

-- lines, and blank ones behind them
abbrev pub blanks_behind : List (List ℕ) → ℕ → List (List ℕ)
blanks_behind lines n = lines ++ replicate n []

blank_names : (n : ℕ) → names_of (replicate n []) ≡ []
blank_names zero = refl
blank_names (suc n) = blank_names n

pub front_names : (lines : List (List ℕ)) (n : ℕ) → names_of (blanks_behind lines n) ≡ names_of lines
front_names [] n = blank_names n
front_names (line ∷ lines) n = ap (with_name (guest_name (words_of line))) (front_names lines n)

pub front_guests : (lines : List (List ℕ)) (n : ℕ) → guest_line_count (blanks_behind lines n) ≡ guest_line_count lines
front_guests lines n =
    let both = sum_by-append (λ (line : List ℕ). cond (is_guest_line line) 1 0) lines (replicate n []) in
    let none = sum_by-replicate (λ (line : List ℕ). cond (is_guest_line line) 1 0) n [] in
    omega (arith, both, none)

blank_steps : (names : List (List ℕ)) (ss : List Section) (at n : ℕ) → steps names ss at (replicate n []) ≡ Ok ss
blank_steps names ss at zero = refl
blank_steps names ss at (suc n) =
    let blank = blank_reads names ss at in
    ap (λ (r : Result (List Section) ScriptKind). next at r (λ new. steps names new (at + 1) (replicate n []))) blank.again
    ∙ blank_steps names ss (at + 1) n

pub front_steps : (names : List (List ℕ)) (ss : List Section) (at : ℕ) (lines : List (List ℕ)) (n : ℕ) → steps names ss at (blanks_behind lines n) ≡ steps names ss at lines
front_steps names ss at [] n = blank_steps names ss at n
front_steps names ss at (line ∷ lines) n = by_step (step names ss at line) (λ more. front_steps names more (at + 1) lines n)
  where
    by_step : (r : Result (List Section) ScriptKind) → ((more : List Section) → steps names more (at + 1) (blanks_behind lines n) ≡ steps names more (at + 1) lines) → next at r (λ more. steps names more (at + 1) (blanks_behind lines n)) ≡ next at r (λ more. steps names more (at + 1) lines)
    by_step (Err e1) rec = refl
    by_step (Ok more) rec = rec more
