-- The lines that are read are the parts' lines, and blank ones behind them.
use Rattle.std.proofs.Common.{◌≡◌, ℕ, suc, ◌+◌, ◌-◌, ◌≤◌, inl, inr, true, List, [], ◌∷◌, ◌++◌, map, Result, Ok, Err, refl, ap, sym, ◌∙◌, append_assoc, arith, replicate}
use Rattle.std.specs.List.{AllByRecursion}
use Rattle.std.proofs.lemmas.List.{append-nil}
use Rattle.guest_language.specs.declared.fault.ScriptKind.{ScriptKind}
use Rattle.guest_language.specs.declared.script.Section.{Section}
use Rattle.guest_language.specs.Sections.{is_printed, next, step, steps}
use Rattle.guest_language.specs.Spelling.{Numbered, lines_at, parts_of}
use Rattle.guest_language.proofs.SpacedLines.{single_spaced}
use Rattle.guest_language.proofs.SpelledSteps.{Adds, ReadsAs, step_reads}

-- the first part has the number or a higher one
abbrev pub StartsFrom : ℕ → List Numbered → Type 0
StartsFrom at [] = Unit {0}
StartsFrom at (part ∷ parts) = at ≤ part.number

-- lines read as sections: the parts that they add, and the blank lines behind them
pub record ReadsLines (names : List (List ℕ)) (ss : List Section) (at : ℕ) (texts : List (List ℕ)) (out : List Section) : Type 0 where
  pub parts : List Numbered
  pub blanks : ℕ
  pub adds : parts_of out ≡ parts_of ss ++ parts
  pub starts : StartsFrom at parts
  pub filled : AllByRecursion (λ (part : Numbered). part.text ≡ [] → ⊥) parts
  pub lines : texts ≡ lines_at at parts ++ replicate blanks []
  pub printed : AllByRecursion (λ text. is_printed text ≡ true) texts
  pub again : steps names ss at texts ≡ Ok out

starts_before : (at : ℕ) (parts : List Numbered) → StartsFrom (at + 1) parts → StartsFrom at parts
starts_before at [] h = tt
starts_before at (part ∷ parts) h = omega (arith, h)

blank_before : (at : ℕ) (parts : List Numbered) (blanks : ℕ) → StartsFrom (at + 1) parts → (more : ℕ) × ([] ∷ (lines_at (at + 1) parts ++ replicate blanks []) ≡ lines_at at parts ++ replicate more [])
blank_before at [] blanks h = (suc blanks, refl)
blank_before at (part ∷ parts) blanks h =
    let one : suc (part.number - (at + 1)) ≡ part.number - at = omega (arith, h) in
    (blanks, ap (λ (n : ℕ). (replicate n [] ++ (part.text ∷ lines_at (part.number + 1) parts)) ++ replicate blanks []) one)

again_more : (names : List (List ℕ)) (ss : List Section) (at : ℕ) (text : List ℕ) (texts : List (List ℕ)) (more out : List Section) → step names ss at text ≡ Ok more → steps names more (at + 1) texts ≡ Ok out → steps names ss at (text ∷ texts) ≡ Ok out
again_more names ss at text texts more out e h = ap (λ (r : Result (List Section) ScriptKind). next at r (λ new. steps names new (at + 1) texts)) e ∙ h

one_more : (names : List (List ℕ)) (ss : List Section) (at : ℕ) (text : List ℕ) (texts : List (List ℕ)) (more out : List Section) → ReadsAs names ss at text more → ReadsLines names more (at + 1) texts out → ReadsLines names ss at (text ∷ texts) out
one_more names ss at text texts more out line rest = by_line line.adds
  where
    by_line : Adds ss at text more → ReadsLines names ss at (text ∷ texts) out
    by_line (inl blank) =
        let before = blank_before at rest.parts rest.blanks rest.starts in
        record {
          parts = rest.parts;
          blanks = before.0;
          adds = rest.adds ∙ ap (λ (new : List Section). parts_of new ++ rest.parts) (sym blank.1);
          starts = starts_before at rest.parts rest.starts;
          filled = rest.filled;
          lines = ap (λ (l : List ℕ). l ∷ texts) blank.0 ∙ ap (λ (ls : List (List ℕ)). [] ∷ ls) rest.lines ∙ before.1;
          printed = (line.printed, rest.printed);
          again = again_more names ss at text texts more out line.again rest.again;
        }
    by_line (inr new) =
        let none : 0 ≡ at - at = omega arith in
        record {
          parts = record { number = at; text = text } ∷ rest.parts;
          blanks = rest.blanks;
          adds = rest.adds ∙ ap (λ (parts : List Numbered). parts ++ rest.parts) new.0 ∙ append_assoc (parts_of ss) (record { number = at; text = text } ∷ []) rest.parts;
          starts = omega arith;
          filled = (new.1, rest.filled);
          lines = ap (λ (ls : List (List ℕ)). text ∷ ls) rest.lines ∙ ap (λ (n : ℕ). (replicate n [] ++ (text ∷ lines_at (at + 1) rest.parts)) ++ replicate rest.blanks []) none;
          printed = (line.printed, rest.printed);
          again = again_more names ss at text texts more out line.again rest.again;
        }

pub lines_read : (names : List (List ℕ)) (ss : List Section) (at : ℕ) (lines : List (List ℕ)) (out : List Section) → steps names ss at lines ≡ Ok out → ReadsLines names ss at (map single_spaced lines) out
lines_read names ss at [] out h =
    let same : ss ≡ out = cc in
    record {
      parts = [];
      blanks = 0;
      adds = ap parts_of (sym same) ∙ sym (append-nil (parts_of ss));
      starts = tt;
      filled = tt;
      lines = refl;
      printed = tt;
      again = h;
    }
lines_read names ss at (line ∷ lines) out h = by_step (step names ss at line) refl (λ more. lines_read names more (at + 1) lines out) h
  where
    by_step : (r : Result (List Section) ScriptKind) → step names ss at line ≡ r → ((more : List Section) → steps names more (at + 1) lines ≡ Ok out → ReadsLines names more (at + 1) (map single_spaced lines) out) → next at r (λ more. steps names more (at + 1) lines) ≡ Ok out → ReadsLines names ss at (map single_spaced (line ∷ lines)) out
    by_step (Err e1) e rec h = absurd (cc)
    by_step (Ok more) e rec h = one_more names ss at (single_spaced line) (map single_spaced lines) more out (step_reads names ss at line more e) (rec more h)
