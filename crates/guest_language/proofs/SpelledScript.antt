-- What a script was read as, spelled from its parts, reads as the same script.
use Rattle.std.proofs.Common.{◌≡◌, ℕ, ◌≤◌, Bool, true, false, cond, List, [], ◌∷◌, ◌++◌, length, map, Result, Ok, Err, refl, ap, sym, ◌∙◌, subst, arith, nat_lt, replicate}
use Rattle.std.specs.List.{join_with_byte}
use Rattle.std.proofs.lemmas.Bool.{le-ltb, ltb-false, or_from, or_parts}
use Rattle.std.proofs.lemmas.List.{append-nil}
use Rattle.std.proofs.lemmas.List.Splits.{join_with_byte-slice_split}
use Rattle.guest_language.specs.declared.fault.ScriptFault.{ScriptFault}
use Rattle.guest_language.specs.declared.fault.ScriptKind.TheVariants as kind
use Rattle.guest_language.specs.declared.length.TheConstants.{MOST_BYTES, MOST_GUESTS, MOST_LINES}
use Rattle.guest_language.specs.declared.script.Section.{Section}
use Rattle.guest_language.specs.Length.{guest_line_count, is_long, is_too_long, line_count, lines_of}
use Rattle.guest_language.specs.Names.{names_of}
use Rattle.guest_language.specs.Script.{script_of, uncircled, whole_fault}
use Rattle.guest_language.specs.Sections.{steps}
use Rattle.guest_language.specs.Spelling.{Numbered, lines_at, spelled}
use Rattle.script_words.specs.Pieces.{pieces_of}
use Rattle.guest_language.proofs.JoinedLines.{ArePrinted, EndsBlank, enough_lines, front_size, joined_count, joined_lines, parts_end, spaced_size}
use Rattle.guest_language.proofs.Keeping.{circle_free}
use Rattle.guest_language.proofs.SameNames.{blanks_behind, front_guests, front_names, front_steps, spaced_guests, spaced_names}
use Rattle.guest_language.proofs.SpacedLines.{single_spaced}
use Rattle.guest_language.proofs.SpelledLines.{lines_read}

front_printed : (lines more : List (List ℕ)) → ArePrinted (lines ++ more) → ArePrinted lines
front_printed [] more h = tt
front_printed (line ∷ lines) more h = (h.0, front_printed lines more h.1)

-- the lines of lines that are joined; of none there is a blank one
joined_behind : (lines : List (List ℕ)) → ArePrinted lines → (n : ℕ) × (lines_of (join_with_byte 10 lines) ≡ blanks_behind lines n)
unfolding pieces_of
joined_behind [] h = (1, refl)
joined_behind (line ∷ lines) h = (0, joined_lines line lines h ∙ sym (append-nil (line ∷ lines)))

text_joined : (text : List ℕ) → join_with_byte 10 (lines_of text) ≡ text
unfolding pieces_of
text_joined text = join_with_byte-slice_split 10 text

not_above : (most n m : ℕ) → nat_lt most n ≡ false → m ≤ n → nat_lt most m ≡ false
not_above most n m h l = let within = ltb-false most n h in le-ltb most m (omega (arith, within, l))

-- a text that is no longer than one that isn't too long
short_too : (text new : List ℕ) → length new ≤ length text → line_count new ≤ line_count text → guest_line_count (lines_of new) ≡ guest_line_count (lines_of text) → is_too_long text ≡ false → is_too_long new ≡ false
short_too text new bytes lines guests h =
    let whole = or_parts (is_long text) (nat_lt MOST_GUESTS (guest_line_count (lines_of text))) h in
    let long = or_parts (nat_lt MOST_BYTES (length text)) (nat_lt MOST_LINES (line_count text)) whole.0 in
    or_from (is_long new) (nat_lt MOST_GUESTS (guest_line_count (lines_of new)))
    (or_from (nat_lt MOST_BYTES (length new)) (nat_lt MOST_LINES (line_count new)) (not_above MOST_BYTES (length text) (length new) long.0 bytes) (not_above MOST_LINES (line_count text) (line_count new) long.1 lines))
    (ap (λ (n : ℕ). nat_lt MOST_GUESTS n) guests ∙ whole.1)

-- what a text reads as: it isn't too long, and there is no circle
pub record IsRead (text : List ℕ) (script : List Section) : Type 0 where
  pub short : is_too_long text ≡ false
  pub read : steps (names_of (lines_of text)) [] 1 (lines_of text) ≡ Ok script
  pub sound : uncircled (Ok script) ≡ Ok script

pub is_read : (text : List ℕ) (script : List Section) → script_of text ≡ Ok script → IsRead text script
is_read text script h =
    elim (is_too_long text) as (λ b. is_too_long text ≡ b → cond b (Err (whole_fault kind.TooLong)) (uncircled read) ≡ Ok script → IsRead text script) [
      | true ↦ λ e h. absurd (cc)
      | false ↦ λ e h.
          let well : read ≡ Ok script = circle_free read script h in
          record { short = e; read = well; sound = ap uncircled (sym well) ∙ h }
    ] refl h
  where
    read : Result (List Section) ScriptFault
    read = steps (names_of (lines_of text)) [] 1 (lines_of text)

reads_as : (text : List ℕ) (script : List Section) (names : List (List ℕ)) → is_too_long text ≡ false → names_of (lines_of text) ≡ names → steps names [] 1 (lines_of text) ≡ Ok script → uncircled (Ok script) ≡ Ok script → script_of text ≡ Ok script
reads_as text script names short same read sound =
    ap (λ (b : Bool). cond b (Err (whole_fault kind.TooLong)) (uncircled (steps (names_of (lines_of text)) [] 1 (lines_of text)))) short
    ∙ ap (λ (names : List (List ℕ)). uncircled (steps names [] 1 (lines_of text))) same
    ∙ ap uncircled read
    ∙ sound

-- a text's lines with single spaces, but for blank ones at the end, read as the text does
front_reads : (text : List ℕ) (script : List Section) (lines : List (List ℕ)) (blanks : ℕ) → IsRead text script → map single_spaced (lines_of text) ≡ blanks_behind lines blanks → ArePrinted lines → (EndsBlank lines → ⊥) → steps (names_of (lines_of text)) [] 1 (map single_spaced (lines_of text)) ≡ Ok script → script_of (join_with_byte 10 lines) ≡ Ok script
front_reads text script lines blanks is same printed some again =
    reads_as (join_with_byte 10 lines) script (names_of (lines_of text)) (short_too text (join_with_byte 10 lines) bytes count guests is.short) names read is.sound
  where
    behind : (n : ℕ) × (lines_of (join_with_byte 10 lines) ≡ blanks_behind lines n)
    behind = joined_behind lines printed

    bytes : length (join_with_byte 10 lines) ≤ length text
    bytes =
        let front = front_size lines (replicate blanks []) in
        let spaced = spaced_size (lines_of text) in
        let joined = ap (λ (ls : List (List ℕ)). length (join_with_byte 10 ls)) same in
        let whole = ap length (text_joined text) in
        omega (arith, front, spaced, joined, whole)

    count : line_count (join_with_byte 10 lines) ≤ line_count text
    count =
        let most = joined_count lines printed in
        let least = enough_lines text lines blanks same some in
        omega (arith, most, least)

    guests : guest_line_count (lines_of (join_with_byte 10 lines)) ≡ guest_line_count (lines_of text)
    guests =
        ap guest_line_count behind.1
        ∙ front_guests lines behind.0
        ∙ sym (front_guests lines blanks)
        ∙ ap guest_line_count (sym same)
        ∙ spaced_guests (lines_of text)

    names : names_of (lines_of (join_with_byte 10 lines)) ≡ names_of (lines_of text)
    names =
        ap names_of behind.1
        ∙ front_names lines behind.0
        ∙ sym (front_names lines blanks)
        ∙ ap names_of (sym same)
        ∙ spaced_names (lines_of text)

    read : steps (names_of (lines_of text)) [] 1 (lines_of (join_with_byte 10 lines)) ≡ Ok script
    read =
        ap (steps (names_of (lines_of text)) [] 1) behind.1
        ∙ front_steps (names_of (lines_of text)) [] 1 lines behind.0
        ∙ sym (front_steps (names_of (lines_of text)) [] 1 lines blanks)
        ∙ ap (steps (names_of (lines_of text)) [] 1) (sym same)
        ∙ again

-- a script that was read, spelled, reads as the same script
pub spelled_reads : (text : List ℕ) (script : List Section) → script_of text ≡ Ok script → script_of (spelled script) ≡ Ok script
spelled_reads text script h =
    let is = is_read text script h in
    let r = lines_read (names_of (lines_of text)) [] 1 (lines_of text) script is.read in
    let printed = front_printed (lines_at 1 r.parts) (replicate r.blanks []) (subst ArePrinted r.lines r.printed) in
    ap (λ (parts : List Numbered). script_of (join_with_byte 10 (lines_at 1 parts))) r.adds
    ∙ front_reads text script (lines_at 1 r.parts) r.blanks is r.lines printed (parts_end 1 r.parts r.filled) r.again
