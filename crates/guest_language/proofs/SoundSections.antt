-- The sections of a script have names, proper calls, and no more lines than a script.
use Rattle.std.proofs.Common.{◌≡◌, ℕ, ◌+◌, ◌-◌, ◌≤◌, true, false, List, [], ◌∷◌, ◌++◌, length, Ok, ap, arith, length-append, nat_lt, replicate}
use Rattle.std.specs.List.{AllByRecursion}
use Rattle.std.proofs.lemmas.Bool.{ltb-false, or_parts}
use Rattle.std.proofs.lemmas.List.{length-map}
use Rattle.guest_language.specs.declared.length.TheConstants.{MOST_BYTES, MOST_GUESTS, MOST_LINES}
use Rattle.guest_language.specs.declared.script.Line.{Line}
use Rattle.guest_language.specs.declared.script.Section.{Section}
use Rattle.guest_language.specs.Facts.{HasProperCall, IsFine, IsSoundSection}
use Rattle.guest_language.specs.Length.{guest_line_count, is_long, line_count, lines_of}
use Rattle.guest_language.specs.Names.{is_name, names_of}
use Rattle.guest_language.specs.Script.{script_of}
use Rattle.guest_language.specs.Sections.{add_line, is_taken}
use Rattle.guest_language.specs.Spelling.{Numbered, lines_at, numbered, parts_of, section_parts}
use Rattle.guest_language.proofs.FactLaws.{push_all, section_more}
use Rattle.guest_language.proofs.JoinedLines.{enough_lines, parts_end}
use Rattle.guest_language.proofs.Keeping.{script_keeps}
use Rattle.guest_language.proofs.SpelledLines.{lines_read}
use Rattle.guest_language.proofs.SpelledScript.{is_read}

-- a section with a guest's name and proper calls
abbrev IsProperSection : Section → Type 0
IsProperSection section = (is_name section.name ≡ true) × AllByRecursion HasProperCall section.lines

abbrev AreProper : List Section → Type 0
AreProper sections = AllByRecursion IsProperSection sections

proper_push : (ss : List Section) (name : List ℕ) (at : ℕ) → is_name name ≡ true → is_taken ss name ≡ false → AreProper ss → AreProper (ss ++ record { name = name; at = at; lines = [] } ∷ [])
proper_push ss name at n t h = push_all IsProperSection ss (record { name = name; at = at; lines = [] }) h (n, tt)

proper_add : (ss : List Section) (line : Line) → IsFine line → HasProperCall line → AreProper ss → AreProper (add_line ss line)
proper_add ss line f p h = section_more IsProperSection ss (length ss - 1) line (λ s own. (own.0, push_all HasProperCall s.lines line own.1 p)) h

parts_within : (at : ℕ) (parts : List Numbered) → length parts ≤ length (lines_at at parts)
parts_within at [] = omega arith
parts_within at (part ∷ parts) =
    let rest = parts_within (part.number + 1) parts in
    omega (arith, rest, length-append (replicate (part.number - at) []) (part.text ∷ lines_at (part.number + 1) parts))

-- the parts of a script are no more than the lines that a script has
parts_few : (text : List ℕ) (script : List Section) → script_of text ≡ Ok script → length (parts_of script) ≤ MOST_LINES
parts_few text script h =
    let is = is_read text script h in
    let r = lines_read (names_of (lines_of text)) [] 1 (lines_of text) script is.read in
    let whole = or_parts (is_long text) (nat_lt MOST_GUESTS (guest_line_count (lines_of text))) is.short in
    let long = or_parts (nat_lt MOST_BYTES (length text)) (nat_lt MOST_LINES (line_count text)) whole.0 in
    let most = ltb-false MOST_LINES (line_count text) long.1 in
    let lines = enough_lines text (lines_at 1 r.parts) r.blanks r.lines (parts_end 1 r.parts r.filled) in
    let parts = parts_within 1 r.parts in
    let same = ap length r.adds in
    omega (arith, most, lines, parts, same)

lines_few : (most : ℕ) (ss : List Section) → length (parts_of ss) ≤ most → AllByRecursion (λ (section : Section). length section.lines ≤ most) ss
lines_few most [] h = tt
lines_few most (s ∷ ss) h =
    let both = length-append (section_parts s) (parts_of ss) in
    let own = length-map s.lines numbered in
    (omega (arith, h, both, own), lines_few most ss (omega (arith, h, both)))

both_sound : (ss : List Section) → AreProper ss → AllByRecursion (λ (section : Section). length section.lines ≤ MOST_LINES) ss → AllByRecursion IsSoundSection ss
both_sound [] p f = tt
both_sound (s ∷ ss) p f = (record { named = p.0.0; proper = p.0.1; few = f.0 }, both_sound ss p.1 f.1)

pub sound_sections : (text : List ℕ) (script : List Section) → script_of text ≡ Ok script → AllByRecursion IsSoundSection script
sound_sections text script h = both_sound script (script_keeps AreProper tt proper_push proper_add text script h) (lines_few MOST_LINES script (parts_few text script h))
