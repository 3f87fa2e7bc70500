-- Lines that are joined by line ends are these lines again, and as many bytes and lines at most.
use Rattle.std.proofs.Common.{◌≡◌, ℕ, zero, suc, ◌+◌, ◌-◌, ◌≤◌, ◌==◌, ◌&&◌, ◌||◌, Bool, true, false, cond, List, [], ◌∷◌, ◌++◌, length, map, get_or, refl, ap, sym, ◌∙◌, subst, arith, length-append, nat_le, replicate}
use Rattle.std.specs.Prelude.{count_by}
use Rattle.std.specs.List.{AllByRecursion, join_with_byte, onto_first, slice_split}
use Rattle.std.proofs.lemmas.Bool.{and_parts}
use Rattle.std.proofs.lemmas.Bool.Decides.{nat_tests}
use Rattle.std.proofs.lemmas.List.{append-nil, length-map, length-replicate}
use Rattle.std.proofs.lemmas.List.Splits.{length-slice_split}
use Rattle.guest_language.specs.Length.{is_ended, line_count, lines_of}
use Rattle.guest_language.specs.Sections.{is_printed}
use Rattle.guest_language.specs.Spelling.{Numbered, lines_at}
use Rattle.script_words.specs.Pieces.{pieces_of}
use Rattle.guest_language.proofs.SpacedLines.{single_spaced}
use Rattle.guest_language.proofs.ShortLines.{line_short}

abbrev is_end : ℕ → Bool
is_end b = b == 10

-- a byte of a script is no line end
no_end : (b : ℕ) → (nat_le 32 b && nat_le b 126) ≡ true → is_end b ≡ false
no_end b h = grind (arith, nat_tests)

split_alone : (line : List ℕ) → is_printed line ≡ true → slice_split is_end line ≡ line ∷ []
split_alone [] h = refl
split_alone (b ∷ bs) h =
    let parts = and_parts (nat_le 32 b && nat_le b 126) (is_printed bs) h in
    ap (λ (c : Bool). cond c ([] ∷ slice_split is_end bs) (onto_first b (slice_split is_end bs))) (no_end b parts.0)
    ∙ ap (onto_first b) (split_alone bs parts.1)

split_ended : (line rest : List ℕ) → is_printed line ≡ true → slice_split is_end (line ++ (10 ∷ rest)) ≡ line ∷ slice_split is_end rest
split_ended [] rest h = refl
split_ended (b ∷ bs) rest h =
    let parts = and_parts (nat_le 32 b && nat_le b 126) (is_printed bs) h in
    ap (λ (c : Bool). cond c ([] ∷ slice_split is_end (bs ++ (10 ∷ rest))) (onto_first b (slice_split is_end (bs ++ (10 ∷ rest))))) (no_end b parts.0)
    ∙ ap (onto_first b) (split_ended bs rest parts.1)

abbrev pub ArePrinted : List (List ℕ) → Type 0
ArePrinted lines = AllByRecursion (λ line. is_printed line ≡ true) lines

-- one line or more, joined
pub joined_lines : (line : List ℕ) (lines : List (List ℕ)) → ArePrinted (line ∷ lines) → lines_of (join_with_byte 10 (line ∷ lines)) ≡ line ∷ lines
unfolding pieces_of
joined_lines line [] h = split_alone line h.0
joined_lines line (next ∷ lines) h = split_ended line (join_with_byte 10 (next ∷ lines)) h.0 ∙ ap (λ (ls : List (List ℕ)). line ∷ ls) (joined_lines next lines h.1)

counted : (text : List ℕ) → length (lines_of text) ≡ count_by (λ b. b == 10) text + 1
unfolding pieces_of
counted text = length-slice_split is_end text

pub joined_count : (lines : List (List ℕ)) → ArePrinted lines → line_count (join_with_byte 10 lines) ≤ length lines
joined_count [] h = omega arith
joined_count (line ∷ lines) h = by_end (is_ended text)
  where
    text : List ℕ
    text = join_with_byte 10 (line ∷ lines)

    count : count_by (λ b. b == 10) (join_with_byte 10 (line ∷ lines)) + 1 ≡ length (line ∷ lines)
    count = sym (counted (join_with_byte 10 (line ∷ lines))) ∙ ap length (joined_lines line lines h)

    by_end : (c : Bool) → count_by (λ b. b == 10) (join_with_byte 10 (line ∷ lines)) + cond c 0 1 ≤ length (line ∷ lines)
    by_end true = omega (arith, count)
    by_end false = omega (arith, count)

pub spaced_size : (lines : List (List ℕ)) → length (join_with_byte 10 (map single_spaced lines)) ≤ length (join_with_byte 10 lines)
spaced_size [] = omega arith
spaced_size (line ∷ []) = line_short line
spaced_size (line ∷ next ∷ lines) =
    let one = line_short line in
    let more = spaced_size (next ∷ lines) in
    omega (arith, one, more, length-append (single_spaced line) (10 ∷ join_with_byte 10 (map single_spaced (next ∷ lines))), length-append line (10 ∷ join_with_byte 10 (next ∷ lines)))

pub front_size : (lines more : List (List ℕ)) → length (join_with_byte 10 lines) ≤ length (join_with_byte 10 (lines ++ more))
front_size [] more = omega arith
front_size (line ∷ []) [] = omega arith
front_size (line ∷ []) (next ∷ more) = omega (arith, length-append line (10 ∷ join_with_byte 10 (next ∷ more)))
front_size (line ∷ next ∷ lines) more =
    let rest = front_size (next ∷ lines) more in
    omega (arith, rest, length-append line (10 ∷ join_with_byte 10 (next ∷ lines)), length-append line (10 ∷ join_with_byte 10 ((next ∷ lines) ++ more)))

-- the last line is blank
abbrev pub EndsBlank : List (List ℕ) → Type 0
EndsBlank [] = ⊥
EndsBlank (line ∷ []) = line ≡ []
EndsBlank (line ∷ next ∷ lines) = EndsBlank (next ∷ lines)

-- the last of two lines or more is blank
abbrev EndsSecond : List (List ℕ) → Type 0
EndsSecond [] = ⊥
EndsSecond (line ∷ lines) = EndsBlank lines

second_blank : (lines : List (List ℕ)) → EndsSecond lines → EndsBlank lines
second_blank [] h = h
second_blank (line ∷ []) h = absurd h
second_blank (line ∷ next ∷ lines) h = h

onto_second : (b : ℕ) (lines : List (List ℕ)) → EndsSecond lines → EndsSecond (onto_first b lines)
onto_second b [] h = absurd h
onto_second b (line ∷ lines) h = h

split_second : (b : ℕ) (bs : List ℕ) → is_end (get_or (b ∷ bs) (length bs) 0) ≡ true → EndsSecond (slice_split is_end (b ∷ bs))
split_second b [] h = subst (λ (c : Bool). EndsSecond (cond c ([] ∷ [] ∷ []) ((b ∷ []) ∷ []))) (sym h) refl
split_second b (d ∷ bs) h =
    let rest = split_second d bs h in
    elim (is_end b) as (λ c. EndsSecond (cond c ([] ∷ slice_split is_end (d ∷ bs)) (onto_first b (slice_split is_end (d ∷ bs))))) [
      | true ↦ second_blank (slice_split is_end (d ∷ bs)) rest
      | false ↦ onto_second b (slice_split is_end (d ∷ bs)) rest
    ]

ended_blank : (text : List ℕ) → is_ended text ≡ true → EndsBlank (lines_of text)
unfolding pieces_of
ended_blank [] h = refl
ended_blank (b ∷ bs) h =
    let last : length (b ∷ bs) - 1 ≡ length bs = omega arith in
    let some : (length (b ∷ bs) == 0) ≡ false = grind (arith, nat_tests) in
    let ends : ((length (b ∷ bs) == 0) || is_end (get_or (b ∷ bs) (length (b ∷ bs) - 1) 0)) ≡ true = h in
    second_blank (slice_split is_end (b ∷ bs)) (split_second b bs (ap (λ (i : ℕ). is_end (get_or (b ∷ bs) i 0)) (sym last) ∙ ap (λ (c : Bool). c || is_end (get_or (b ∷ bs) (length (b ∷ bs) - 1) 0)) (sym some) ∙ ends))

spaced_blank : (lines : List (List ℕ)) → EndsBlank lines → EndsBlank (map single_spaced lines)
spaced_blank [] h = h
spaced_blank (line ∷ []) h = ap single_spaced h
spaced_blank (line ∷ next ∷ lines) h = spaced_blank (next ∷ lines) h

end_alone : (line : List ℕ) (lines : List (List ℕ)) → EndsBlank (line ∷ lines) → (line ≡ [] → ⊥) → EndsBlank lines
end_alone line [] h some = absurd (some h)
end_alone line (next ∷ lines) h some = h

end_behind : (n : ℕ) (line : List ℕ) (lines : List (List ℕ)) → EndsBlank (replicate n [] ++ (line ∷ lines)) → EndsBlank (line ∷ lines)
end_behind zero line lines h = h
end_behind (suc zero) line lines h = h
end_behind (suc (suc n)) line lines h = end_behind (suc n) line lines h

pub parts_end : (at : ℕ) (parts : List Numbered) → AllByRecursion (λ (part : Numbered). part.text ≡ [] → ⊥) parts → EndsBlank (lines_at at parts) → ⊥
parts_end at [] filled h = h
parts_end at (part ∷ parts) filled h = parts_end (part.number + 1) parts filled.1 (end_alone part.text (lines_at (part.number + 1) parts) (end_behind (part.number - at) part.text (lines_at (part.number + 1) parts) h) filled.0)

-- lines of a text, with single spaces, are no more than its lines where the last of them isn't blank
pub enough_lines : (text : List ℕ) (lines : List (List ℕ)) (blanks : ℕ) → map single_spaced (lines_of text) ≡ lines ++ replicate blanks [] → (EndsBlank lines → ⊥) → length lines ≤ line_count text
enough_lines text lines blanks same some = by_end (is_ended text) refl blanks same
  where
    count : length (lines_of text) ≡ count_by (λ b. b == 10) text + 1
    count = counted text

    size : (n : ℕ) → map single_spaced (lines_of text) ≡ lines ++ replicate n [] → length (lines_of text) ≡ length lines + n
    size n same = sym (length-map (lines_of text) single_spaced) ∙ ap length same ∙ length-append lines (replicate n []) ∙ ap (λ (m : ℕ). length lines + m) (length-replicate n [])

    by_end : (c : Bool) → is_ended text ≡ c → (n : ℕ) → map single_spaced (lines_of text) ≡ lines ++ replicate n [] → length lines ≤ count_by (λ b. b == 10) text + cond c 0 1
    by_end false e n same = let total = size n same in omega (arith, count, total)
    by_end true e zero same = absurd (some (subst EndsBlank (same ∙ append-nil lines) (spaced_blank (lines_of text) (ended_blank text e))))
    by_end true e (suc n) same = let total = size (suc n) same in omega (arith, count, total)
