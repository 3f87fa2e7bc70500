-- A line that is read adds a line of its words to the parts of a script, or nothing.
use Rattle.std.proofs.Common.{◌≡◌, ℕ, ◌-◌, ◌==◌, ◌⊎◌, inl, inr, true, false, cond, not, List, [], ◌∷◌, ◌++◌, length, set, get_or, Option, None, Result, Ok, Err, refl, ap, sym, ◌∙◌, subst, append_assoc, arith, slice_index}
use Rattle.std.specs.Prelude.{codes}
use Rattle.std.specs.Str.{bytes_eq}
use Rattle.std.proofs.lemmas.Bool.{eqb-true}
use Rattle.std.proofs.lemmas.Grind.{flat_map-append}
use Rattle.std.proofs.lemmas.List.{append-nil, map-append}
use Rattle.std.proofs.lemmas.Slice.Eq.{bytes_eq-Decides}
use Rattle.guest_language.specs.declared.fault.ScriptKind.{ScriptKind}
use Rattle.guest_language.specs.declared.fault.ScriptKind.TheVariants as kind
use Rattle.guest_language.specs.declared.script.Line.{Line}
use Rattle.guest_language.specs.declared.script.Section.{Section}
use Rattle.guest_language.specs.declared.script.What.{What}
use Rattle.guest_language.specs.declared.verb.Verb.{Verb}
use Rattle.guest_language.specs.Names.{is_name}
use Rattle.guest_language.specs.Sections.{add_line, guest_step, is_printed, is_taken, line_of, no_section, step, what_step, with_line, words_step}
use Rattle.guest_language.specs.Spelling.{Numbered, head_of, numbered, parts_of, section_parts}
use Rattle.guest_language.specs.Verbs.{file_verb, path_verb, socket_verb, verb_of}
use Rattle.guest_language.specs.What.{run_verb, what_of}
use Rattle.script_words.proofs.LineLaws.{joined_again}
use Rattle.script_words.specs.Words.{joined, words_of}
use Rattle.guest_language.proofs.SpacedLines.{single_spaced, words_printed}

parts_push : (ss : List Section) (name : List ℕ) (at : ℕ) → parts_of (ss ++ record { name = name; at = at; lines = [] } ∷ []) ≡ parts_of ss ++ record { number = at; text = codes "guest " ++ name } ∷ []
parts_push ss name at = flat_map-append section_parts ss (record { name = name; at = at; lines = [] } ∷ [])

parts_more : (ss : List Section) (s : Section) (line : Line) → parts_of (set (s ∷ ss) (length ss) (with_line (get_or (s ∷ ss) (length ss) no_section) line)) ≡ parts_of (s ∷ ss) ++ numbered line ∷ []
parts_more [] s line =
    append-nil (section_parts (with_line s line))
    ∙ ap (λ (parts : List Numbered). head_of s ∷ parts) (map-append numbered s.lines (line ∷ []))
    ∙ ap (λ (parts : List Numbered). parts ++ numbered line ∷ []) (sym (append-nil (section_parts s)))
parts_more (t ∷ ss) s line =
    ap (λ (parts : List Numbered). section_parts s ++ parts) (parts_more ss t line)
    ∙ sym (append_assoc (section_parts s) (parts_of (t ∷ ss)) (numbered line ∷ []))

parts_add : (ss : List Section) (line : Line) → (length ss == 0) ≡ false → parts_of (add_line ss line) ≡ parts_of ss ++ numbered line ∷ []
parts_add [] line h = absurd (cc)
parts_add (s ∷ ss) line h =
    let last : length (s ∷ ss) - 1 ≡ length ss = omega arith in
    subst (λ (i : ℕ). parts_of (set (s ∷ ss) i (with_line (get_or (s ∷ ss) i no_section) line)) ≡ parts_of (s ∷ ss) ++ numbered line ∷ []) (sym last) (parts_more ss s line)

-- the sections with one more, by the name behind `guest`
named_step : (ss : List Section) (at : ℕ) (words : List (List ℕ)) (new : List Section) → guest_step ss at words ≡ Ok new → (name : List ℕ) × (words ≡ name ∷ []) × (ss ++ record { name = name; at = at; lines = [] } ∷ [] ≡ new)
named_step ss at [] new h = absurd (cc)
named_step ss at (a ∷ b ∷ words) new h = absurd (cc)
named_step ss at (name ∷ []) new h = (
  name,
  refl,
  elim (is_name name) as (λ b. cond (not b) (Err kind.BadName) (cond (is_taken ss name) (Err kind.GuestTwice) pushed) ≡ Ok new → more ≡ new) [
    | false ↦ λ h. absurd (cc)
    | true ↦ λ h. elim (is_taken ss name) as (λ c. cond c (Err kind.GuestTwice) pushed ≡ Ok new → more ≡ new) [
      | true ↦ λ h. absurd (cc)
      | false ↦ λ h. cc
    ] h
  ] h,
)
  where
    more : List Section
    more = ss ++ record { name = name; at = at; lines = [] } ∷ []

    pushed : Result (List Section) ScriptKind
    pushed = Ok more

-- a line adds its text under its number, or is blank and adds nothing
abbrev pub Adds : List Section → ℕ → List ℕ → List Section → Type 0
Adds ss at text new = ((text ≡ []) × (ss ≡ new)) ⊎ ((parts_of new ≡ parts_of ss ++ record { number = at; text = text } ∷ []) × (text ≡ [] → ⊥))

adds_text : (ss : List Section) (at : ℕ) (word : List ℕ) (words : List (List ℕ)) (new : List Section) → words_of (joined (word ∷ words)) ≡ word ∷ words → parts_of new ≡ parts_of ss ++ record { number = at; text = joined (word ∷ words) } ∷ [] → Adds ss at (joined (word ∷ words)) new
adds_text ss at word words new again parts = inr (parts, λ e. let none : [] ≡ word ∷ words = ap words_of (sym e) ∙ again in cc)

guest_adds : (ss : List Section) (at : ℕ) (word : List ℕ) (words : List (List ℕ)) (new : List Section) → bytes_eq word (codes "guest") ≡ true → guest_step ss at words ≡ Ok new → parts_of new ≡ parts_of ss ++ record { number = at; text = joined (word ∷ words) } ∷ []
guest_adds ss at word words new g h =
    let named = named_step ss at words new h in
    let is : word ≡ codes "guest" = (bytes_eq-Decides word (codes "guest")).0 g in
    let text : joined (word ∷ words) ≡ codes "guest " ++ named.0 = ap (λ (ws : List (List ℕ)). joined (word ∷ ws)) named.1 ∙ ap (λ (w : List ℕ). joined (w ∷ named.0 ∷ [])) is ∙ ap (λ (l : List ℕ). codes "guest " ++ l) (append-nil named.0) in
    ap parts_of (sym named.2) ∙ parts_push ss named.0 at ∙ ap (λ (text : List ℕ). parts_of ss ++ record { number = at; text = text } ∷ []) (sym text)

what_adds : (ss : List Section) (at : ℕ) (words : List (List ℕ)) (new : List Section) (r : Result What ScriptKind) → (length ss == 0) ≡ false → what_step ss at words r ≡ Ok new → parts_of new ≡ parts_of ss ++ record { number = at; text = joined words } ∷ []
what_adds ss at words new (Err e) some h = absurd (cc)
what_adds ss at words new (Ok what) some h =
    let same : add_line ss (line_of at words what) ≡ new = cc in
    ap parts_of (sym same) ∙ parts_add ss (line_of at words what) some

words_add : (names : List (List ℕ)) (ss : List Section) (at : ℕ) (words : List (List ℕ)) (new : List Section) → words_of (joined words) ≡ words → words_step names ss at words ≡ Ok new → Adds ss at (joined words) new
words_add names ss at [] new again h = let same : ss ≡ new = cc in inl (refl, same)
words_add names ss at (word ∷ words) new again h = adds_text ss at word words new again
    (elim (bytes_eq word (codes "guest")) as (λ b. bytes_eq word (codes "guest") ≡ b → cond b (guest_step ss at words) (cond (length ss == 0) (Err kind.NoGuest) (what_step ss at (word ∷ words) (what_of names ss (word ∷ words)))) ≡ Ok new → parts_of new ≡ parts_of ss ++ record { number = at; text = joined (word ∷ words) } ∷ []) [
      | true ↦ λ g h. guest_adds ss at word words new g h
      | false ↦ λ g h. elim (length ss == 0) as (λ c. (length ss == 0) ≡ c → cond c (Err kind.NoGuest) (what_step ss at (word ∷ words) (what_of names ss (word ∷ words))) ≡ Ok new → parts_of new ≡ parts_of ss ++ record { number = at; text = joined (word ∷ words) } ∷ []) [
        | true ↦ λ e h. absurd (cc)
        | false ↦ λ e h. what_adds ss at (word ∷ words) new (what_of names ss (word ∷ words)) e h
      ] refl h
    ] refl h)

-- no call begins with `#`
hash_verb : (w : List ℕ) → verb_of (35 ∷ w) ≡ None
unfolding file_verb path_verb socket_verb
hash_verb w = refl

hash_fault : (names : List (List ℕ)) (ss : List Section) (at : ℕ) (w : List ℕ) (words : List (List ℕ)) (new : List Section) → words_step names ss at ((35 ∷ w) ∷ words) ≡ Ok new → ⊥
hash_fault names ss at w words new h =
    elim (length ss == 0) as (λ c. cond c (Err kind.NoGuest) (what_step ss at ((35 ∷ w) ∷ words) (run_verb (verb_of (35 ∷ w)) words)) ≡ Ok new → ⊥) [
      | true ↦ λ h. cc
      | false ↦ λ h. let fault : what_step ss at ((35 ∷ w) ∷ words) (run_verb None words) ≡ Ok new = ap (λ (verb : Option Verb). what_step ss at ((35 ∷ w) ∷ words) (run_verb verb words)) (sym (hash_verb w)) ∙ h in cc
    ] h

no_comment : (names : List (List ℕ)) (ss : List Section) (at : ℕ) (words : List (List ℕ)) (new : List Section) → words_step names ss at words ≡ Ok new → (slice_index (joined words) 0 == 35) ≡ false
no_comment names ss at [] new h = refl
no_comment names ss at ([] ∷ []) new h = refl
no_comment names ss at ([] ∷ word ∷ words) new h = refl
no_comment names ss at ((b ∷ w) ∷ words) new h =
    elim (b == 35) as (λ c. (b == 35) ≡ c → c ≡ false) [
      | true ↦ λ e. absurd (hash_fault names ss at w words new (subst (λ (n : ℕ). words_step names ss at ((n ∷ w) ∷ words) ≡ Ok new) (eqb-true b 35 e) h))
      | false ↦ λ e. refl
    ] refl

-- a line that reads well with single spaces, and as what it adds
pub record ReadsAs (names : List (List ℕ)) (ss : List Section) (at : ℕ) (text : List ℕ) (new : List Section) : Type 0 where
  pub printed : is_printed text ≡ true
  pub again : step names ss at text ≡ Ok new
  pub adds : Adds ss at text new

pub blank_reads : (names : List (List ℕ)) (ss : List Section) (at : ℕ) → ReadsAs names ss at [] ss
unfolding step
blank_reads names ss at = record { printed = refl; again = refl; adds = inl (refl, refl) }

step_as : (names : List (List ℕ)) (ss : List Section) (at : ℕ) (text : List ℕ) → is_printed text ≡ true → (slice_index text 0 == 35) ≡ false → step names ss at text ≡ words_step names ss at (words_of text)
unfolding step
step_as names ss at text p c = rw (p, c) refl

words_read : (names : List (List ℕ)) (ss : List Section) (at : ℕ) (line : List ℕ) (new : List Section) → is_printed line ≡ true → words_step names ss at (words_of line) ≡ Ok new → ReadsAs names ss at (joined (words_of line)) new
words_read names ss at line new p h = record {
  printed = words_printed line p;
  again = step_as names ss at (joined (words_of line)) (words_printed line p) (no_comment names ss at (words_of line) new h) ∙ ap (λ (words : List (List ℕ)). words_step names ss at words) (joined_again line) ∙ h;
  adds = words_add names ss at (words_of line) new (joined_again line) h;
}

pub step_reads : (names : List (List ℕ)) (ss : List Section) (at : ℕ) (line : List ℕ) (new : List Section) → step names ss at line ≡ Ok new → ReadsAs names ss at (single_spaced line) new
unfolding step
step_reads names ss at line new h =
    elim (is_printed line) as (λ b. is_printed line ≡ b → cond (not b) (Err kind.BadByte) (cond (slice_index line 0 == 35) ignored (words_step names ss at (words_of line))) ≡ Ok new → ReadsAs names ss at (single_spaced line) new) [
      | false ↦ λ p h. absurd (cc)
      | true ↦ λ p h. elim (slice_index line 0 == 35) as (λ c. cond c ignored (words_step names ss at (words_of line)) ≡ Ok new → ReadsAs names ss at (cond c [] (joined (words_of line))) new) [
        | true ↦ λ h. let same : ss ≡ new = cc in subst (λ (out : List Section). ReadsAs names ss at [] out) same (blank_reads names ss at)
        | false ↦ λ h. words_read names ss at line new p h
      ] h
    ] refl h
  where
    ignored : Result (List Section) ScriptKind
    ignored = Ok ss
