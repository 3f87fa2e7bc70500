-- What holds of no sections, and is kept by a new one and by a line more, holds of every script.
use Rattle.std.proofs.Common.{◌≡◌, ℕ, ◌+◌, ◌==◌, ◌||◌, Bool, true, false, cond, not, List, [], ◌∷◌, ◌++◌, length, Option, Some, None, Result, Ok, Err, refl, ap, sym, ◌∙◌, subst, slice_index}
use Rattle.std.specs.Prelude.{codes}
use Rattle.std.specs.Str.{bytes_eq}
use Rattle.guest_language.specs.declared.fault.ScriptFault.{ScriptFault}
use Rattle.guest_language.specs.declared.fault.ScriptKind.{ScriptKind}
use Rattle.guest_language.specs.declared.fault.ScriptKind.TheVariants as kind
use Rattle.guest_language.specs.declared.script.Line.{Line}
use Rattle.guest_language.specs.declared.script.Section.{Section}
use Rattle.guest_language.specs.declared.script.What.{What}
use Rattle.guest_language.specs.declared.script.What.TheVariants.{Run}
use Rattle.guest_language.specs.declared.slot.Made.{Made}
use Rattle.guest_language.specs.declared.verb.Verb.{Verb}
use Rattle.guest_language.specs.Facts.{HasProperCall, IsFine, IsRun}
use Rattle.guest_language.specs.Forks.{has_circle}
use Rattle.guest_language.specs.Length.{is_too_long, lines_of}
use Rattle.guest_language.specs.Made.{made_of}
use Rattle.guest_language.specs.Names.{is_name, names_of}
use Rattle.guest_language.specs.Script.{script_of, uncircled, whole_fault}
use Rattle.guest_language.specs.Sections.{add_line, guest_step, is_printed, is_taken, line_of, next, step, steps, what_step, words_step}
use Rattle.guest_language.specs.Verbs.{verb_of}
use Rattle.guest_language.specs.What.{aside_what, child_aside, in_background, line_what, only_aside, run_aside, verb_aside, verb_made_aside, what_of}
use Rattle.script_words.specs.Words.{words_of}
use Rattle.guest_language.proofs.ProperCalls.{proper_line}

-- a result that is Ok with one value is Ok with no other
given_same : {X E : Type 0} (x y : X) (r : Result X E) → r ≡ Ok x → r ≡ Ok y → x ≡ y
given_same x y r a b = cc

made_runs : (v : Verb) (made : Option Made) (what : What) → run_aside v made ≡ Ok what → IsRun what
made_runs v None what h = absurd (cc)
made_runs v (Some made) what h =
    elim (in_background v) as (λ b. cond b ran (Err kind.NotInBackground) ≡ Ok what → IsRun what) [
      | true ↦ λ h. subst IsRun (given_same (Run made.call) what ran refl h) tt
      | false ↦ λ h. absurd (cc)
    ] h
  where
    ran : Result What ScriptKind
    ran = Ok (Run made.call)

verb_runs : (found : Option Verb) (words : List (List ℕ)) (what : What) → verb_made_aside found words ≡ Ok what → IsRun what
verb_runs None words what h = absurd (cc)
verb_runs (Some v) words what h = made_runs v (made_of v words) what h

-- what is behind `&` is a system call
aside_runs : (words : List (List ℕ)) (what : What) → aside_what words ≡ Ok what → IsRun what
aside_runs [] what h = absurd (cc)
aside_runs (word ∷ words) what h =
    elim (bytes_eq word (codes "guest") || bytes_eq word (codes "fork")) as (λ b. cond b (Err (child_aside words)) (cond (bytes_eq word (codes "exec") || bytes_eq word (codes "join")) (Err (only_aside words)) (verb_aside word words)) ≡ Ok what → IsRun what) [
      | true ↦ λ h. absurd (cc)
      | false ↦ λ h. elim (bytes_eq word (codes "exec") || bytes_eq word (codes "join")) as (λ b. cond b (Err (only_aside words)) (verb_aside word words) ≡ Ok what → IsRun what) [
        | true ↦ λ h. absurd (cc)
        | false ↦ λ h. verb_runs (verb_of word) words what h
      ] h
    ] h

fine_line : (names : List (List ℕ)) (ss : List Section) (at : ℕ) (word : List ℕ) (words : List (List ℕ)) (what : What) → what_of names ss (word ∷ words) ≡ Ok what → IsFine (line_of at (word ∷ words) what)
fine_line names ss at word words what e b = aside_runs words what (ap (λ (c : Bool). cond c (aside_what words) (line_what names ss (word ∷ words))) (sym b) ∙ e)

-- what a new section keeps
abbrev pub Pushes : (List Section → Type 0) → Type 0
Pushes P = (ss : List Section) (name : List ℕ) (at : ℕ) → is_name name ≡ true → is_taken ss name ≡ false → P ss → P (ss ++ record { name = name; at = at; lines = [] } ∷ [])

-- what a line more keeps
abbrev pub Adds : (List Section → Type 0) → Type 0
Adds P = (ss : List Section) (line : Line) → IsFine line → HasProperCall line → P ss → P (add_line ss line)

guest_keeps : (P : List Section → Type 0) → Pushes P → (ss : List Section) (at : ℕ) (words : List (List ℕ)) (new : List Section) → guest_step ss at words ≡ Ok new → P ss → P new
guest_keeps P push ss at [] new h p = absurd (cc)
guest_keeps P push ss at (a ∷ b ∷ words) new h p = absurd (cc)
guest_keeps P push ss at (name ∷ []) new h p =
    elim (is_name name) as (λ b. is_name name ≡ b → cond (not b) (Err kind.BadName) (cond (is_taken ss name) (Err kind.GuestTwice) pushed) ≡ Ok new → P new) [
      | false ↦ λ n h. absurd (cc)
      | true ↦ λ n h. elim (is_taken ss name) as (λ c. is_taken ss name ≡ c → cond c (Err kind.GuestTwice) pushed ≡ Ok new → P new) [
        | true ↦ λ e h. absurd (cc)
        | false ↦ λ e h. subst P (given_same more new pushed refl h) (push ss name at n e p)
      ] refl h
    ] refl h
  where
    more : List Section
    more = ss ++ record { name = name; at = at; lines = [] } ∷ []

    pushed : Result (List Section) ScriptKind
    pushed = Ok more

what_keeps : (P : List Section → Type 0) → Adds P → (names : List (List ℕ)) (ss : List Section) (at : ℕ) (word : List ℕ) (words : List (List ℕ)) (new : List Section) (r : Result What ScriptKind) → what_of names ss (word ∷ words) ≡ r → what_step ss at (word ∷ words) r ≡ Ok new → P ss → P new
what_keeps P add names ss at word words new (Err e1) e h p = absurd (cc)
what_keeps P add names ss at word words new (Ok what) e h p = subst P (given_same (add_line ss (line_of at (word ∷ words) what)) new added refl h) (add ss (line_of at (word ∷ words) what) (fine_line names ss at word words what e) (proper_line names ss at word words what e) p)
  where
    added : Result (List Section) ScriptKind
    added = Ok (add_line ss (line_of at (word ∷ words) what))

words_keep : (P : List Section → Type 0) → Pushes P → Adds P → (names : List (List ℕ)) (ss : List Section) (at : ℕ) (words : List (List ℕ)) (new : List Section) → words_step names ss at words ≡ Ok new → P ss → P new
words_keep P push add names ss at [] new h p = subst P (given_same ss new (words_step names ss at []) refl h) p
words_keep P push add names ss at (word ∷ words) new h p =
    elim (bytes_eq word (codes "guest")) as (λ b. cond b (guest_step ss at words) (cond (length ss == 0) (Err kind.NoGuest) (what_step ss at (word ∷ words) (what_of names ss (word ∷ words)))) ≡ Ok new → P new) [
      | true ↦ λ h. guest_keeps P push ss at words new h p
      | false ↦ λ h. elim (length ss == 0) as (λ c. cond c (Err kind.NoGuest) (what_step ss at (word ∷ words) (what_of names ss (word ∷ words))) ≡ Ok new → P new) [
        | true ↦ λ h. absurd (cc)
        | false ↦ λ h. what_keeps P add names ss at word words new (what_of names ss (word ∷ words)) refl h p
      ] h
    ] h

step_keeps : (P : List Section → Type 0) → Pushes P → Adds P → (names : List (List ℕ)) (ss : List Section) (at : ℕ) (line : List ℕ) (new : List Section) → step names ss at line ≡ Ok new → P ss → P new
unfolding step
step_keeps P push add names ss at line new h p =
    elim (is_printed line) as (λ b. cond (not b) (Err kind.BadByte) (cond (slice_index line 0 == 35) ignored (words_step names ss at (words_of line))) ≡ Ok new → P new) [
      | false ↦ λ h. absurd (cc)
      | true ↦ λ h. elim (slice_index line 0 == 35) as (λ c. cond c ignored (words_step names ss at (words_of line)) ≡ Ok new → P new) [
        | true ↦ λ h. subst P (given_same ss new ignored refl h) p
        | false ↦ λ h. words_keep P push add names ss at (words_of line) new h p
      ] h
    ] h
  where
    ignored : Result (List Section) ScriptKind
    ignored = Ok ss

steps_keep : (P : List Section → Type 0) → Pushes P → Adds P → (names : List (List ℕ)) (ss : List Section) (at : ℕ) (lines : List (List ℕ)) (new : List Section) → steps names ss at lines ≡ Ok new → P ss → P new
steps_keep P push add names ss at [] new h p = subst P (given_same ss new (steps names ss at []) refl h) p
steps_keep P push add names ss at (line ∷ lines) new h p = by_step (step names ss at line) refl (λ more. steps_keep P push add names more (at + 1) lines new) h
  where
    by_step : (r : Result (List Section) ScriptKind) → step names ss at line ≡ r → ((more : List Section) → steps names more (at + 1) lines ≡ Ok new → P more → P new) → next at r (λ more. steps names more (at + 1) lines) ≡ Ok new → P new
    by_step (Err e1) e rec h = absurd (cc)
    by_step (Ok more) e rec h = rec more h (step_keeps P push add names ss at line more e p)

pub circle_free : (r : Result (List Section) ScriptFault) (script : List Section) → uncircled r ≡ Ok script → r ≡ Ok script
circle_free (Err e1) script h = absurd (cc)
circle_free (Ok ss) script h =
    elim (has_circle ss) as (λ b. cond b (Err (whole_fault kind.Circle)) sound ≡ Ok script → sound ≡ Ok script) [
      | true ↦ λ h. absurd (cc)
      | false ↦ λ h. h
    ] h
  where
    sound : Result (List Section) ScriptFault
    sound = Ok ss

-- a property of no sections that a new one and a line more keep holds of every script
pub script_keeps : (P : List Section → Type 0) → P [] → Pushes P → Adds P → (text : List ℕ) (script : List Section) → script_of text ≡ Ok script → P script
script_keeps P none push add text script h =
    elim (is_too_long text) as (λ b. cond b (Err (whole_fault kind.TooLong)) (uncircled read) ≡ Ok script → P script) [
      | true ↦ λ h. absurd (cc)
      | false ↦ λ h. steps_keep P push add (names_of (lines_of text)) [] 1 (lines_of text) script (circle_free read script h) none
    ] h
  where
    read : Result (List Section) ScriptFault
    read = steps (names_of (lines_of text)) [] 1 (lines_of text)
