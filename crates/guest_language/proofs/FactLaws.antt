-- Names are distinct, and background lines are calls.
use Rattle.std.proofs.Common.{◌≡◌, ℕ, zero, suc, ◌-◌, ◌||◌, Bool, true, false, List, [], ◌∷◌, ◌++◌, length, map, set, get_or, refl, ap, sym, subst}
use Rattle.std.specs.List.{AllByRecursion}
use Rattle.std.specs.Str.{bytes_eq}
use Rattle.std.proofs.lemmas.Slice.Eq.{bytes_eq-Decides}
use Rattle.guest_language.specs.declared.script.Line.{Line}
use Rattle.guest_language.specs.declared.script.Section.{Section}
use Rattle.guest_language.specs.Facts.{AreDistinct, HasFineLines, HasOwnNames, HasProperCall, IsFine}
use Rattle.guest_language.specs.Names.{is_name}
use Rattle.guest_language.specs.Sections.{add_line, is_taken, no_section, with_line}

pub push_all : {X : Type 0} (P : X → Type 0) (xs : List X) (x : X) → AllByRecursion P xs → P x → AllByRecursion P (xs ++ x ∷ [])
push_all P [] x all one = (one, tt)
push_all P (y ∷ ys) x all one = (all.0, push_all P ys x all.1 one)

-- what a section keeps with one line more, in the section at a place
pub section_more : (P : Section → Type 0) (ss : List Section) (i : ℕ) (line : Line) → ((s : Section) → P s → P (with_line s line)) → AllByRecursion P ss → AllByRecursion P (set ss i (with_line (get_or ss i no_section) line))
section_more P [] i line more h = tt
section_more P (s ∷ ss) zero line more h = (more s h.0, h.1)
section_more P (s ∷ ss) (suc i) line more h = (h.0, section_more P ss i line more h.1)

pub fine_push : (ss : List Section) (name : List ℕ) (at : ℕ) → is_name name ≡ true → is_taken ss name ≡ false → HasFineLines ss → HasFineLines (ss ++ record { name = name; at = at; lines = [] } ∷ [])
fine_push ss name at n t h = push_all (λ (section : Section). AllByRecursion IsFine section.lines) ss (record { name = name; at = at; lines = [] }) h tt

pub fine_add : (ss : List Section) (line : Line) → IsFine line → HasProperCall line → HasFineLines ss → HasFineLines (add_line ss line)
fine_add ss line f p h = section_more (λ (section : Section). AllByRecursion IsFine section.lines) ss (length ss - 1) line (λ s own. push_all IsFine s.lines line own f) h

same_names : (ss : List Section) (i : ℕ) (line : Line) → map (λ (section : Section). section.name) (set ss i (with_line (get_or ss i no_section) line)) ≡ map (λ (section : Section). section.name) ss
same_names [] i line = refl
same_names (s ∷ ss) zero line = refl
same_names (s ∷ ss) (suc i) line = ap (λ (names : List (List ℕ)). s.name ∷ names) (same_names ss i line)

pub own_add : (ss : List Section) (line : Line) → IsFine line → HasProperCall line → HasOwnNames ss → HasOwnNames (add_line ss line)
own_add ss line f p h = subst AreDistinct (sym (same_names ss (length ss - 1) line)) h

distinct_push : (names : List (List ℕ)) (name : List ℕ) → AllByRecursion (λ other. other ≡ name → ⊥) names → AreDistinct names → AreDistinct (names ++ name ∷ [])
distinct_push [] name new h = (tt, tt)
distinct_push (first ∷ names) name new h = (push_all (λ (other : List ℕ). other ≡ first → ⊥) names name h.0 (λ e. new.0 (sym e)), distinct_push names name new.1 h.1)

both_false : (a b : Bool) → (a || b) ≡ false → (a ≡ false) × (b ≡ false)
both_false true b h = absurd (cc)
both_false false b h = (refl, h)

not_equal : (xs ys : List ℕ) → bytes_eq xs ys ≡ false → xs ≡ ys → ⊥
not_equal xs ys f e = let t : bytes_eq xs ys ≡ true = (bytes_eq-Decides xs ys).1 e in absurd (cc)

not_taken : (ss : List Section) (name : List ℕ) → is_taken ss name ≡ false → AllByRecursion (λ other. other ≡ name → ⊥) (map (λ (section : Section). section.name) ss)
not_taken [] name h = tt
not_taken (s ∷ ss) name h =
    let both = both_false (bytes_eq s.name name) (is_taken ss name) h in
    (not_equal s.name name both.0, not_taken ss name both.1)

names_push : (ss : List Section) (s : Section) → map (λ (section : Section). section.name) (ss ++ s ∷ []) ≡ map (λ (section : Section). section.name) ss ++ s.name ∷ []
names_push [] s = refl
names_push (x ∷ ss) s = ap (λ (names : List (List ℕ)). x.name ∷ names) (names_push ss s)

pub own_push : (ss : List Section) (name : List ℕ) (at : ℕ) → is_name name ≡ true → is_taken ss name ≡ false → HasOwnNames ss → HasOwnNames (ss ++ record { name = name; at = at; lines = [] } ∷ [])
own_push ss name at n t h = subst AreDistinct (sym (names_push ss (record { name = name; at = at; lines = [] }))) (distinct_push (map (λ (section : Section). section.name) ss) name (not_taken ss name t) h)
