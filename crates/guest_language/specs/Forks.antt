-- Which line forks which guest.
use Rattle.std.specs.Prelude.{ℕ, ◌+◌, Bool, List, None, Option, Some, [], ◌∷◌, false, if◌then◌else◌, slice_get, suc, true}
use Rattle.std.specs.Option.{option_map}
use Rattle.guest_language.specs.declared.script.Line.{Line}
use Rattle.guest_language.specs.declared.script.Parent.{Parent}
use Rattle.guest_language.specs.declared.script.Section.{Section}
use Rattle.guest_language.specs.What.{forks}

-- the place of the line that forks the section of a number
abbrev pub fork_place : ℕ → List Line → Option ℕ
fork_place child [] = None
fork_place child (line ∷ lines) = if forks child line.what then Some 0 else option_map suc (fork_place child lines)

-- a line of the section of this number, or else what comes later
abbrev pub or_parent : ℕ → Option ℕ → Option Parent → Option Parent
or_parent section None later = later
or_parent section (Some line) later = Some (record { section = section; line = line })

-- the line that forks the section of a number, in the sections from number i on
abbrev pub parent_from : ℕ → ℕ → List Section → Option Parent
parent_from child i [] = None
parent_from child i (section ∷ sections) = or_parent i (fork_place child section.lines) (parent_from child (i + 1) sections)

-- the line that forks the section of a number
abbrev pub parent_of : List Section → ℕ → Option Parent
parent_of sections child = parent_from child 0 sections

-- the lines that fork the sections from number i on
abbrev pub parents_from : List Section → ℕ → List Section → List (Option Parent)
parents_from all i [] = []
parents_from all i (section ∷ sections) = parent_of all i ∷ parents_from all (i + 1) sections

-- the line that forks each section, in order
abbrev pub parents_of : List Section → List (Option Parent)
parents_of sections = parents_from sections 0 sections

-- what is held, if anything is
abbrev pub held : {X : Type 0} → Option (Option X) → Option X
held None = None
held (Some inner) = inner

-- the line that forks the section of a number, by the list of such lines
unfoldable pub parent_at : List (Option Parent) → ℕ → Option Parent
parent_at parents at = held (slice_get parents at)

-- goes on from the section of a parent, where there is one
abbrev pub up_from : Option Parent → (ℕ → Bool) → Bool
up_from None go = false
up_from (Some parent) go = go parent.section

-- the way up from a section, from child to parent, has a step for each of these sections
abbrev pub goes_up : List (Option Parent) → List Section → ℕ → Bool
goes_up parents [] at = true
goes_up parents (section ∷ sections) at = up_from (parent_at parents at) (λ next. goes_up parents sections next)

-- the way up from a section has as many steps as there are sections
unfoldable pub goes_round : List (Option Parent) → List Section → ℕ → Bool
goes_round parents all at = goes_up parents all at

-- the way up from one of the sections from number i on has as many steps as there are sections
abbrev pub circle_from : List (Option Parent) → List Section → ℕ → List Section → Bool
circle_from parents all i [] = false
circle_from parents all i (section ∷ sections) = if goes_round parents all i then true else circle_from parents all (i + 1) sections

-- a guest is forked by itself, or by one that it leads to: then the way up from it has no end
abbrev pub has_circle : List Section → Bool
has_circle sections = circle_from (parents_of sections) sections 0 sections
