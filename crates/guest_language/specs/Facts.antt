-- What holds of every script.
use Rattle.std.specs.Prelude.{◌≡◌, ◌≤◌, ℕ, List, [], ◌∷◌, length, map, true}
use Rattle.std.specs.List.{AllByRecursion}
use Rattle.sp_base.specs.Call.{IsProper}
use Rattle.guest_language.specs.declared.length.TheConstants.{MOST_LINES}
use Rattle.guest_language.specs.declared.script.Line.{Line}
use Rattle.guest_language.specs.declared.script.Section.{Section}
use Rattle.guest_language.specs.declared.script.What.{What}
use Rattle.guest_language.specs.declared.script.What.TheVariants.{Exec, Fork, Join, Run}
use Rattle.guest_language.specs.Names.{is_name}

-- a system call, and neither fork, exec nor join
abbrev pub IsRun : What → Type 0
IsRun (Run call) = Unit {0}
IsRun (Fork child) = ⊥
IsRun Exec = ⊥
IsRun Join = ⊥

-- a line in the background is a system call
abbrev pub IsFine : Line → Type 0
IsFine line = line.background ≡ true → IsRun line.what

-- every line in the background is a system call
abbrev pub HasFineLines : List Section → Type 0
HasFineLines sections = AllByRecursion (λ section. AllByRecursion IsFine section.lines) sections

-- no name comes twice
abbrev pub AreDistinct : List (List ℕ) → Type 0
AreDistinct [] = Unit {0}
AreDistinct (name ∷ names) = AllByRecursion (λ other. other ≡ name → ⊥) names × AreDistinct names

-- no two sections have the same name
abbrev pub HasOwnNames : List Section → Type 0
HasOwnNames sections = AreDistinct (map (λ section. section.name) sections)

-- a call that the table of calls has as such, or no call
abbrev pub IsProperWhat : What → Type 0
IsProperWhat (Run call) = IsProper call
IsProperWhat (Fork child) = Unit {0}
IsProperWhat Exec = Unit {0}
IsProperWhat Join = Unit {0}

-- the call of a line, where it has one, is one that the table of calls has as such
abbrev pub HasProperCall : Line → Type 0
HasProperCall line = IsProperWhat line.what

-- a guest has a guest's name, its calls are proper, and its lines are no more than a script has
pub record IsSoundSection (section : Section) : Type 0 where
  pub named : is_name section.name ≡ true
  pub proper : AllByRecursion HasProperCall section.lines
  pub few : length section.lines ≤ MOST_LINES
