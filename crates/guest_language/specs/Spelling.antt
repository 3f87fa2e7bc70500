-- A script's text from its parts.
use Rattle.std.specs.Prelude.{ℕ, ◌+◌, ◌-◌, ◌++◌, List, [], ◌∷◌, codes, map, replicate}
use Rattle.std.specs.List.{flat_map, join_with_byte}
use Rattle.guest_language.specs.declared.script.Line.{Line}
use Rattle.guest_language.specs.declared.script.Section.{Section}

-- a line of a text, and its number there
pub record Numbered : Type 0 where
  pub number : ℕ
  pub text : List ℕ

-- the line that begins a section
abbrev pub head_of : Section → Numbered
head_of section = record { number = section.at; text = codes "guest " ++ section.name }

-- a line of a section under its number
abbrev pub numbered : Line → Numbered
numbered line = record { number = line.at; text = line.text }

-- the lines of a section, from the one that names the guest on
abbrev pub section_parts : Section → List Numbered
section_parts section = head_of section ∷ map numbered section.lines

-- the lines of all sections
abbrev pub parts_of : List Section → List Numbered
parts_of sections = flat_map section_parts sections

-- the lines from a number on: each part under its own number, and blank ones between them
abbrev pub lines_at : ℕ → List Numbered → List (List ℕ)
lines_at at [] = []
lines_at at (part ∷ parts) = replicate (part.number - at) [] ++ (part.text ∷ lines_at (part.number + 1) parts)

-- sections as a text, each line under its number; no line end stands behind the last
abbrev pub spelled : List Section → List ℕ
spelled sections = join_with_byte 10 (lines_at 1 (parts_of sections))
