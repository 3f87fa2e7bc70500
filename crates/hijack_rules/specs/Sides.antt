-- Which kernel a path, or a socket's family, goes to.
use Rattle.std.specs.Prelude.{Bool, true, ℕ, ◌==◌, ◌&&◌, List, None, Option, Some, if◌then◌else◌, length, nat_eq, slice_index}
use Rattle.std.specs.List.{list_any, starts_with}
use Rattle.std.specs.Str.{bytes_eq}
use Rattle.hijack_rules.specs.declared.names.Routed.{Routed}
use Rattle.hijack_rules.specs.declared.names.Routed.TheVariants as routed
use Rattle.hijack_rules.specs.declared.names.SideName.{SideName}
use Rattle.hijack_rules.specs.declared.names.SideName.TheVariants.{Host, Rump}
use Rattle.hijack_rules.specs.declared.offset.TheConstants.{DEFAULT_OFFSET}
use Rattle.hijack_rules.specs.declared.rules.Division.{Division}
use Rattle.hijack_rules.specs.declared.rules.Rules.{Rules}
use Rattle.hijack_rules.specs.declared.rules.Rules.TheVariants.{Divided, Raw}

-- a path lies below a directory: behind the directory's name comes a `/`
unfoldable pub is_below : List ℕ → List ℕ → Bool
is_below path dir = starts_with nat_eq path dir && (slice_index path (length dir) == 47)

-- a path is a directory, or lies below it
unfoldable pub is_in : List ℕ → List ℕ → Bool
is_in path dir = if bytes_eq path dir then true else is_below path dir

-- a path that goes whole to a side
abbrev pub whole_to : SideName → Routed
whole_to Rump = routed.Rump 0
whole_to Host = routed.Host

-- a path goes whole to the rump kernel if it lies in one of these directories, else to the host
abbrev pub blanket_side : List (List ℕ) → List ℕ → Routed
blanket_side dirs path = if list_any (is_in path) dirs then routed.Rump 0 else routed.Host

-- a path that begins with `/`: the directory of `path=` is the rump kernel's root, and is cut off what lies below it
abbrev pub absolute_side : Option (List ℕ) → List (List ℕ) → List ℕ → Routed
absolute_side None blanket path = blanket_side blanket path
absolute_side (Some dir) blanket path =
    if bytes_eq path dir then routed.RumpRoot
    else if is_below path dir then routed.Rump (length dir)
    else blanket_side blanket path

-- where a path goes, with the side of the working directory: under raw rules whole to the rump kernel
abbrev pub path_side : Rules → SideName → List ℕ → Routed
path_side Raw cwd path = routed.Rump 0
path_side (Divided division) cwd path =
    if slice_index path 0 == 47 then absolute_side division.path division.blanket path
    else whole_to cwd

-- where a socket of a family goes: under raw rules to the rump kernel, and by the rules if the family is local (1) or inet (2)
abbrev pub socket_side : Rules → ℕ → SideName
socket_side Raw family = Rump
socket_side (Divided division) family =
    if family == 1 then division.local else if family == 2 then division.inet else Host

-- the first number of the rump kernel's descriptors
abbrev pub offset_of : Rules → ℕ
offset_of Raw = DEFAULT_OFFSET
offset_of (Divided division) = division.offset
