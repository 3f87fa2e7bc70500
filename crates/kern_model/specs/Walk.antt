-- How a path's text is walked.
use Rattle.std.specs.Prelude.{ℕ, ◌==◌, nat_lt, Bool, true, false, List, [], ◌∷◌, length, Option, None, Some, if◌then◌else◌}
use Rattle.std.specs.List.{list_any}
use Rattle.std.specs.FinMap.{get}
use Rattle.sp_base.specs.declared.errno.Errno.{Errno}
use Rattle.sp_base.specs.declared.errno.Errno.TheVariants.{Enoent, Enotdir, Enametoolong}
use Rattle.kern_model.specs.declared.walk.Walked.{Walked}
use Rattle.kern_model.specs.declared.walk.Walked.TheVariants.{Found, Missing, Faulty}
use Rattle.kern_model.specs.Name.{Path, parent, path_of, is_spelled, components, begins_with_slash, ends_with_slash}
use Rattle.kern_model.specs.State.{State, is_directory, directory_of}

-- one dot
abbrev pub is_here : List ℕ → Bool
is_here component = is_spelled component (46 ∷ [])

-- two dots
abbrev pub is_up : List ℕ → Bool
is_up component = is_spelled component (46 ∷ 46 ∷ [])

-- the object under a path that is known to be there
abbrev pub found_at : Path → Option ℕ → Bool → Walked
found_at path None named = Faulty Enoent
found_at path (Some node) named = Found path node named

-- the last component's object, or a missing one; behind a slash an object has to be a directory
abbrev pub last_at : State → Path → Bool → Option ℕ → Walked
last_at s path slash None = Missing path slash
last_at s path true (Some node) = if is_directory s node then Found path node true else Faulty Enotdir
last_at s path false (Some node) = Found path node true

-- the last component, from a directory on
abbrev pub walk_last : State → Path → List ℕ → Bool → Walked
walk_last s path component slash =
    if is_here component then found_at path (get s.names path) false
    else if is_up component then found_at (parent path) (get s.names (parent path)) false
    else last_at s (component ∷ path) slash (get s.names (component ∷ path))

-- whether a component can be walked through: what is missing is ENOENT, what is no directory is ENOTDIR
abbrev pub through : State → Option ℕ → Option Errno
through s None = Some Enoent
through s (Some node) = if is_directory s node then None else Some Enotdir

-- what comes next, unless there is a fault
abbrev pub unless_fault : Option Errno → Walked → Walked
unless_fault None next = next
unless_fault (Some error) next = Faulty error

-- the components from a directory on
abbrev pub walk_from : State → Path → List (List ℕ) → Bool → Walked
walk_from s path [] slash = found_at path (get s.names path) false
walk_from s path (component ∷ []) slash = walk_last s path component slash
walk_from s path (component ∷ rest) slash =
    if is_here component then walk_from s path rest slash
    else if is_up component then walk_from s (parent path) rest slash
    else unless_fault (through s (get s.names (component ∷ path))) (walk_from s (component ∷ path) rest slash)

-- some component has more than 255 bytes
abbrev pub has_long_component : List (List ℕ) → Bool
has_long_component parts = list_any (λ component. nat_lt 255 (length component)) parts

-- the components from the root on, or from the process's working directory on
abbrev pub walk_parts : State → Option Path → List ℕ → Walked
walk_parts s None text = Faulty Enoent
walk_parts s (Some path) text = walk_from s path (components text) (ends_with_slash text)

-- a path's text for a process: an empty one is ENOENT, one with a component that is too long is ENAMETOOLONG
abbrev pub walk : State → ℕ → List ℕ → Walked
walk s pid text =
    if length text == 0 then Faulty Enoent
    else if has_long_component (components text) then Faulty Enametoolong
    else if begins_with_slash text then walk_parts s (Some []) text
    else walk_parts s (path_of s.names (directory_of s pid)) text
