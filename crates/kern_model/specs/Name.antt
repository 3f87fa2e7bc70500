-- Paths, and what stands under each.
use Rattle.std.specs.Prelude.{ℕ, ◌-◌, ◌==◌, ◌++◌, slice_index, nat_lt, Bool, false, List, [], ◌∷◌, length, map, Option, None, Some, find, filter, if◌then◌else◌}
use Rattle.std.specs.Ordering.{nat_cmp, eq_by_cmp}
use Rattle.std.specs.declared.cmp.Ordering.{Ordering}
use Rattle.std.specs.Cmp.Lexicographic.{slice_cmp}
use Rattle.std.specs.List.{list_any, slice_split}
use Rattle.std.specs.Option.{option_map}
use Rattle.std.specs.FinMap.{FinMap, entries, from_entries}

-- an absolute path: its components, the last one first; the root's has none
abbrev pub Path : Type 0
Path = List (List ℕ)

-- the order of paths
abbrev pub path_cmp : Path → Path → Ordering
path_cmp = slice_cmp (slice_cmp nat_cmp)

-- the nodes by their absolute paths
abbrev pub Names : Type 0
Names = FinMap path_cmp ℕ

-- two paths are the same
abbrev pub is_same_path : Path → Path → Bool
is_same_path p q = eq_by_cmp path_cmp p q

-- a component spells these bytes
abbrev pub is_spelled : List ℕ → List ℕ → Bool
is_spelled component bytes = eq_by_cmp (slice_cmp nat_cmp) component bytes

-- the directory that a path stands in; the root's is the root
abbrev pub parent : Path → Path
parent [] = []
parent (component ∷ path) = path

-- how many paths name a node
abbrev pub name_count : Names → ℕ → ℕ
name_count names node = length (filter (λ e. e.1 == node) (entries names))

-- the path of a directory, which has one
abbrev pub path_of : Names → ℕ → Option Path
path_of names node = option_map (λ e. e.0) (find (λ e. e.1 == node) (entries names))

-- a path stands right in a directory
abbrev pub is_in : Path → Path → Bool
is_in directory [] = false
is_in directory (component ∷ path) = is_same_path path directory

-- something stands in a directory
abbrev pub has_entries : Names → Path → Bool
has_entries names directory = list_any (λ e. is_in directory e.0) (entries names)

-- what stands before `top` in a path that is `top` or below it
abbrev pub below : Path → Path → Option Path
below [] top = if is_same_path [] top then Some [] else None
below (component ∷ path) top = if is_same_path (component ∷ path) top then Some [] else option_map (λ rest. component ∷ rest) (below path top)

-- a path where it is no longer below `old` but below `new`
abbrev pub moved_by : Path → Path → Option Path → Path
moved_by path new None = path
moved_by path new (Some rest) = rest ++ new

-- entries, each under the path that it has once what was `old` is `new`
abbrev pub moved_entries : Path → Path → List (Path × ℕ) → List (Path × ℕ)
moved_entries old new es = map (λ e. (moved_by e.0 new (below e.0 old), e.1)) es

-- a rename changes the key of `old` and of every path below it
abbrev pub renamed : Names → Path → Path → Names
renamed names old new = from_entries (moved_entries old new (entries names))

-- the components of a path's text: what stands between slashes
abbrev pub components : List ℕ → List (List ℕ)
components text = filter (λ component. nat_lt 0 (length component)) (slice_split (λ b. b == 47) text)

-- the first byte is a slash
abbrev pub begins_with_slash : List ℕ → Bool
begins_with_slash text = slice_index text 0 == 47

-- the last byte is a slash
abbrev pub ends_with_slash : List ℕ → Bool
ends_with_slash text = slice_index text (length text - 1) == 47
