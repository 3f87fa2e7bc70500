-- What a list of names stands for.
use Rattle.std.specs.Prelude.{◌≡◌, ℕ, List, [], ◌∷◌, map}
use Rattle.std.specs.declared.cmp.Ordering.TheVariants.{Equal, Greater}
use Rattle.std.specs.Coded.{Coded, coded_list, coded_ℕ}
use Rattle.std.specs.FinMap.{code, from_sorted}
use Rattle.kern_model.specs.declared.name_map.Name.{Name}
use Rattle.kern_model.specs.Name.{Path, Names, path_cmp}

-- a name as an entry of the map
abbrev pub entry_of : Name → Path × ℕ
entry_of name = (name.path, name.node)

-- the entries of a list of names
abbrev pub list_of : List Name → List (Path × ℕ)
list_of names = map entry_of names

-- the map of which a list of entries, in order, has all
abbrev pub map_of : List (Path × ℕ) → Names
map_of es = from_sorted es

-- the code of the map of names
abbrev pub names_code : Coded Names
names_code = code (coded_list (coded_list coded_ℕ)) coded_ℕ

-- a name stands before a path in the order
abbrev pub IsBefore : Path → Name → Type 0
IsBefore path name = path_cmp path name.path ≡ Greater

-- the names from a path's place on begin with it, or with one that stands behind it
abbrev pub IsAtPlace : Path → List Name → Type 0
IsAtPlace path [] = Unit {0}
IsAtPlace path (name ∷ names) = IsBefore path name → ⊥

-- the first name has this path
abbrev pub IsSame : Path → List Name → Type 0
IsSame path [] = ⊥
IsSame path (name ∷ names) = path_cmp path name.path ≡ Equal

-- the first name, if there is one, has another path
abbrev pub IsOther : Path → List Name → Type 0
IsOther path [] = Unit {0}
IsOther path (name ∷ names) = path_cmp path name.path ≡ Equal → ⊥
