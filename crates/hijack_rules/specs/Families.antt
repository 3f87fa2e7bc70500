-- Which kernel the sockets of each family belong to.
use Rattle.std.specs.Prelude.{Bool, ℕ, ◌||◌, ◌++◌, List, None, Option, Some, codes, fold, if◌then◌else◌, is_some, unwrap_or}
use Rattle.std.specs.Str.{bytes_eq}
use Rattle.hijack_rules.specs.declared.families.Family.{Family}
use Rattle.hijack_rules.specs.declared.families.Family.TheVariants.{Inet, Local}
use Rattle.hijack_rules.specs.declared.names.SideName.{SideName}
use Rattle.hijack_rules.specs.declared.names.SideName.TheVariants.{Host, Rump}

-- a family's name
abbrev pub family_name : Family → List ℕ
family_name Local = codes "local"
family_name Inet = codes "inet"

-- the word that gives a family to the host
abbrev pub no_family_name : Family → List ℕ
no_family_name Local = codes "nolocal"
no_family_name Inet = codes "noinet"

-- what a word says of a family, if it says anything
unfoldable pub said_of : Family → List ℕ → Option SideName
said_of family word =
    if bytes_eq word (codes "all") then Some Rump
    else if bytes_eq word (codes "none") then Some Host
    else if bytes_eq word (family_name family) then Some Rump
    else if bytes_eq word (no_family_name family) then Some Host
    else None

-- a word that says something of a family
abbrev pub is_family_word : List ℕ → Bool
is_family_word word = is_some (said_of Local word) || is_some (said_of Inet word)

-- the side after a word: what it says, or else the side before it
abbrev pub side_after : Family → SideName → List ℕ → SideName
side_after family side word = unwrap_or (said_of family word) side

-- the side of a family, which is the host's at first: the last word that says something of it decides
abbrev pub side_by : Family → List (List ℕ) → SideName
side_by family words = fold (side_after family) Host words
