-- A view as a text.
use Rattle.std.specs.Prelude.{Bool, true, false, ℕ, ◌+◌, ◌-◌, ◌^◌, ◌==◌, ◌&&◌, ◌<◌, ◌≤◌, ◌≡◌, ◌++◌, List, [], ◌∷◌, None, Option, Some, codes, if◌then◌else◌, length, nat_le, nat_lt, not, replicate, slice_index, slice_set, take}
use Rattle.std.specs.Fmt.{decimal}
use Rattle.std.specs.Str.{bytes_eq}
use Rattle.script_words.specs.Numbers.{numeral}
use Rattle.script_words.specs.Pieces.{pieces_of}
use Rattle.script_words.specs.Steps.{◌>>=◌}
use Rattle.hijack_rules.specs.Offsets.{as_offset}
use Rattle.hijack_rules.specs.declared.names.SideName.{SideName}
use Rattle.hijack_rules.specs.declared.names.SideName.TheVariants.{Host, Rump}
use Rattle.hijack_rules.specs.declared.offset.TheConstants.{HIGHEST_OFFSET, LOWEST_OFFSET}
use Rattle.hijack_split.specs.View.{Naming}
use Rattle.hijack_split.specs.declared.change.Alias.{Alias}

-- ---- the text of a view

-- a side's name
abbrev pub side_text : SideName → List ℕ
side_text Rump = codes "rump"
side_text Host = codes "host"

-- `+` behind an alias that has the flag
abbrev pub flag_text : Bool → List ℕ
flag_text flag = if flag then codes "+" else []

-- a descriptor and its alias: `,G=R`, and `+` where the flag is set
unfoldable pub row_text : ℕ → Alias → List ℕ
row_text g alias = codes "," ++ decimal g ++ codes "=" ++ decimal alias.rump ++ flag_text alias.cloexec

-- the aliases of the descriptors from g on, in rising order
abbrev pub rows_text : ℕ → List (Option Alias) → List ℕ
rows_text g [] = []
rows_text g (None ∷ aliases) = rows_text (g + 1) aliases
rows_text g (Some alias ∷ aliases) = row_text g alias ++ rows_text (g + 1) aliases

-- the offset, the side of the working directory, and the aliases
unfoldable pub view_text : Naming → List ℕ
view_text v = decimal v.offset ++ codes "," ++ side_text v.cwd ++ rows_text 0 v.aliases

-- ---- the view of a text

-- the number that a word writes in decimal digits without leading zeros, where it is below 2^64
unfoldable pub plain_number : List ℕ → Option ℕ
plain_number [] = None
plain_number (c ∷ cs) = if (c == 48) && not (length cs == 0) then None else numeral 10 (c ∷ cs)

-- the side of this name
unfoldable pub side_of : List ℕ → Option SideName
side_of word = if bytes_eq word (codes "rump") then Some Rump else if bytes_eq word (codes "host") then Some Host else None

-- the offset that a word writes
unfoldable pub plain_offset : List ℕ → Option ℕ
plain_offset word = plain_number word >>= as_offset

-- a rump descriptor, with `+` behind it where the flag is set
unfoldable pub alias_of : List ℕ → Option Alias
alias_of word =
    if slice_index word (length word - 1) == 43
    then plain_number (take (length word - 1) word) >>= (λ r. Some (record { rump = r; cloexec = true }))
    else plain_number word >>= (λ r. Some (record { rump = r; cloexec = false }))

-- a descriptor and its alias, by what stands before and behind the one `=`
abbrev pub row_by : List (List ℕ) → Option (ℕ × Alias)
row_by (g ∷ r ∷ []) = plain_number g >>= (λ fd. alias_of r >>= (λ alias. Some (fd, alias)))
row_by _ = None

-- a descriptor and its alias
unfoldable pub row_of : List ℕ → Option (ℕ × Alias)
row_of piece = row_by (pieces_of 61 piece)

-- a row set into the aliases, where its descriptor is below 32 and not below `least`: the least descriptor that may follow, and the aliases
abbrev pub row_set : ℕ → List (Option Alias) → Option (ℕ × Alias) → Option (ℕ × List (Option Alias))
row_set least aliases None = None
row_set least aliases (Some row) =
    if nat_le least row.0 && nat_lt row.0 32 then Some (row.0 + 1, slice_set aliases row.0 (Some row.1)) else None

-- the aliases with these rows, each above the one before
abbrev pub rows_set : ℕ → List (Option Alias) → List (List ℕ) → Option (List (Option Alias))
rows_set least aliases [] = Some aliases
rows_set least aliases (piece ∷ pieces) = row_set least aliases (row_of piece) >>= (λ set. rows_set set.0 set.1 pieces)

-- the view of an offset, a side and rows
abbrev pub view_by : List (List ℕ) → Option Naming
view_by (offset ∷ cwd ∷ rows) = plain_offset offset >>= (λ n. side_of cwd >>= (λ side. rows_set 0 (replicate 32 None) rows >>= (λ aliases. Some (record { offset = n; cwd = side; aliases = aliases }))))
view_by _ = None

-- the view that a text is
abbrev pub view_of : List ℕ → Option Naming
view_of text = view_by (pieces_of 44 text)

-- ---- which views have a text

-- all rump descriptors are below 2^64
abbrev pub AreRumps : List (Option Alias) → Type 0
AreRumps [] = Unit {0}
AreRumps (None ∷ aliases) = AreRumps aliases
AreRumps (Some alias ∷ aliases) = (alias.rump < 2 ^ 64) × AreRumps aliases

-- a view that a text can say: each number is one that there is
pub record IsSpelled (v : Naming) : Type 0 where
  pub low : LOWEST_OFFSET ≤ v.offset
  pub high : v.offset ≤ HIGHEST_OFFSET
  pub full : length v.aliases ≡ 32
  pub rumps : AreRumps v.aliases

-- ---- reading a text row by row

-- what a row was set into, by the least descriptor that may follow
abbrev pub set_by : Option ℕ → List (Option Alias) → Option (ℕ × List (Option Alias))
set_by None aliases = None
set_by (Some least) aliases = Some (least, aliases)
