-- Views: what each of a guest's descriptors names.
use Rattle.std.specs.Prelude.{Bool, false, ℕ, ◌+◌, ◌-◌, ◌==◌, ◌||◌, List, [], ◌∷◌, None, Option, Some, if◌then◌else◌, is_some, map, nat_lt, option_map, replicate, slice_set}
use Rattle.std.specs.List.{list_any}
use Rattle.sp_base.specs.Table.{at}
use Rattle.hijack_rules.specs.Sides.{offset_of}
use Rattle.hijack_rules.specs.declared.names.SideName.{SideName}
use Rattle.hijack_rules.specs.declared.names.SideName.TheVariants as side
use Rattle.hijack_rules.specs.declared.rules.Rules.{Rules}
use Rattle.hijack_split.specs.declared.change.Alias.{Alias}
use Rattle.hijack_split.specs.declared.change.Change.{Change}
use Rattle.hijack_split.specs.declared.change.Change.TheVariants.{Drops, Marks, Sets, Sits, Stays}
use Rattle.hijack_split.specs.declared.change.Named.{Named}
use Rattle.hijack_split.specs.declared.change.Named.TheVariants.{Host, Nothing, Rump}

-- the offset, the side of the working directory, and of each descriptor from 0 to 31 its alias, if it has one
pub record Naming : Type 0 where
  pub offset : ℕ
  pub cwd : SideName
  pub aliases : List (Option Alias)

-- the view of a guest that starts: the rules' offset, the host's side, and no alias
abbrev pub fresh_view : Rules → Naming
fresh_view rules = record { offset = offset_of rules; cwd = side.Host; aliases = replicate 32 None }

-- an alias is of this rump descriptor
abbrev pub is_alias_of : ℕ → Option Alias → Bool
is_alias_of r None = false
is_alias_of r (Some alias) = alias.rump == r

-- some alias holds this rump descriptor
abbrev pub holds : List (Option Alias) → ℕ → Bool
holds aliases r = list_any (is_alias_of r) aliases

-- what a descriptor without an alias names: below the offset the host's of the same number; from there on the rump descriptor that is less by the offset, or nothing where an alias holds that one
abbrev pub unaliased : Naming → ℕ → Named
unaliased v g =
    if nat_lt g v.offset then Host g
    else if holds v.aliases (g - v.offset) then Nothing
    else Rump (g - v.offset)

-- what a descriptor with this alias names
abbrev pub named_by : Naming → ℕ → Option Alias → Named
named_by v g (Some alias) = Rump alias.rump
named_by v g None = unaliased v g

-- what a descriptor of the guest names: its alias's rump descriptor, or else what it names without one
unfoldable pub named : Naming → ℕ → Named
named v g = named_by v g (at v.aliases g)

-- the alias with its flag set or clear
abbrev pub marked : Bool → Alias → Alias
marked on alias = record alias { cloexec = on }

-- the view after a change
abbrev pub changed : Naming → Change → Naming
changed v Stays = v
changed v (Sits side) = record v { cwd = side }
changed v (Marks g on) = record v { aliases = slice_set v.aliases g (option_map (marked on) (at v.aliases g)) }
changed v (Drops g) = record v { aliases = slice_set v.aliases g None }
changed v (Sets g r) = record v { aliases = slice_set v.aliases g (Some (record { rump = r; cloexec = false })) }

-- an alias behind an exec: one with the flag goes
abbrev pub kept_by_exec : Option Alias → Option Alias
kept_by_exec None = None
kept_by_exec (Some alias) = if alias.cloexec then None else Some alias

-- the view behind an exec
abbrev pub after_exec : Naming → Naming
after_exec v = record v { aliases = map kept_by_exec v.aliases }

-- the lowest number above all aliases, by whether the first descriptor is one, and by the lowest number above the later ones, counted from the next descriptor on
abbrev pub above_by : Bool → ℕ → ℕ
above_by first later = if first || nat_lt 0 later then later + 1 else 0

-- the lowest number above all aliases, 0 where there is none
abbrev pub above_all : List (Option Alias) → ℕ
above_all [] = 0
above_all (alias ∷ aliases) = above_by (is_some alias) (above_all aliases)
