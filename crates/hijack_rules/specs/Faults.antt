-- What is wrong with an item of RUMPHIJACK.
use Rattle.std.specs.Prelude.{Bool, ℕ, ◌==◌, ◌&&◌, ◌-◌, List, None, Option, Some, if◌then◌else◌, is_some, length, not, slice_get, slice_index, take}
use Rattle.std.specs.List.{list_all}
use Rattle.script_words.specs.Pieces.{pieces_of}
use Rattle.hijack_rules.specs.Families.{is_family_word}
use Rattle.hijack_rules.specs.Items.{is_given, key_of, value_in}
use Rattle.hijack_rules.specs.Offsets.{offset_of}
use Rattle.hijack_rules.specs.declared.items.Key.{Key}
use Rattle.hijack_rules.specs.declared.items.Key.TheVariants.{Blanket, Offset, Path, Socket}
use Rattle.hijack_rules.specs.declared.names.RuleFault.{RuleFault}
use Rattle.hijack_rules.specs.declared.names.RuleFault.TheVariants as fault

-- a path that rules may name: it begins with `/` and doesn't end with it
unfoldable pub is_rule_path : List ℕ → Bool
is_rule_path path = (slice_index path 0 == 47) && not (slice_index path (length path - 1) == 47)

-- a fault, unless all is well
abbrev pub unless : Bool → RuleFault → Option RuleFault
unless well why = if well then None else Some why

-- what is wrong with what an item of a key says
abbrev pub value_fault : Key → List ℕ → Option RuleFault
value_fault Path item = unless (is_rule_path (value_in Path item)) (fault.Path item)
value_fault Blanket item = unless (list_all is_rule_path (pieces_of 58 (value_in Blanket item))) (fault.Path item)
value_fault Socket item = unless (list_all is_family_word (pieces_of 58 (value_in Socket item))) (fault.Family item)
value_fault Offset item = unless (is_some (offset_of (value_in Offset item))) (fault.Offset item)

-- what is wrong with an item of this key behind earlier items
abbrev pub keyed_fault : List (List ℕ) → List ℕ → Option Key → Option RuleFault
keyed_fault earlier item None = Some (fault.Unknown item)
keyed_fault earlier item (Some key) = if is_given key earlier then Some (fault.Twice item) else value_fault key item

-- what is wrong with an item behind earlier items
abbrev pub item_fault : List (List ℕ) → List ℕ → Option RuleFault
item_fault earlier item = keyed_fault earlier item (key_of item)

-- what is wrong with an item, if there is one, behind earlier items
abbrev pub fault_behind : List (List ℕ) → Option (List ℕ) → Option RuleFault
fault_behind earlier None = None
fault_behind earlier (Some item) = item_fault earlier item

-- what is wrong with the item at a place
abbrev pub fault_at : List (List ℕ) → ℕ → Option RuleFault
fault_at items i = fault_behind (take i items) (slice_get items i)
