-- The rules that a text is.
use Rattle.std.specs.Prelude.{◌≡◌, ℕ, ◌<◌, Err, List, None, Ok, Result, Some, [], unwrap_or}
use Rattle.std.specs.Option.{option_map_or}
use Rattle.script_words.specs.Pieces.{pieces_of}
use Rattle.script_words.specs.Steps.{◌>>=◌}
use Rattle.hijack_rules.specs.Families.{side_by}
use Rattle.hijack_rules.specs.Faults.{fault_at}
use Rattle.hijack_rules.specs.Items.{items_of, value_of}
use Rattle.hijack_rules.specs.Offsets.{offset_of}
use Rattle.hijack_rules.specs.declared.families.Family.TheVariants.{Inet, Local}
use Rattle.hijack_rules.specs.declared.items.Key.{Key}
use Rattle.hijack_rules.specs.declared.items.Key.TheVariants as key
use Rattle.hijack_rules.specs.declared.names.RuleFault.{RuleFault}
use Rattle.hijack_rules.specs.declared.offset.TheConstants.{DEFAULT_OFFSET}
use Rattle.hijack_rules.specs.declared.rules.Division.{Division}
use Rattle.hijack_rules.specs.declared.rules.Rules.{Rules}
use Rattle.hijack_rules.specs.declared.rules.Rules.TheVariants.{Divided}

-- the members of the list that the item of a key says; none where there is no such item
abbrev pub members_of : Key → List (List ℕ) → List (List ℕ)
members_of key items = option_map_or (pieces_of 58) (value_of key items) []

-- the offset that items say, 128 where they say none
abbrev pub offset_by : List (List ℕ) → ℕ
offset_by items = unwrap_or (value_of key.Offset items >>= offset_of) DEFAULT_OFFSET

-- what items say, each of its key
abbrev pub division_by : List (List ℕ) → Division
division_by items = record {
  path = value_of key.Path items;
  blanket = members_of key.Blanket items;
  local = side_by Local (members_of key.Socket items);
  inet = side_by Inet (members_of key.Socket items);
  offset = offset_by items;
}

-- no item has a fault, and the rules are what the items say
pub record AreRulesOf (items : List (List ℕ)) (rules : Rules) : Type 0 where
  pub sound : (i : ℕ) → fault_at items i ≡ None
  pub say : rules ≡ Divided (division_by items)

-- a fault is that of an item, and no earlier item has one
pub record IsFirstFault (items : List (List ℕ)) (why : RuleFault) : Type 0 where
  pub at : ℕ
  pub here : fault_at items at ≡ Some why
  pub first : (i : ℕ) → i < at → fault_at items i ≡ None

-- what a text is read as: rules, or the first fault
abbrev pub IsReadAs : List ℕ → Result Rules RuleFault → Type 0
IsReadAs text (Ok rules) = AreRulesOf (items_of text) rules
IsReadAs text (Err why) = IsFirstFault (items_of text) why
