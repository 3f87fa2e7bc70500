use Rattle.std.proofs.Common.{◌≡◌, drop}
use Rattle.std.specs.List.{list_any}
use Rattle.hijack_rules.specs.Items.{is_of}
use Rattle.hijack_rules.proofs.items.is_given.Given as goal

abbrev pub invariant-loop-item : goal.invariant-loop-item
invariant-loop-item l = list_any (is_of l.key) (drop l.item-index l.items) ≡ list_any (is_of l.key) l.items
