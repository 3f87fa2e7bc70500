use Rattle.std.proofs.Common.{◌≡◌, drop}
use Rattle.hijack_rules.specs.Items.{value_of}
use Rattle.hijack_rules.proofs.items.value_of.Given as goal

abbrev pub invariant-loop-item : goal.invariant-loop-item
invariant-loop-item l = value_of l.key (drop l.item-index l.items) ≡ value_of l.key l.items
