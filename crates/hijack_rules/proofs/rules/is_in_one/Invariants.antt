use Rattle.std.proofs.Common.{◌≡◌, drop}
use Rattle.std.specs.List.{list_any}
use Rattle.hijack_rules.specs.Sides.{is_in}
use Rattle.hijack_rules.proofs.rules.is_in_one.Given as goal

abbrev pub invariant-loop-dir : goal.invariant-loop-dir
invariant-loop-dir l = list_any (is_in l.path) (drop l.dir-index l.dirs) ≡ list_any (is_in l.path) l.dirs
