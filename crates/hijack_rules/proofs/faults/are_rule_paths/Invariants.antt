use Rattle.std.proofs.Common.{◌≡◌, drop}
use Rattle.std.specs.List.{list_all}
use Rattle.hijack_rules.specs.Faults.{is_rule_path}
use Rattle.hijack_rules.proofs.faults.are_rule_paths.Given as goal

abbrev pub invariant-loop-path : goal.invariant-loop-path
invariant-loop-path l = list_all is_rule_path (drop l.path-index l.paths) ≡ list_all is_rule_path l.paths
