use Rattle.hijack_split.proofs.NamingLaws.{exec_keeps, exec_leaves, exec_takes}
use Rattle.hijack_split.proofs.laws.exec_takes_marked_aliases.Goals as goal

pub returns : goal.returns
returns c = record { taken = exec_takes; kept = exec_keeps; others = exec_leaves }
