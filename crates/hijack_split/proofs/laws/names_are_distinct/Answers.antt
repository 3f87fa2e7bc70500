use Rattle.hijack_split.proofs.NamingLaws.{distinct_names, drop_keeps_distinct, exec_keeps_distinct, set_keeps_distinct}
use Rattle.hijack_split.proofs.laws.names_are_distinct.Goals as goal

pub returns : goal.returns
returns c = record { names = distinct_names; drops = drop_keeps_distinct; sets = set_keeps_distinct; exec = exec_keeps_distinct }
