use Rattle.std.proofs.Common.{None, Some, false}
use Rattle.hijack_split.proofs.NamingLaws.{dropped_is_host, low_stays, mark_keeps_names, set_is_rump, side_keeps_names}
use Rattle.hijack_split.proofs.laws.changes_rename_one.Goals as goal

pub returns : goal.returns
returns c = record {
  sits = side_keeps_names;
  marks = mark_keeps_names;
  drops = λ v h g. low_stays v h g None;
  sets = λ v h r g. low_stays v h g (Some (record { rump = r; cloexec = false }));
  dropped = dropped_is_host;
  set = set_is_rump;
}
