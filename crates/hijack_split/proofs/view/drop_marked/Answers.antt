use Rattle.std.proofs.Common.{rules, arith}
use Rattle.std.proofs.lemmas.List.Edits.{map_over_more}
use Rattle.hijack_split.specs.View.{kept_by_exec}
use Rattle.hijack_split.proofs.view.drop_marked.Goals as goal

pub loop-i-preserved : goal.loop-i-preserved
loop-i-preserved c = let h = c.kept_by_exec.ensures in let k = c.loop-i-test.true in rw c.kept_by_exec.ensures (map_over_more kept_by_exec c.args.aliases.now c.loop-i.aliases c.loop-i.i _ (grind arith) c.loop-i.invariant (search rules))
