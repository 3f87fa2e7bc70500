use Rattle.std.proofs.Common.{ap, ◌∙◌}
use Rattle.std.specs.FinMap as map
use Rattle.tables.proofs.Entries.{inserted, now_there, again}
use Rattle.tables.proofs.table.Table.insert.Goals as goal

ok : goal.returns-clause-ok
ok g c = inserted c.self.inside.items.entries c.insert.new.self.entries c.args.key c.args.value c.in_ok-insert.ensures.updates.0 ∙ ap (λ m. map.insert m c.args.key c.args.value) c.self.view_is

pub returns-clause-ok : goal.returns-clause-ok
returns-clause-ok g c = ok g c

pub returns-clause-there : goal.returns-clause-there
returns-clause-there g c = now_there c.args.self.now _ c.args.key c.args.value (ok g c)

pub returns-clause-again : goal.returns-clause-again
returns-clause-again g c w = again c.args.self.now _ c.args.key c.args.value w (ok g c)
