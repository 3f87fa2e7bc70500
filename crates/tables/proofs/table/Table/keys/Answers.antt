use Rattle.std.proofs.Common.{ap, sym, ◌∙◌}
use Rattle.std.specs.Prelude.{map}
use Rattle.std.specs.FinMap.{entries}
use Rattle.tables.proofs.Entries.{entries_of}
use Rattle.tables.proofs.table.Table.keys.Goals as goal

pub returns-clause-keys : goal.returns-clause-keys
returns-clause-keys g c = c.keys.ensures.rest ∙ ap (λ es. map (λ e. e.0) es) (sym (entries_of c.self.inside.items.entries c.keys.ensures.ordered) ∙ ap (λ m. entries m) c.self.view_is)
