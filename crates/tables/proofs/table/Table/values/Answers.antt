use Rattle.std.proofs.Common.{ap, sym, ◌∙◌}
use Rattle.std.specs.Prelude.{map}
use Rattle.std.specs.FinMap.{entries}
use Rattle.tables.proofs.Entries.{entries_of}
use Rattle.tables.proofs.table.Table.values.Goals as goal

pub returns-clause-values : goal.returns-clause-values
returns-clause-values g c = c.values.ensures.rest ∙ ap (λ es. map (λ e. e.1) es) (sym (entries_of c.self.inside.items.entries c.values.ensures.ordered) ∙ ap (λ m. entries m) c.self.view_is)
