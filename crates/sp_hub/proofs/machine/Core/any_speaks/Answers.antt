use Rattle.std.proofs.Common.{ap, sym, ◌∙◌, rules, tests}
use Rattle.std.specs.FinMap.{entries}
use Rattle.std.proofs.lemmas.Iterator.Consumers.{YieldsList-from_rest}
use Rattle.std.proofs.lemmas.Iterator.Search.{any_from_yields_List}
use Rattle.hub_model.specs.Machine.{any_speaks}
use Rattle.hub_model.specs.State.{speaks}
use Rattle.sp_hub.proofs.At.{any_values}
use Rattle.sp_hub.proofs.machine.Core.any_speaks.Goals as goal

pub returns : goal.returns
returns c =
    any_from_yields_List (λ x. speaks x.condition) _ _ c.any.result c.any.ensures.ran (YieldsList-from_rest _ c.values.ensures.values) (λ x b q k. search (rules, tests))
    ∙ sym (any_values (entries c.self.inside.connections)) ∙ ap any_speaks c.self.view_is
