use Rattle.client_model.proofs.Talk.{plays_goes}
use Rattle.client_model.proofs.laws.refusals_change_nothing.Goals as goal

pub returns : goal.returns
returns c = λ old new event answer plays. (plays_goes old event answer new plays).refusal
