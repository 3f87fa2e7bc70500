use Rattle.hijack_calls.proofs.EndLaws.{steps_end}
use Rattle.hijack_calls.proofs.laws.calls_have_few_steps.Goals as goal

pub returns : goal.returns
returns c = steps_end
