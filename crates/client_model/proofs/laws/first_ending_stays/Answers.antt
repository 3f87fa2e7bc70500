use Rattle.client_model.proofs.Talk.{ending_stays, plays_goes}
use Rattle.client_model.proofs.laws.first_ending_stays.Goals as goal

pub returns-clause-event : goal.returns-clause-event
returns-clause-event c = λ old new event answer ending plays. (plays_goes old event answer new plays).ending ending

pub returns-clause-run : goal.returns-clause-run
returns-clause-run c = ending_stays
