use Rattle.hub_model.proofs.Closing.{closing_takes_back}
use Rattle.hub_model.proofs.laws.closing_takes_cookies_back.Goals as goal

pub returns : goal.returns
returns c = closing_takes_back
