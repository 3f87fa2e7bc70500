use Rattle.hub_model.proofs.Sound.{plays_sound}
use Rattle.hub_model.proofs.laws.events_keep_what_holds.Goals as goal

pub returns : goal.returns
returns c = plays_sound
