use Rattle.hub_model.proofs.Sound.{fresh_sound, plays_sound, runs_sound}
use Rattle.hub_model.specs.State.{fresh_machine}
use Rattle.hub_law.proofs.Runs.{agrees}
use Rattle.hub_law.proofs.laws.server_agrees.Goals as goal

pub returns : goal.returns
returns c = λ version exchanges m run. agrees plays_sound fresh_sound version exchanges m run (runs_sound (fresh_machine version) m exchanges (fresh_sound version) run)
