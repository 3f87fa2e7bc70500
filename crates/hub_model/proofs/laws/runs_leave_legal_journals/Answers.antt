use Rattle.hub_model.proofs.Sound.{fresh_sound, runs_sound}
use Rattle.hub_model.specs.State.{fresh_machine}
use Rattle.hub_model.proofs.laws.runs_leave_legal_journals.Goals as goal

pub returns-clause-sound : goal.returns-clause-sound
returns-clause-sound c = λ version exchanges m run. runs_sound (fresh_machine version) m exchanges (fresh_sound version) run

pub returns-clause-legal : goal.returns-clause-legal
returns-clause-legal c = λ version exchanges m run. (runs_sound (fresh_machine version) m exchanges (fresh_sound version) run).legal

pub returns-clause-keys : goal.returns-clause-keys
returns-clause-keys c = λ version exchanges m run. (runs_sound (fresh_machine version) m exchanges (fresh_sound version) run).keys
