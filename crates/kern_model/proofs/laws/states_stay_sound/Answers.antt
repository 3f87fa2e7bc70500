use Rattle.kern_model.proofs.SoundLaws.{act_sound, journal_sound}
use Rattle.kern_model.proofs.laws.states_stay_sound.Goals as goal

pub returns-clause-operation : goal.returns-clause-operation
returns-clause-operation c = act_sound

pub returns-clause-journal : goal.returns-clause-journal
returns-clause-journal c = journal_sound
