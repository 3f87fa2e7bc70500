use Rattle.kern_model.proofs.JournalLaws.{replays}
use Rattle.kern_model.proofs.laws.legal_journals_replay.Goals as goal

pub returns : goal.returns
returns c = replays
