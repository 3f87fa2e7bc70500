use Rattle.rump_sp.proofs.ShownLaws.{one_shown}
use Rattle.rump_sp.proofs.laws.one_shown.Goals as goal

pub returns : goal.returns
returns c = one_shown
