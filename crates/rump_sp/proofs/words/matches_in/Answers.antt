use Rattle.rump_sp.specs.Words.{rows_in}
use Rattle.rump_sp.proofs.WordLaws.{both_first}
use Rattle.rump_sp.proofs.words.matches_in.Goals as goal

pub returns-in-Ok-clause-found : goal.returns-in-Ok-clause-found
unfolding rows_in
returns-in-Ok-clause-found g c = (c.in-Ok.ensures.matches (both_first _ _ c.requires)).0
