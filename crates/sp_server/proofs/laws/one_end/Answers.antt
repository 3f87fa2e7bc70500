use Rattle.sp_server.proofs.EndLaws.{one_end}
use Rattle.sp_server.proofs.laws.one_end.Goals as goal

pub returns-clause-end : goal.returns-clause-end
returns-clause-end c = λ a b input salts text more refused all da db ea eb. (one_end a b input salts text more refused all da db ea eb).0

pub returns-clause-text : goal.returns-clause-text
returns-clause-text c = λ a b input salts text more refused all da db ea eb. (one_end a b input salts text more refused all da db ea eb).1
