use Rattle.client_model.proofs.Lent.{back_changes, open_changes, refused_same}
use Rattle.client_model.proofs.laws.memory_changes_where_allowed.Goals as goal

pub returns-clause-open : goal.returns-clause-open
returns-clause-open c = open_changes

pub returns-clause-collected : goal.returns-clause-collected
returns-clause-collected c = back_changes

pub returns-clause-refused : goal.returns-clause-refused
returns-clause-refused c = refused_same
