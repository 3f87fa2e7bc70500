use Rattle.std.proofs.Common.{ap}
use Rattle.kern_local.proofs.ListedLaws.{listed_none}
use Rattle.kern_local.proofs.ledger.Ledger.new.Goals as goal

pub returns : goal.returns
returns g c = ap (λ l. record { items = l; room = 0 }) (listed_none c.new.result)
