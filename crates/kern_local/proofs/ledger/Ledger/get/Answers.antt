use Rattle.std.proofs.Common.{◌∙◌, ap, sym, None, get_or}
use Rattle.kern_local.proofs.ListedLaws.{at_any}
use Rattle.kern_local.proofs.ledger.Ledger.get.Goals as goal

pub returns : goal.returns
returns g c = c.get.ensures.value ∙ sym (at_any _ _ _ c.args.number c.self.invariant) ∙ ap (λ l. get_or l.items c.args.number None) c.self.view_is
