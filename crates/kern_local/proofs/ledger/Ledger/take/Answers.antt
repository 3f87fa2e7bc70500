use Rattle.std.proofs.Common.{◌∙◌, ap, sym, None, List, Option, get_or}
use Rattle.std.proofs.Math.ListN.{set}
use Rattle.kern_local.specs.Listed.{Listed}
use Rattle.kern_local.proofs.ListedLaws.{at_any, listed_removed, changes_of}
use Rattle.kern_local.proofs.ledger.Ledger.take.Goals as goal

pub returns-clause-value : goal.returns-clause-value
returns-clause-value g c =
    c.remove.ensures.value ∙ (sym (at_any _ _ _ c.args.number c.self.invariant) ∙ ap (λ (l : Listed g.row.T.Denot). get_or l.items c.args.number None) c.self.view_is)

pub returns-clause-taken : goal.returns-clause-taken
returns-clause-taken g c =
    ap (λ (l : List (Option g.row.T.Denot)). record { items = l; room = c.self.inside.room }) (listed_removed _ _ _ _ c.args.number c.self.invariant (changes_of _ _ _ _ c.remove.ensures.updates))
    ∙ ap (λ (l : Listed g.row.T.Denot). record l { items = set l.items c.args.number None }) c.self.view_is
