use Rattle.std.proofs.Common.{◌∙◌, ◌-◌, ◌++◌, ◌∷◌, [], List, Option, ap, sym, Some, length}
use Rattle.kern_local.specs.Listed.{Listed}
use Rattle.kern_local.proofs.ListedLaws.{length-listed, listed_added, changes_of}
use Rattle.kern_local.proofs.ledger.Ledger.add.Goals as goal

pub returns-clause-number : goal.returns-clause-number
returns-clause-number g c = sym (length-listed _ _) ∙ ap (λ (l : Listed g.row.T.Denot). length l.items) c.self.view_is

pub returns-clause-added : goal.returns-clause-added
returns-clause-added g c =
    ap (λ (l : List (Option g.row.T.Denot)). record { items = l; room = c.self.inside.room - 1 }) (listed_added _ _ _ c.args.value (changes_of _ _ _ _ c.in-Ok.ensures.updates))
    ∙ ap (λ (l : Listed g.row.T.Denot). record { items = l.items ++ Some c.args.value ∷ []; room = l.room - 1 }) c.self.view_is
