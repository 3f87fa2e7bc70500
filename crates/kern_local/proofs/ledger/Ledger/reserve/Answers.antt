use Rattle.std.proofs.Common.{◌≡◌, ℕ, ◌∙◌, ◌+◌, ◌<◌, ◌^◌, ap, length, arith, subst, sym, max, List, Option}
use Rattle.kern_local.specs.Listed.{Listed, listed}
use Rattle.kern_local.proofs.ListedLaws.{length-listed, listed_reordered}
use Rattle.kern_local.proofs.ledger.Ledger.reserve.Goals as goal

pub returns-then-more-self-clause-fits : goal.returns-then-more-self-clause-fits
returns-then-more-self-clause-fits g c =
    subst (λ (l : Listed g.row.T.Denot). length l.items + l.room < 2 ^ 64) c.self.view_is (omega (arith, length-listed c.self.inside.entries c.self.inside.next, c.self.invariant.last))

pub returns-then-self-more-clause-fits : goal.returns-then-self-more-clause-fits
returns-then-self-more-clause-fits g c =
    subst (λ (l : Listed g.row.T.Denot). length l.items + l.room < 2 ^ 64) c.self.view_is (omega (arith, length-listed c.self.inside.entries c.self.inside.next, c.self.invariant.last))

pub returns-then-is_err-clause-err : goal.returns-then-is_err-clause-err
returns-then-is_err-clause-err g c =
    ap (λ (l : List (Option g.row.T.Denot)). record { items = l; room = c.self.inside.room }) (listed_reordered _ _ c.self.inside.next c.reserve.ensures.entries) ∙ c.self.view_is

pub returns-then-is_err-clause-fits : goal.returns-then-is_err-clause-fits
returns-then-is_err-clause-fits g c = omega (arith, length-listed c.reserve.new.self c.self.inside.next, c.self.invariant.last)

pub returns-clause-ok : goal.returns-clause-ok
returns-clause-ok g c =
    let more : max c.self.inside.room c.args.more ≡ c.args.more = omega (arith, c.if-more-self.false) in
    ap (λ (l : List (Option g.row.T.Denot)). record { items = l; room = c.args.more }) (listed_reordered _ _ c.self.inside.next c.reserve.ensures.entries)
    ∙ ap (λ (n : ℕ). record { items = listed c.self.inside.entries c.self.inside.next; room = n }) (sym more)
    ∙ ap (λ (l : Listed g.row.T.Denot). record { items = l.items; room = max l.room c.args.more }) c.self.view_is

pub returns-clause-fits : goal.returns-clause-fits
returns-clause-fits g c = omega (arith, length-listed c.reserve.new.self c.self.inside.next, c.if-self-more.false)
