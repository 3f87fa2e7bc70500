use Rattle.std.proofs.Common.{◌≡◌, Option, None, Some, ap, sym, subst, ◌∙◌}
use Rattle.std.specs.Option.{option_copied}
use Rattle.std.specs.FinMap.{get}
use Rattle.hub_model.specs.State.{Connection, Machine}
use Rattle.hub_model.specs.Task.{IsLowest, calls_in, open_calls}
use Rattle.sp_hub.proofs.Lowest.{none_open}
use Rattle.sp_hub.proofs.machine.Core.lowest_task.Goals as goal

pub returns-in_err-get : goal.returns-in_err-get
returns-in_err-get c =
    let none : get c.self.inside.connections c.args.no.0 ≡ None = sym c.get.ensures ∙ ap option_copied c.in_err-get.was in
    let lowest = subst (λ (o : Option Connection). IsLowest (calls_in o) c.args.above None) (sym none) (none_open c.args.above) in
    rw c.from_residual.ensures (subst (λ (m : Machine). IsLowest (open_calls m c.args.no) c.args.above None) c.self.view_is lowest)

pub returns : goal.returns
returns c =
    let here : get c.self.inside.connections c.args.no.0 ≡ Some c.in_ok-get.field-0.now = sym c.get.ensures ∙ ap option_copied c.in_ok-get.was in
    let lowest = subst (λ (o : Option Connection). IsLowest (calls_in o) c.args.above c.lowest_task.result) (sym here) c.lowest_task.ensures in
    subst (λ (m : Machine). IsLowest (open_calls m c.args.no) c.args.above c.lowest_task.result) c.self.view_is lowest
