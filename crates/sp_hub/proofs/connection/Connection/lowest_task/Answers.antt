use Rattle.std.proofs.Common.{◌≡◌, ℕ, None, Some, ap, sym, ◌∙◌, rules, tests}
use Rattle.std.specs.List.{find}
use Rattle.std.specs.Map.Iter.{deref}
use Rattle.std.specs.Option.{option_map}
use Rattle.std.specs.FinMap.{keys}
use Rattle.std.proofs.lemmas.Iterator.Consumers.{YieldsList-from_rest}
use Rattle.std.proofs.lemmas.Iterator.Search.{find_from_yields_List}
use Rattle.hub_model.specs.State.{Connection}
use Rattle.sp_hub.proofs.Lowest.{is_next, none_waits, first_waits}
use Rattle.sp_hub.proofs.connection.Connection.lowest_task.Goals as goal

pub returns-in_err-number : goal.returns-in_err-number
returns-in_err-number c =
    let found = find_from_yields_List (is_next c.args.self.now.calls c.args.above.0) _ _ c.find.result c.find.ensures.ran (YieldsList-from_rest _ c.keys.ensures.keys) (λ x b q k. search (rules, tests)) in
    let none : None ≡ find (is_next c.args.self.now.calls c.args.above.0) (keys c.args.self.now.calls) = sym (ap (option_map (deref {X = ℕ})) c.in_err-number.was) ∙ found ∙ ap (λ (x : Connection). find (is_next c.args.self.now.calls c.args.above.0) (keys x.calls)) c.self.view_is in
    rw c.from_residual.ensures (none_waits c.args.self.now.calls c.args.above none)

pub returns : goal.returns
returns c =
    let found = find_from_yields_List (is_next c.args.self.now.calls c.args.above.0) _ _ c.find.result c.find.ensures.ran (YieldsList-from_rest _ c.keys.ensures.keys) (λ x b q k. search (rules, tests)) in
    let first : Some c.in_ok-number.number.now ≡ find (is_next c.args.self.now.calls c.args.above.0) (keys c.args.self.now.calls) = sym (ap (option_map (deref {X = ℕ})) c.in_ok-number.was) ∙ found ∙ ap (λ (x : Connection). find (is_next c.args.self.now.calls c.args.above.0) (keys x.calls)) c.self.view_is in
    first_waits c.args.self.now.calls c.args.above (record { 0 = c.in_ok-number.number.now }) first
