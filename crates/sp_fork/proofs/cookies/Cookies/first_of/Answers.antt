use Rattle.std.proofs.Common.{◌≡◌, ℕ, None, Some, ap, sym, ◌∙◌, rules, tests}
use Rattle.std.specs.FinMap.{get, keys}
use Rattle.std.specs.List.{find}
use Rattle.std.specs.Map.Iter.{deref}
use Rattle.std.specs.Option.{option_copied, option_map}
use Rattle.std.proofs.lemmas.Iterator.Consumers.{YieldsList-from_rest}
use Rattle.std.proofs.lemmas.Iterator.Search.{find_from_yields_List}
use Rattle.sp_fork.proofs.Firsts.{is_his, first_is, none_is}
use Rattle.sp_fork.specs.Jar.{Jar}
use Rattle.sp_fork.proofs.cookies.Cookies.first_of.Goals as goal

pub returns-in_err-number : goal.returns-in_err-number
returns-in_err-number c =
    let found = find_from_yields_List (is_his c.args.self.now.unused c.args.maker) _ _ c.find.result c.find.ensures.ran (YieldsList-from_rest _ c.keys.ensures.keys) (λ x b q k. search (rules, tests)) in
    let none : find (is_his c.args.self.now.unused c.args.maker) (keys c.args.self.now.unused) ≡ None = sym (sym (ap (option_map (deref {X = ℕ})) c.in_err-number.was) ∙ found ∙ ap (λ (x : Jar). find (is_his c.args.self.now.unused c.args.maker) (keys x.unused)) c.self.view_is) in
    c.from_residual.ensures ∙ sym (none_is c.args.self.now c.args.maker none)

pub returns : goal.returns
returns c =
    let found = find_from_yields_List (is_his c.args.self.now.unused c.args.maker) _ _ c.find.result c.find.ensures.ran (YieldsList-from_rest _ c.keys.ensures.keys) (λ x b q k. search (rules, tests)) in
    let first : find (is_his c.args.self.now.unused c.args.maker) (keys c.args.self.now.unused) ≡ Some c.in_ok-number.number.now = sym (sym (ap (option_map (deref {X = ℕ})) c.in_ok-number.was) ∙ found ∙ ap (λ (x : Jar). find (is_his c.args.self.now.unused c.args.maker) (keys x.unused)) c.self.view_is) in
    let here : get c.args.self.now.unused c.in_ok-number.number.now ≡ Some c.in_ok-found.found.now = sym (ap (λ (x : Jar). get x.unused c.in_ok-number.number.now) c.self.view_is) ∙ (sym c.get.ensures ∙ ap option_copied c.in_ok-found.was) in
    sym (first_is c.args.self.now c.args.maker c.in_ok-number.number.now c.in_ok-found.found.now first here)
