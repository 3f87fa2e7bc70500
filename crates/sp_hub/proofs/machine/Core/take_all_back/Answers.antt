use Rattle.std.proofs.Common.{◌≡◌, None, Some, sym, ap, ◌∙◌}
use Rattle.std.specs.Prelude.{slice_get}
use Rattle.sp_fork.specs.Jar.{made_by}
use Rattle.hub_model.specs.State.{Machine}
use Rattle.sp_hub.proofs.Backs.{all_back, none_left, one_back, one_fewer}
use Rattle.sp_hub.proofs.machine.Core.take_all_back.Goals as goal

pub loop-cookie-preserved : goal.loop-cookie-preserved
loop-cookie-preserved c =
    let first : slice_get (made_by c.loop-cookie.self.cookies c.args.no) 0 ≡ Some c.in-Some.cookie =
    ap (λ (m : Machine). slice_get (made_by m.cookies c.args.no) 0) (sym c.self.view_is) ∙ (sym c.first_of.ensures ∙ c.in-Some.is) in
    one_back c.args.no c.args.self.now c.loop-cookie.self c.take_back.new.self c.in-Some.cookie first c.take_back.ensures c.loop-cookie.invariant

pub loop-cookie-smaller : goal.loop-cookie-smaller
loop-cookie-smaller c =
    let first : slice_get (made_by c.loop-cookie.self.cookies c.args.no) 0 ≡ Some c.in-Some.cookie =
    ap (λ (m : Machine). slice_get (made_by m.cookies c.args.no) 0) (sym c.self.view_is) ∙ (sym c.first_of.ensures ∙ c.in-Some.is) in
    one_fewer c.args.no c.loop-cookie.self c.take_back.new.self c.in-Some.cookie first c.take_back.ensures

pub returns : goal.returns
returns c =
    let none : slice_get (made_by c.loop-cookie.self.cookies c.args.no) 0 ≡ None =
    ap (λ (m : Machine). slice_get (made_by m.cookies c.args.no) 0) (sym c.self.view_is) ∙ (sym c.first_of.ensures ∙ none_left c.first_of.result c.in_default.not-Some) in
    all_back c.args.no c.args.self.now c.loop-cookie.self none c.loop-cookie.invariant
