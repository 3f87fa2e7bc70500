use Rattle.std.proofs.Common.{◌≡◌, ℕ, ap, ◌∙◌}
use Rattle.std.specs.FinMap.{FinMap}
use Rattle.std.specs.Ordering.{nat_cmp}
use Rattle.world_model.specs.State.{World}
use Rattle.sp_world.proofs.HostLaws.{count_back, count_gone}
use Rattle.sp_world.proofs.parts.Parts.restore_count.Goals as goal

pub returns-in-Some : goal.returns-in-Some
returns-in-Some c counts count had put =
    let now = ap (λ (w : World). w.counts) c.self.view_is ∙ put in
    let same : c.swap.new.self ≡ counts = c.swap.ensures.table ∙ count_back counts c.self.inside.counts c.args.guest count c.in-Some.count (had ∙ c.in-Some.is) now in
    ap (λ (w : World). record w { counts = c.swap.new.self }) c.self.view_is
    ∙ ap (λ (m : FinMap nat_cmp ℕ). record c.args.self.now { counts = m }) same

pub returns-in-None : goal.returns-in-None
returns-in-None c counts count had put =
    let now = ap (λ (w : World). w.counts) c.self.view_is ∙ put in
    let same : c.remove.new.self ≡ counts = c.remove.ensures.table ∙ count_gone counts c.self.inside.counts c.args.guest count (had ∙ c.in-None.is) now in
    ap (λ (w : World). record w { counts = c.remove.new.self }) c.self.view_is
    ∙ ap (λ (m : FinMap nat_cmp ℕ). record c.args.self.now { counts = m }) same
