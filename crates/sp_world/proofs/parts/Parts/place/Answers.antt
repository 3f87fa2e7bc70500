use Rattle.std.proofs.Common.{◌≡◌, ap, ◌∙◌}
use Rattle.std.specs.Ordering.{nat_cmp}
use Rattle.std.specs.FinMap.{FinMap, get, remove}
use Rattle.world_model.specs.State.{Link, World}
use Rattle.sp_world.proofs.Connects.{taken_away}
use Rattle.sp_world.proofs.parts.Parts.place.Goals as goal

pub returns-in_default-clause-err : goal.returns-in_default-clause-err
returns-in_default-clause-err c =
    let lacks = ap (λ (w : World). get w.links c.args.no.0) c.self.view_is ∙ c.requires.link in
    let links : c.remove.new.self ≡ c.self.inside.links =
    c.remove.ensures.table ∙ ap (λ (ls : FinMap nat_cmp Link). remove ls c.args.no.0) c.in_ok-insert.ensures.ok
    ∙ taken_away c.self.inside.links c.args.no.0 c.fresh.result lacks in
    let clients : c.insert-2.new.self ≡ c.self.inside.clients = c.in_default.ensures.err in
    rw (links, clients) c.self.view_is
