use Rattle.std.proofs.Common.{ap, subst, rules}
use Rattle.hub_model.specs.Machine.{Plays}
use Rattle.hub_model.specs.State.{Machine}
use Rattle.hub_model.specs.declared.event.Event.TheVariants.{Work}
use Rattle.world_model.specs.State.{World}
use Rattle.sp_world.specs.Ends.{IsThere}
use Rattle.sp_world.proofs.Works.{work_happens}
use Rattle.sp_world.proofs.parts.Parts.work.Goals as goal

pub returns : goal.returns
returns c =
    let there : IsThere c.args.self.now c.args.no = c.is_there.ensures.0 (search rules) in
    let plays = subst (λ (m : Machine). Plays m (Work c.args.no c.args.number) c.work.result c.work.new.self) (ap (λ (w : World). w.rump) c.self.view_is) c.work.ensures.plays in
    let is = ap (λ (w : World). record w { rump = c.work.new.self }) c.self.view_is in
    rw c.of_server.ensures (work_happens c.args.self.now _ c.args.no c.args.number c.work.result c.work.new.self there plays is)
