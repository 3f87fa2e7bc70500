use Rattle.std.proofs.Common.{sym, subst}
use Rattle.sp_frames.specs.declared.version.Version.TheVariants.{Four}
use Rattle.hub_law.specs.Serves.{Agrees}
use Rattle.sp_world.specs.Told.{IsRun, history_of, moves_of}
use Rattle.world_model.specs.State.{World}
use Rattle.sp_world.proofs.world.World.obeys_law.Goals as goal

pub returns-clause-after : goal.returns-clause-after
returns-clause-after c = c.world_law.ensures.after Four (moves_of c.args.self.now)

pub returns-clause-serves : goal.returns-clause-serves
returns-clause-serves c fit =
    let run = subst IsRun c.self.view_is c.self.invariant in
    subst (λ (w : World). Agrees (history_of c.args.self.now).exchanges w.rump.journal) (sym run.world)
    (c.world_law.ensures.serves Four (moves_of c.args.self.now) fit)

pub returns-clause-world : goal.returns-clause-world
returns-clause-world c = let run = subst IsRun c.self.view_is c.self.invariant in run.world
