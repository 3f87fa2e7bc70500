use Rattle.sp_world.proofs.StepLaws.{steps_of}
use Rattle.sp_world.proofs.world.World.is_still.Goals as goal

pub is_still-requires : goal.is_still-requires
is_still-requires c =
    steps_of (record { world = c.self.inside.parts; events = c.self.inside.log.events.items; refused = c.self.inside.log.refused.items }) c.self.invariant
