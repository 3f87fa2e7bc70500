use Rattle.sp_world.proofs.Asked.{asks_nobody}
use Rattle.sp_world.proofs.parts.Parts.ask.Goals as goal

pub returns-in_default : goal.returns-in_default
returns-in_default c = asks_nobody c.args.self.now c.take_out.new.self c.args.no c.args.event c.in_default.ensures.absent c.in_default.ensures.stays
