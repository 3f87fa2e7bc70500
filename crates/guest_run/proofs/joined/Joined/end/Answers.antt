use Rattle.guest_run.proofs.GreetingLaws.{parts}
use Rattle.guest_run.proofs.joined.Joined.end.Goals as goal

pub returns : goal.returns
returns c = λ pid last rest. parts c.args.self.now _ _ pid last rest c.ended.ensures.plays
