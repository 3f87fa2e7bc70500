use Rattle.sp_world.proofs.Ways.{to_client_happens}
use Rattle.sp_world.proofs.parts.Parts.to_client.Goals as goal

pub returns : goal.returns
returns c = to_client_happens c.args.self.now c.take_out.new.self _ c.args.no c.in-Some.ends.client _ c.in-Some.ends.link _ c.bring_down-reply.result c.in-Some.ensures.out c.bring_down-reply.ensures c.put_back.ensures
