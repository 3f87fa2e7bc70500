use Rattle.sp_world.proofs.Ways.{from_client_happens}
use Rattle.sp_world.proofs.parts.Parts.from_client.Goals as goal

pub returns : goal.returns
returns c = from_client_happens c.args.self.now c.take_out.new.self _ c.args.no c.in-Some.ends.client _ c.in-Some.ends.link _ c.send_up-reply.result c.in-Some.ensures.out c.send_up-reply.ensures c.put_back.ensures
