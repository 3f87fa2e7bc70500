use Rattle.sp_world.proofs.Ways.{from_server_happens}
use Rattle.sp_world.proofs.parts.Parts.from_server.Goals as goal

pub returns : goal.returns
returns c =
    from_server_happens c.args.self.now c.take_out.new.self _ _ c.args.no c.in-Some.ends.client c.in-Some.ends.link _ _ c.send_down-reply.result c.in-Some.ensures.out c.self.view_is c.send_down-reply.ensures
    c.put_back.ensures
