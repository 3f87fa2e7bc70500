use Rattle.sp_world.proofs.Ways.{to_server_happens}
use Rattle.sp_world.proofs.parts.Parts.to_server.Goals as goal

pub returns : goal.returns
returns c =
    to_server_happens c.args.self.now c.take_out.new.self _ _ c.args.no c.in-Some.ends.client c.in-Some.ends.link _ _ c.args.salt c.bring_up-reply.result c.in-Some.ensures.out c.self.view_is c.bring_up-reply.ensures
    c.put_back.ensures
