use Rattle.guest_run.proofs.GreetingLaws.{greeted}
use Rattle.guest_run.proofs.joined.Joined.greeted.Goals as goal

pub returns : goal.returns
returns c = greeted c.args.name c.in_ok-joined.joined c.to_server.new.self c.to_client.new.self _ _ c.in_ok-joined.ensures.client c.in_ok-joined.ensures.server c.in_ok-joined.ensures.conn c.in_ok-to_server.ensures c.in_ok-to_client.ensures
