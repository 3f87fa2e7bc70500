use Rattle.std.proofs.Common.{◌≡◌, true, IsSome, subst}
use Rattle.std.specs.Prelude.{IsTrue, ◌↔◌}
use Rattle.sp_base.specs.declared.names.Pid.{Pid}
use Rattle.kern_model.specs.Act.{act}
use Rattle.kern_model.specs.Journal.{state_after}
use Rattle.kern_calls.specs.Kernel.{process_of}
use Rattle.world_model.specs.Host.{may_ask}
use Rattle.world_model.specs.State.{World}
use Rattle.sp_world.proofs.HostLaws.{host_performs, host_waits, performer_is}
use Rattle.sp_world.proofs.parts.Parts.host.Goals as goal

pub perform-requires-clause-ready : goal.perform-requires-clause-ready
perform-requires-clause-ready c =
    let ready = c.ready-is_ready.ensures.0 c.if-is_ready.true in
    let now = subst (λ (w : World). IsSome (act (state_after w.host) (process_of c.args.op c.args.pid).0 c.args.op c.in-Ok.ins)) c.self.view_is ready in
    subst (λ (p : Pid). IsSome (act (state_after c.args.self.now.host) p.0 c.args.op c.in-Ok.ins)) (performer_is c.args.op c.args.pid) now

pub returns-then-is_ready : goal.returns-then-is_ready
returns-then-is_ready c =
    let asks : may_ask c.args.self.now c.args.pid c.args.op ≡ true = cc in
    let ready = c.ready-is_ready.ensures.0 c.if-is_ready.true in
    let now = subst (λ (w : World). IsSome (act (state_after w.host) (process_of c.args.op c.args.pid).0 c.args.op c.in-Ok.ins)) c.self.view_is ready in
    host_performs c.args.self.now c.perform.new.self c.args.guest c.args.caller c.args.pid c.args.op c.in-Ok.ins c.args.mem c.perform.result
    asks c.in-Ok.ensures.value now c.perform.ensures

pub returns-else-is_ready : goal.returns-else-is_ready
returns-else-is_ready c =
    let asks : may_ask c.args.self.now c.args.pid c.args.op ≡ true = cc in
    let same = subst (λ (w : World). IsTrue c.ready-is_ready.result ↔ IsSome (act (state_after w.host) (process_of c.args.op c.args.pid).0 c.args.op c.in-Ok.ins))
    c.self.view_is c.ready-is_ready.ensures in
    host_waits c.args.self.now c.wait.new.self c.args.guest c.args.caller c.args.pid c.args.op c.in-Ok.ins c.args.mem c.wait.result c.ready-is_ready.result
    asks c.in-Ok.ensures.value same c.if-is_ready.false c.wait.ensures
