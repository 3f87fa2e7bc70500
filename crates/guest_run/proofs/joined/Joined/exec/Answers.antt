use Rattle.std.proofs.Common.{◌≡◌, ℕ, Some, arith, refl, sym, ap, ◌∙◌}
use Rattle.sp_base.specs.declared.names.ConnNo.{ConnNo}
use Rattle.guest_run.proofs.ExecLaws.{asked, cookie_is, execed, going_of, is_gone_on, is_greeted, is_opened, is_readied, joined_with, left_is, number_is, place_there, process_is, ready_is}
use Rattle.guest_run.proofs.joined.Joined.exec.Goals as goal

pub unreachable-requires : goal.unreachable-requires
unreachable-requires c =
    let rest = c.requires.rest in
    let g = going_of c.args.self.now rest.0 rest.1 c.args.salt c.args.name rest.2 rest.3 in
    c.in_default.not-Started _ (asked g c.args.self.now _ _ refl (c.in_ok-number.ensures g.caller)).0

pub unreachable-requires-in_default-collect : goal.unreachable-requires-in_default-collect
unreachable-requires-in_default-collect c =
    let rest = c.requires.rest in
    let g = going_of c.args.self.now rest.0 rest.1 c.args.salt c.args.name rest.2 rest.3 in
    let starts = asked g c.args.self.now c.preexec.new.self _ refl (c.in_ok-number.ensures g.caller) in
    let number = number_is c.in-Started.number _ (sym c.in-Started.is ∙ starts.0) in
    let ready = is_readied g c.preexec.new.self c.to_server.new.self c.to_client.new.self _ _ starts.1 c.in_ok-to_server.ensures c.in_ok-to_client.ensures in
    c.in_default-collect.not-ExecReady _ (cookie_is g c.in-Started.number c.to_client.new.self c.collect.new.self c.collect.result ready number c.collect.ensures)

pub open_next-requires-clause-few : goal.open_next-requires-clause-few
open_next-requires-clause-few c =
    let rest = c.requires.rest in
    let g = going_of c.args.self.now rest.0 rest.1 c.args.salt c.args.name rest.2 rest.3 in
    let starts = asked g c.args.self.now c.preexec.new.self _ refl (c.in_ok-number.ensures g.caller) in
    let ready = is_readied g c.preexec.new.self c.to_server.new.self c.to_client.new.self _ _ starts.1 c.in_ok-to_server.ensures c.in_ok-to_client.ensures in
    let left : c.collect.new.self.conn ≡ c.args.self.now.conn = left_is g c.in-Started.number c.to_client.new.self c.collect.new.self c.collect.result ready c.collect.ensures in
    let same : c.collect.new.self.conn.0 ≡ c.args.self.now.conn.0 = ap (λ (conn : ConnNo). conn.0) left in
    let few = rest.3.few in
    let small = rest.2 in
    omega (arith, same, few, small)

pub unreachable-requires-in_default-collect-2 : goal.unreachable-requires-in_default-collect-2
unreachable-requires-in_default-collect-2 c =
    let rest = c.requires.rest in
    let g = going_of c.args.self.now rest.0 rest.1 c.args.salt c.args.name rest.2 rest.3 in
    let starts = asked g c.args.self.now c.preexec.new.self _ refl (c.in_ok-number.ensures g.caller) in
    let number = number_is c.in-Started.number _ (sym c.in-Started.is ∙ starts.0) in
    let ready = is_readied g c.preexec.new.self c.to_server.new.self c.to_client.new.self _ _ starts.1 c.in_ok-to_server.ensures c.in_ok-to_client.ensures in
    let cookie = cookie_is g c.in-Started.number c.to_client.new.self c.collect.new.self c.collect.result ready number c.collect.ensures in
    let next = is_opened g c.in-Started.number c.in-ExecReady.cookie c.args.name c.to_client.new.self c.collect.new.self c.open_next.new.self c.collect.result ready c.collect.ensures
    (ready_is c.in-ExecReady.cookie _ (sym c.in-ExecReady.is ∙ cookie)) refl refl refl c.in_ok-open_next.ensures.client c.in_ok-open_next.ensures.server c.in_ok-open_next.ensures.conn in
    let met = is_greeted g c.open_next.new.self c.to_server-2.new.self c.to_client-2.new.self _ _ next c.in_ok-to_server-2.ensures c.in_ok-to_client-2.ensures in
    c.in_default-collect-2.not-Joined _ _ (process_is g c.to_client-2.new.self c.collect-2.new.self c.collect-2.result met c.collect-2.ensures)

pub unreachable-requires-in_default-place : goal.unreachable-requires-in_default-place
unreachable-requires-in_default-place c =
    let rest = c.requires.rest in
    let g = going_of c.args.self.now rest.0 rest.1 c.args.salt c.args.name rest.2 rest.3 in
    let starts = asked g c.args.self.now c.preexec.new.self _ refl (c.in_ok-number.ensures g.caller) in
    let number = number_is c.in-Started.number _ (sym c.in-Started.is ∙ starts.0) in
    let ready = is_readied g c.preexec.new.self c.to_server.new.self c.to_client.new.self _ _ starts.1 c.in_ok-to_server.ensures c.in_ok-to_client.ensures in
    let cookie = cookie_is g c.in-Started.number c.to_client.new.self c.collect.new.self c.collect.result ready number c.collect.ensures in
    let next = is_opened g c.in-Started.number c.in-ExecReady.cookie c.args.name c.to_client.new.self c.collect.new.self c.open_next.new.self c.collect.result ready c.collect.ensures
    (ready_is c.in-ExecReady.cookie _ (sym c.in-ExecReady.is ∙ cookie)) refl refl refl c.in_ok-open_next.ensures.client c.in_ok-open_next.ensures.server c.in_ok-open_next.ensures.conn in
    let met = is_greeted g c.open_next.new.self c.to_server-2.new.self c.to_client-2.new.self _ _ next c.in_ok-to_server-2.ensures c.in_ok-to_client-2.ensures in
    c.in_default-place.not-Some _ (place_there c.in-Joined.pid _ c.in-Joined.place _ c.collect-2.result c.in-Joined.is
    (process_is g c.to_client-2.new.self c.collect-2.new.self c.collect-2.result met c.collect-2.ensures))

pub returns : goal.returns
returns c = λ pid bound small at.
    let g = going_of c.args.self.now pid bound c.args.salt c.args.name small at in
    let starts = asked g c.args.self.now c.preexec.new.self _ refl (c.in_ok-number.ensures g.caller) in
    let number = number_is c.in-Started.number _ (sym c.in-Started.is ∙ starts.0) in
    let ready = is_readied g c.preexec.new.self c.to_server.new.self c.to_client.new.self _ _ starts.1 c.in_ok-to_server.ensures c.in_ok-to_client.ensures in
    let cookie = cookie_is g c.in-Started.number c.to_client.new.self c.collect.new.self c.collect.result ready number c.collect.ensures in
    let left = left_is g c.in-Started.number c.to_client.new.self c.collect.new.self c.collect.result ready c.collect.ensures in
    let next = is_opened g c.in-Started.number c.in-ExecReady.cookie c.args.name c.to_client.new.self c.collect.new.self c.open_next.new.self c.collect.result ready c.collect.ensures
    (ready_is c.in-ExecReady.cookie _ (sym c.in-ExecReady.is ∙ cookie)) refl refl refl c.in_ok-open_next.ensures.client c.in_ok-open_next.ensures.server c.in_ok-open_next.ensures.conn in
    let met = is_greeted g c.open_next.new.self c.to_server-2.new.self c.to_client-2.new.self _ _ next c.in_ok-to_server-2.ensures c.in_ok-to_client-2.ensures in
    let gone = is_gone_on g c.to_client-2.new.self c.collect-2.new.self c.collect-2.result c.ended.result c.collect.new.self.conn c.ended.new.self met c.collect-2.ensures left c.ended.ensures.plays in
    let gave = process_is g c.to_client-2.new.self c.collect-2.new.self c.collect-2.result met c.collect-2.ensures in
    execed c.args.self.now (record c.collect-2.new.self { hub = c.ended.new.self }) pid bound c.args.salt c.args.name small at c.in-Joined.pid c.in-Some.place c.collect-2.result gone gave
    (joined_with c.in-Joined.pid c.in-Joined.place c.in-Some.place c.collect-2.result c.in-Joined.is c.in-Some.is)
