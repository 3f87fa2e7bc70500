use Rattle.std.proofs.Common.{◌≡◌, Some, false, sym, ap, ◌∙◌}
use Rattle.std.specs.Option.{option_copied}
use Rattle.std.specs.FinMap as map
use Rattle.kern_model.specs.declared.operation.Ins.TheVariants.{Given, Fault}
use Rattle.hub_model.specs.State.{Connection}
use Rattle.hub_model.specs.declared.state.OpenCall.{OpenCall}
use Rattle.hub_model.specs.declared.state.OpenCall.TheVariants.{Gathers, Fails}
use Rattle.sp_hub.specs.Work.{HasAll}
use Rattle.sp_hub.proofs.Plays.{plays_ask, plays_given, plays_fault, all_given, all_failed, found, each_found, none_comes}
use Rattle.sp_hub.proofs.machine.Core.work.Goals as goal

pub perform-requires-clause-gathered : goal.perform-requires-clause-gathered
perform-requires-clause-gathered c y at =
    let here = found c.args.self.now _ c.args.no.0 _ c.in-Some.connection.now c.self.view_is c.get.ensures (ap option_copied c.in-Some.is) in
    let there : map.get c.in-Some.connection.now.calls c.args.number.0 ≡ Some (Gathers c.in-Some-Gathers.call c.in-Some-Gathers.got false) =
    sym c.call.ensures ∙ ap option_copied c.in-Some-Gathers.is ∙ ap Some (c.in-Some-Gathers.field-0-is ∙ ap (Gathers c.in-Some-Gathers.call c.in-Some-Gathers.got) c.in-Some-Gathers.field-0-2-test) in
    let none = none_comes _ _ c.in-None-next_ask.ensures.ask in
    let all = all_given c.args.self.now c.args.no c.args.number c.in-Some.connection.now c.in-Some-Gathers.call c.in-Some-Gathers.got c.requires.sound here there none in
    each_found (λ (x : Connection). (t : OpenCall) × (map.get x.calls c.args.number.0 ≡ Some t) × HasAll t) _ c.in-Some.connection.now y here at (Gathers c.in-Some-Gathers.call c.in-Some-Gathers.got false, there, all)

pub perform-requires-in-Some-Fails-clause-gathered : goal.perform-requires-in-Some-Fails-clause-gathered
perform-requires-in-Some-Fails-clause-gathered c y at =
    let here = found c.args.self.now _ c.args.no.0 _ c.in-Some.connection.now c.self.view_is c.get.ensures (ap option_copied c.in-Some.is) in
    let there : map.get c.in-Some.connection.now.calls c.args.number.0 ≡ Some (Fails c.in-Some-Fails.field-0-0 c.in-Some-Fails.field-0-1) =
    sym c.call.ensures ∙ ap option_copied c.in-Some-Fails.is ∙ ap Some c.in-Some-Fails.field-0-is in
    let all = all_failed c.args.self.now c.args.no c.args.number c.in-Some.connection.now c.in-Some-Fails.field-0-0 c.in-Some-Fails.field-0-1 c.requires.sound here there in
    each_found (λ (x : Connection). (t : OpenCall) × (map.get x.calls c.args.number.0 ≡ Some t) × HasAll t) _ c.in-Some.connection.now y here at (Fails c.in-Some-Fails.field-0-0 c.in-Some-Fails.field-0-1, there, all)

pub returns-in-Some-next_ask : goal.returns-in-Some-next_ask
returns-in-Some-next_ask c =
    let here = found c.args.self.now _ c.args.no.0 _ c.in-Some.connection.now c.self.view_is c.get.ensures (ap option_copied c.in-Some.is) in
    let there : map.get c.in-Some.connection.now.calls c.args.number.0 ≡ Some (Gathers c.in-Some-Gathers.call c.in-Some-Gathers.got false) =
    sym c.call.ensures ∙ ap option_copied c.in-Some-Gathers.is ∙ ap Some (c.in-Some-Gathers.field-0-is ∙ ap (Gathers c.in-Some-Gathers.call c.in-Some-Gathers.got) c.in-Some-Gathers.field-0-2-test) in
    record { plays = plays_ask c.args.self.now c.args.no c.args.number c.in-Some.connection.now c.requires.running here c.ask.new.self c.ask.result c.in-Some-Gathers.call c.in-Some-Gathers.got c.in-Some-next_ask.ask there c.in-Some-next_ask.ensures.ask c.ask.ensures }

pub returns-in-None-next_ask : goal.returns-in-None-next_ask
returns-in-None-next_ask c =
    let here = found c.args.self.now _ c.args.no.0 _ c.in-Some.connection.now c.self.view_is c.get.ensures (ap option_copied c.in-Some.is) in
    let there : map.get c.in-Some.connection.now.calls c.args.number.0 ≡ Some (Gathers c.in-Some-Gathers.call c.in-Some-Gathers.got false) =
    sym c.call.ensures ∙ ap option_copied c.in-Some-Gathers.is ∙ ap Some (c.in-Some-Gathers.field-0-is ∙ ap (Gathers c.in-Some-Gathers.call c.in-Some-Gathers.got) c.in-Some-Gathers.field-0-2-test) in
    let none = none_comes _ _ c.in-None-next_ask.ensures.ask in
    record { plays = plays_given c.args.self.now c.args.no c.args.number c.in-Some.connection.now c.requires.running here c.perform.new.self c.perform.result c.in-Some-Gathers.call c.in-Some-Gathers.got there none (c.perform.ensures c.in-Some.connection.now c.in-Some-Gathers.call (Given c.in-Some-Gathers.got) here there) }

pub returns-in-Some-Fails : goal.returns-in-Some-Fails
returns-in-Some-Fails c =
    let here = found c.args.self.now _ c.args.no.0 _ c.in-Some.connection.now c.self.view_is c.get.ensures (ap option_copied c.in-Some.is) in
    let there : map.get c.in-Some.connection.now.calls c.args.number.0 ≡ Some (Fails c.in-Some-Fails.field-0-0 c.in-Some-Fails.field-0-1) =
    sym c.call.ensures ∙ ap option_copied c.in-Some-Fails.is ∙ ap Some c.in-Some-Fails.field-0-is in
    record { plays = plays_fault c.args.self.now c.args.no c.args.number c.in-Some.connection.now c.requires.running here c.perform-in-Some-Fails.new.self c.perform-in-Some-Fails.result c.in-Some-Fails.field-0-0 c.in-Some-Fails.field-0-1 there (c.perform-in-Some-Fails.ensures c.in-Some.connection.now c.in-Some-Fails.field-0-0 (Fault c.in-Some-Fails.field-0-1) here there) }
