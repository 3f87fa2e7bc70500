use Rattle.std.proofs.Common.{◌≡◌, Some, sym, ap, subst, ◌∙◌}
use Rattle.std.specs.Prelude.{reverse}
use Rattle.std.specs.Option.{option_copied}
use Rattle.std.specs.FinMap.{insert}
use Rattle.hub_model.specs.State.{Connection, Machine}
use Rattle.sp_hub.specs.AtOnce.{AnswersAtOnce}
use Rattle.sp_hub.proofs.AtOnce.{answers_by}
use Rattle.sp_hub.proofs.machine.Core.at_once.Goals as goal

pub returns-clause-plays : goal.returns-clause-plays
returns-clause-plays c =
    let was : Machine = record {
      version = c.self.inside.version;
      journal = c.self.inside.kernel.items;
      connections = c.self.inside.connections;
      cookies = c.self.inside.cookies;
      handovers = reverse c.self.inside.handovers.items;
      opened = c.self.inside.opened;
      halted = c.self.inside.halted;
    } in
    let now : Machine = record was { journal = c.act.new.kernel.items; connections = c.swap-2.new.self } in
    let running = ap (λ (m : Machine). m.halted) c.self.view_is ∙ c.requires.running in
    let x = c.in_ok-connection.connection.now in
    let here = sym c.in_ok-connection.ensures in
    let ready = c.in_ok-gathered.ensures in
    let adds = c.in-Ok.ensures.ok in
    let last = rw c.journal.ensures.journal at c.last.ensures.value in
    let at_end = sym (ap option_copied c.in-Some.is) ∙ last in
    let taken : c.swap.new.value ≡ x = (let e = c.swap.ensures.value ∙ here in cc) in
    let puts = c.swap-2.ensures.table ∙ (c.swap.ensures.again c.use_number.new.self ∙ ap (insert c.self.inside.connections c.args.no.0) (c.use_number.ensures ∙ ap (λ (y : Connection). record y { last = c.args.frame.now.number.0 }) taken)) in
    subst (λ (m : Machine). AnswersAtOnce m c.args.no c.args.frame.now c.answered.result now) c.self.view_is
    (answers_by was c.args.no c.args.frame.now c.answered.result c.in_ok-gathered.gathered x c.in-Ok.place.0 c.act.new.kernel.items c.in-Some.entry.now c.swap-2.new.self running here ready adds at_end c.answered.ensures.frame puts)
