use Rattle.std.proofs.Common.{◌≡◌, None, ap, subst, ◌∙◌, rules}
use Rattle.std.specs.FinMap.{get, remove}
use Rattle.hub_model.specs.Machine.{Plays}
use Rattle.hub_model.specs.State.{Machine}
use Rattle.hub_model.specs.declared.event.Event.TheVariants.{Opened}
use Rattle.world_model.specs.State.{World}
use Rattle.sp_world.proofs.Connects.{connect_fails, displaced}
use Rattle.sp_world.proofs.There.{no_client}
use Rattle.sp_world.proofs.parts.Parts.connect.Goals as goal

pub returns-in_default-opened : goal.returns-in_default-opened
returns-in_default-opened c =
    let old = c.args.self.now in
    let link : get c.args.self.now.links c.args.no.0 ≡ None = search rules in
    let client = no_client old c.args.no c.requires.paired link in
    let server = ap (λ (w : World). w.rump) (c.self-2.view_is ∙ c.in-Ok-place.ensures.ok) in
    let plays = subst (λ (m : Machine). Plays m (Opened c.args.no) c.opened.result c.opened.new.self) server c.opened.ensures.plays in
    let is = c.displace.ensures
    ∙ ap (λ (w : World). record w { rump = c.opened.new.self; clients = remove w.clients c.args.no.0; links = remove w.links c.args.no.0 }) c.self-2.view_is
    ∙ displaced old c.place.new.self c.args.no c.in-Ok.client c.opened.new.self client link c.in-Ok-place.ensures.ok in
    rw c.of_server.ensures (connect_fails old c.displace.new.self c.args.no c.args.hello c.opened.result c.opened.new.self plays c.in_default-opened.not-Nothing is)
