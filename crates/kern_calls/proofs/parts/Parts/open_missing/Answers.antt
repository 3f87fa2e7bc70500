use Rattle.std.proofs.Common.{◌≡◌, ◌∷◌, ◌<◌, refl, sym, ap, subst}
use Rattle.kern_model.specs.declared.node.NodeKind.TheVariants.{File}
use Rattle.kern_open.specs.OpenTables.{OpenTables}
use Rattle.kern_calls.specs.Joined.{AreHolders}
use Rattle.kern_calls.specs.Opened.{opened_file}
use Rattle.kern_calls.proofs.Joins.{keep_holders}
use Rattle.kern_calls.proofs.MakeLaws.{made_holders, missing_in}
use Rattle.kern_calls.proofs.OpenLaws.{hold_fits, opened_holders, some_room}
use Rattle.kern_calls.proofs.parts.Parts.open_missing.Goals as goal

pub open_node-fd-requires-clause-fits : goal.open_node-fd-requires-clause-fits
open_node-fd-requires-clause-fits c =
    let m = missing_in c.self.inside.opens c.self.inside.tree c.args.self.now c.args.pid.0 c.args.text.now c.args.last c.self.view_is c.requires.missing in
    let kept = keep_holders c.self.inside.opens c.reserve.new.self c.self.inside.tree c.self.invariant (ap (λ t. t.files) c.in_ok-reserve.ensures.ok) in
    let made = made_holders c.reserve.new.self c.self.inside.tree c.create.new.self (c.name_in-name.result.now ∷ m.named.above) File kept (c.in-Ok.ensures.ok m.named.above m.named.stands) in
    let room = subst (λ (t : OpenTables). 0 < t.room) (sym c.in_ok-reserve.ensures.ok) (some_room c.self.inside.opens.room) in
    hold_fits c.reserve.new.self c.create.new.self c.in-Ok.node.0 made room c.reserve.ensures.fits

pub invariant_of-self-2 : goal.invariant_of-self-2
invariant_of-self-2 c =
    let m = missing_in c.self.inside.opens c.self.inside.tree c.args.self.now c.args.pid.0 c.args.text.now c.args.last c.self.view_is c.requires.missing in
    let kept = keep_holders c.self.inside.opens c.reserve.new.self c.self.inside.tree c.self.invariant (ap (λ t. t.files) c.in_ok-reserve.ensures.ok) in
    let made = made_holders c.reserve.new.self c.self.inside.tree c.create.new.self (c.name_in-name.result.now ∷ m.named.above) File kept (c.in-Ok.ensures.ok m.named.above m.named.stands) in
    opened_holders c.reserve.new.self c.open_node-fd.new.opens c.create.new.self c.open_node-fd.new.tree c.in-Ok.node.0 (opened_file c.in-Ok.node.0 c.args.asked.flags.0 c.args.asked.access) made refl
    (ap (λ t. t.files) c.open_node-fd.ensures.opens) c.open_node-fd.ensures.tree c.open_node-fd.ensures.counted
