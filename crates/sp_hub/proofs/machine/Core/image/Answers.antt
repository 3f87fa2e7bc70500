use Rattle.std.proofs.Common.{◌≡◌, Some, sym, ap, ◌∙◌}
use Rattle.sp_fork.specs.Jar.{redeemable}
use Rattle.sp_fork.specs.declared.unused.CookieKind.TheVariants.{Exec}
use Rattle.kern_model.specs.Journal.{next_entry}
use Rattle.kern_model.specs.declared.journal.Who.TheVariants.{Request}
use Rattle.kern_model.specs.declared.operation.Op.TheVariants as op
use Rattle.hub_model.specs.Journal.{nothing_read}
use Rattle.hub_model.specs.State.{Machine}
use Rattle.sp_hub.proofs.Images.{image_is, image_speaks}
use Rattle.sp_hub.proofs.machine.Core.image.Goals as goal

pub leave-requires : goal.leave-requires
leave-requires c =
    let there : redeemable c.args.self.now.cookies c.args.cookie Exec ≡ Some c.in-Some.unused =
    ap (λ (m : Machine). redeemable m.cookies c.args.cookie Exec) (sym c.self.view_is) ∙ (sym c.redeemable.ensures ∙ c.in-Some.is) in
    image_speaks c.args.self.now c.take_over.new.self c.args.no c.args.frame.now c.args.cookie c.in-Some.unused (next_entry c.args.self.now.journal c.in-Some.unused.pid (Request c.args.no c.args.frame.now.number) op.Exec nothing_read) c.requires.there c.requires.sound c.requires.fresh there c.in_ok-take_over.ensures.ok

pub returns-clause-state : goal.returns-clause-state
returns-clause-state c x here =
    let there : redeemable c.args.self.now.cookies c.args.cookie Exec ≡ Some c.in-Some.unused =
    ap (λ (m : Machine). redeemable m.cookies c.args.cookie Exec) (sym c.self.view_is) ∙ (sym c.redeemable.ensures ∙ c.in-Some.is) in
    c.leave.ensures
    ∙ image_is c.args.self.now c.take_over.new.self c.args.no x c.args.frame.now c.args.cookie c.in-Some.unused c.requires.sound here (c.requires.fresh x here) there (c.in_ok-take_over.ensures.ok x here)
