use Rattle.std.proofs.Common.{subst, sym}
use Rattle.guest_run.specs.Run.{IsEnded}
use Rattle.guest_run.specs.declared.running.RunEnd.{RunEnd}
use Rattle.guest_run.proofs.running.finish.Goals as goal

pub returns-in-Whole : goal.returns-in-Whole
returns-in-Whole c = λ pid rest.
    let at = rest c.in-Whole.is in
    let now = c.args.joined.now in
    subst (λ (e : RunEnd). IsEnded e now.conn pid now.hub.journal c.end.new.self.hub.journal) (sym c.in-Whole.is) (c.end.ensures pid at.0 at.1)
