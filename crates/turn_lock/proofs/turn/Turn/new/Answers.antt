use Rattle.std.proofs.Common.{ap, sym, Some}
use Rattle.turn_lock.specs.Rule.{home}
use Rattle.turn_lock.proofs.Turns.{opens}
use Rattle.turn_lock.proofs.turn.Turn.new.Goals as goal

pub new-requires : goal.new-requires
new-requires g c = opens g.O.Object.step c.of-opening.result.value c.in_ok-slots.slots.items (home c.args.object) c.in_ok-slots.ensures (ap Some (sym c.of-opening.ensures))
