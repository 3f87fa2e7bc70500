use Rattle.std.proofs.Common.{refl}
use Rattle.sp_hub.proofs.Exits.{exit_journal, exit_room}
use Rattle.sp_hub.proofs.kernel.exit.Goals as goal

pub returns-in-Done-clause-journal : goal.returns-in-Done-clause-journal
returns-in-Done-clause-journal c =
    let does = rw c.none.ensures at (c.in-Done.ensures.done c.in-Done.field-0 refl) in
    exit_journal c.args.kernel.now c.act.new.self c.args.pid c.args.who c.in-Done.field-0.0 does

pub returns-in-Done-clause-room : goal.returns-in-Done-clause-room
returns-in-Done-clause-room c =
    let does = rw c.none.ensures at (c.in-Done.ensures.done c.in-Done.field-0 refl) in
    exit_room c.args.kernel.now c.act.new.self c.args.pid c.args.who c.in-Done.field-0.0 c.requires.live c.requires.room does
