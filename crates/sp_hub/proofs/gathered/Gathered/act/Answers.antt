use Rattle.std.proofs.Common.{◌+◌, ◌≤◌, arith}
use Rattle.std.specs.Prelude.{count_by, is_some}
use Rattle.kern_model.specs.Journal.{state_after}
use Rattle.sp_hub.specs.Work.{FitsEnd}
use Rattle.sp_hub.proofs.Exits.{few_processes}
use Rattle.sp_hub.proofs.Works.{appends, call_room}
use Rattle.sp_hub.proofs.gathered.Gathered.act.Goals as goal

pub returns-in-Done-clause-ok : goal.returns-in-Done-clause-ok
returns-in-Done-clause-ok c =
    let kept = c.in_ok-reserve.ensures.ok in
    let does = rw kept at (c.act.ensures.done c.in-Done.place c.in-Done.is) in
    appends _ c.act.new.self c.args.self c.in-Done.place.0 c.requires.fits does

pub returns-in-Done-clause-room : goal.returns-in-Done-clause-room
returns-in-Done-clause-room c =
    let kept = c.in_ok-reserve.ensures.ok in
    let few = few_processes c.args.kernel.now.items in
    let does = c.act.ensures.done c.in-Done.place c.in-Done.is in
    let fits : FitsEnd c.reserve.new.self.items c.args.self = rw kept c.requires.fits in
    let room : count_by is_some (state_after c.reserve.new.self.items).processes + 1 ≤ c.reserve.new.self.spare = rw kept (omega arith) in
    call_room c.reserve.new.self c.act.new.self c.args.self c.in-Done.place.0 fits room does
