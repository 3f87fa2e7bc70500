use Rattle.std.proofs.Common.{◌+◌, ◌≤◌, refl, arith}
use Rattle.std.specs.Prelude.{count_by, is_some}
use Rattle.kern_model.specs.Journal.{state_after}
use Rattle.kern_model.specs.declared.journal.Who.TheVariants.{Request}
use Rattle.sp_hub.proofs.Exits.{few_processes}
use Rattle.sp_hub.proofs.Handovers.{appends, room}
use Rattle.sp_hub.proofs.kernel.hand_over.Goals as goal

pub overflow_add-processes : goal.overflow_add-processes
overflow_add-processes c = let few = few_processes c.args.kernel.now.items in let is = c.processes.ensures in omega arith

pub returns-in-Done-clause-ok : goal.returns-in-Done-clause-ok
returns-in-Done-clause-ok c =
    let does = rw c.none.ensures at (c.in-Done.ensures.done c.in-Done.place refl) in
    let is = appends c.reserve.new.self c.act.new.self c.args.pid (Request c.args.no c.args.number) c.args.op c.in-Done.place.0 c.requires.kind does in
    rw c.in_ok-reserve.ensures.ok at is

pub returns-in-Done-clause-room : goal.returns-in-Done-clause-room
returns-in-Done-clause-room c =
    let does = rw c.none.ensures at (c.in-Done.ensures.done c.in-Done.place refl) in
    let kept = c.in_ok-reserve.ensures.ok in
    let is = c.processes.ensures in
    let enough : count_by is_some (state_after c.reserve.new.self.items).processes + 1 ≤ c.reserve.new.self.spare = rw kept (omega (arith, is)) in
    room c.reserve.new.self c.act.new.self c.args.pid (Request c.args.no c.args.number) c.args.op c.in-Done.place.0 c.requires.kind enough does
