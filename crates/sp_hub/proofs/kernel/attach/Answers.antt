use Rattle.std.proofs.Common.{◌∙◌, ◌+◌, ◌≤◌, refl, sym, ap, arith}
use Rattle.std.specs.Option.{option_copied}
use Rattle.std.specs.Prelude.{count_by, is_some}
use Rattle.kern_model.specs.Journal.{state_after}
use Rattle.sp_hub.proofs.Exits.{attach_room, few_processes}
use Rattle.sp_hub.proofs.Handshakes.{last_is, last_below, attached}
use Rattle.sp_hub.proofs.kernel.attach.Goals as goal

pub overflow_add-processes : goal.overflow_add-processes
overflow_add-processes c = let few = few_processes c.args.kernel.now.items in let is = c.processes.ensures in omega arith

pub overflow_cast-result : goal.overflow_cast-result
overflow_cast-result c =
    let does = rw c.none.ensures at (c.in-Done.ensures.done c.in-Done.field-0 refl) in
    let last = rw c.journal.ensures.journal at c.last.ensures.value in
    let below = last_below c.reserve.new.self c.act.new.self c.args.no c.args.number c.in-Done.field-0.0 c.in-Some.entry.now does (sym (ap option_copied c.in-Some.is) ∙ last) in
    omega arith

pub unreachable-requires : goal.unreachable-requires
unreachable-requires c =
    let does = rw c.none.ensures at (c.in-Done.ensures.done c.in-Done.field-0 refl) in
    let last = rw c.journal.ensures.journal at c.last.ensures.value in
    let there = last_is c.reserve.new.self c.act.new.self c.args.no c.args.number c.in-Done.field-0.0 _ does last in
    let none = sym (ap option_copied c.in-None.is) ∙ there in absurd cc

pub returns-in-Some-clause-ok : goal.returns-in-Some-clause-ok
returns-in-Some-clause-ok c =
    let does = rw c.none.ensures at (c.in-Done.ensures.done c.in-Done.field-0 refl) in
    let last = rw c.journal.ensures.journal at c.last.ensures.value in
    let is = attached c.reserve.new.self c.act.new.self c.args.no c.args.number c.in-Done.field-0.0 c.in-Some.entry.now does (sym (ap option_copied c.in-Some.is) ∙ last) in
    rw c.in_ok-reserve.ensures.ok at is

pub returns-in-Some-clause-room : goal.returns-in-Some-clause-room
returns-in-Some-clause-room c =
    let does = rw c.none.ensures at (c.in-Done.ensures.done c.in-Done.field-0 refl) in
    let kept = c.in_ok-reserve.ensures.ok in
    let is = c.processes.ensures in
    let room : count_by is_some (state_after c.reserve.new.self.items).processes + 1 ≤ c.reserve.new.self.spare = rw kept (omega arith) in
    attach_room c.reserve.new.self c.act.new.self c.args.no c.args.number c.in-Done.field-0.0 room does
