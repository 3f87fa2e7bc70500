use Rattle.std.proofs.Common.{sym, ◌∙◌}
use Rattle.sp_world.specs.Told.{Told}
use Rattle.sp_world.proofs.StepLaws.{steps_of}
use Rattle.sp_world.proofs.Telling.{IsNoted, note_runs, unnoted_runs}
use Rattle.sp_world.proofs.world.World.play.Goals as goal

pub play-reply-requires-clause-steps : goal.play-reply-requires-clause-steps
play-reply-requires-clause-steps c =
    steps_of (record { world = c.self.inside.parts; events = c.self.inside.log.events.items; refused = c.self.inside.log.refused.items }) c.self.invariant

pub invariant_of-self-then-is_wanting : goal.invariant_of-self-then-is_wanting
invariant_of-self-then-is_wanting c =
    let old : Told = record { world = c.self.inside.parts; events = c.self.inside.log.events.items; refused = c.self.inside.log.refused.items } in
    let new : Told = record { world = c.play-reply.new.self; events = c.keep_room.new.self.events.items; refused = c.keep_room.new.self.refused.items } in
    unnoted_runs old c.args.event c.play-reply.result new c.self.invariant c.play-reply.ensures (sym c.is_wanting.ensures ∙ c.if-is_wanting.true)
    c.keep_room.ensures.events c.keep_room.ensures.refused

pub invariant_of-self-2 : goal.invariant_of-self-2
invariant_of-self-2 c =
    let old : Told = record { world = c.self.inside.parts; events = c.self.inside.log.events.items; refused = c.self.inside.log.refused.items } in
    let room : Told = record { world = c.self.inside.parts; events = c.keep_room.new.self.events.items; refused = c.keep_room.new.self.refused.items } in
    let new : Told = record { world = c.play-reply.new.self; events = c.note.new.self.events.items; refused = c.note.new.self.refused.items } in
    let noted : IsNoted old c.args.event c.play-reply.result room new = record {
      gives = c.play-reply.ensures;
      answers = sym c.is_wanting.ensures ∙ c.if-is_wanting.false;
      work = c.is_work-is_work.result;
      is_work = c.is_work-is_work.ensures;
      refuses = c.refuses_memory.result;
      refuses_is = c.refuses_memory.ensures;
      copy = c.in-Ok.copy;
      copies = c.in-Ok.ensures.copy;
      keeps_events = c.keep_room.ensures.events;
      keeps_refused = c.keep_room.ensures.refused;
      events = c.note.ensures.events;
      refused = c.note.ensures.refused;
    } in
    note_runs old c.args.event c.play-reply.result room new c.self.invariant noted
