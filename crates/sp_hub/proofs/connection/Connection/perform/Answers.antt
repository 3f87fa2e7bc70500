use Rattle.std.proofs.Common.{◌≡◌, Some, None, sym, ap, ◌∙◌}
use Rattle.std.specs.FinMap as map
use Rattle.sp_frames.specs.Grammar.{Fits}
use Rattle.kern_model.specs.Journal.{next_entry}
use Rattle.kern_model.specs.declared.journal.Who.TheVariants.{Request}
use Rattle.kern_model.specs.declared.operation.Op.TheVariants.{Sys}
use Rattle.hub_model.proofs.Keeps.{all_push}
use Rattle.hub_model.specs.declared.state.OpenCall.{OpenCall}
use Rattle.sp_hub.specs.Work.{waiting, next_of}
use Rattle.sp_hub.specs.declared.gathered.Gathered.{Gathered}
use Rattle.sp_hub.proofs.Plays.{plays_waiting}
use Rattle.sp_hub.proofs.Works.{fits_end, taken, no_entry, room_after}
use Rattle.sp_hub.proofs.connection.Connection.perform.Goals as goal

pub is_ready-requires : goal.is_ready-requires
is_ready-requires c =
    let all = c.requires.gathered c.swap.new.value (taken c.args.self.now _ c.args.number.0 c.swap.new.value c.self.view_is c.swap.ensures.value) in
    fits_end c.args.kernel.now.items c.swap.new.value c.args.pid c.args.no c.args.number c.of-gathered.result all c.requires.live c.of-gathered.ensures

pub into_task-task-requires : goal.into_task-task-requires
into_task-task-requires c =
    let all = c.requires.gathered c.swap.new.value (taken c.args.self.now _ c.args.number.0 c.swap.new.value c.self.view_is c.swap.ensures.value) in
    (all.call, ap (λ (g : Gathered). g.op) (c.of-gathered.ensures all.call all.ins all.is))

pub invariant_of-self : goal.invariant_of-self
invariant_of-self c =
    let all = c.requires.gathered c.swap.new.value (taken c.args.self.now _ c.args.number.0 c.swap.new.value c.self.view_is c.swap.ensures.value) in
    let g = c.of-gathered.ensures all.call all.ins all.is in
    let task : c.into_task-task.result ≡ c.swap.new.value = c.into_task-task.ensures all.call (ap (λ (g : Gathered). g.op) g) ∙ ap (λ (g : Gathered). waiting all.call g.ins) g ∙ sym all.is in
    let calls : c.swap-then-not-is_ready.new.self ≡ c.self.inside.calls =
    c.swap-then-not-is_ready.ensures.table ∙ ap (λ (t : OpenCall). map.insert c.swap.new.self c.args.number.0 t) task ∙ c.swap.ensures.back c.swap.new.value (sym c.swap.ensures.value) in
    rw calls c.self.invariant

pub returns-then-not-is_ready-clause-performs : goal.returns-then-not-is_ready-clause-performs
returns-then-not-is_ready-clause-performs c call ins e =
    let same : Some c.swap.new.value ≡ Some (waiting call ins) = sym (taken c.args.self.now _ c.args.number.0 c.swap.new.value c.self.view_is c.swap.ensures.value) ∙ e in
    let is : c.swap.new.value ≡ waiting call ins = cc in
    let g = c.of-gathered.ensures call ins is in
    let task : c.into_task-task.result ≡ c.swap.new.value = c.into_task-task.ensures call (ap (λ (g : Gathered). g.op) g) ∙ ap (λ (g : Gathered). waiting call g.ins) g ∙ sym is in
    let calls : c.swap-then-not-is_ready.new.self ≡ c.self.inside.calls =
    c.swap-then-not-is_ready.ensures.table ∙ ap (λ (t : OpenCall). map.insert c.swap.new.self c.args.number.0 t) task ∙ c.swap.ensures.back c.swap.new.value (sym c.swap.ensures.value) in
    let next = next_entry c.args.kernel.now.items c.args.pid (Request c.args.no c.args.number) (Sys call) ins in
    let none : next ≡ None = sym (ap (next_of c.args.kernel.now.items) g) ∙ no_entry c.is_ready.result _ c.is_ready.ensures c.if-not-is_ready.true in
    let plays = plays_waiting c.args.no c.args.number next c.args.kernel.now.items c.args.self.now none in
    rw (calls, c.self.view_is) plays

pub perform-requires-clause-fits : goal.perform-requires-clause-fits
perform-requires-clause-fits c =
    let all = c.requires.gathered c.swap.new.value (taken c.args.self.now _ c.args.number.0 c.swap.new.value c.self.view_is c.swap.ensures.value) in
    fits_end c.args.kernel.now.items c.swap.new.value c.args.pid c.args.no c.args.number c.of-gathered.result all c.requires.live c.of-gathered.ensures

pub invariant_of-self-in-Ok : goal.invariant_of-self-in-Ok
invariant_of-self-in-Ok c =
    let all = c.requires.gathered c.swap.new.value (taken c.args.self.now _ c.args.number.0 c.swap.new.value c.self.view_is c.swap.ensures.value) in record {
      room = λ speaks. rw c.swap.ensures.table (room_after c.self.inside.calls c.args.number.0 c.self.inside.queue.spare c.perform.new.queue.spare c.swap.new.value all c.swap.ensures.value (c.self.invariant.room speaks) c.in-Ok.ensures.spare);
      fits = c.perform.ensures.fits c.self.invariant.fits;
    }

pub invariant_of-self-in-Err : goal.invariant_of-self-in-Err
invariant_of-self-in-Err c =
    let all = c.requires.gathered c.swap.new.value (taken c.args.self.now _ c.args.number.0 c.swap.new.value c.self.view_is c.swap.ensures.value) in
    let less = rw c.in-Err.ensures.queue at c.put_kept.ensures.spare in
    let items = rw c.in-Err.ensures.queue at c.put_kept.ensures.items in record {
      room = λ speaks. rw c.swap.ensures.table (room_after c.self.inside.calls c.args.number.0 c.self.inside.queue.spare c.put_kept.new.self.spare c.swap.new.value all c.swap.ensures.value (c.self.invariant.room speaks) less);
      fits = rw items (all_push Fits c.self.inside.queue.items c.refusal.result c.self.invariant.fits c.refusal.ensures.fits);
    }
