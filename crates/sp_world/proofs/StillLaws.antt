-- When a world is still.
use Rattle.std.specs.Prelude.{◌&&◌, ◌||◌, ◌==◌, not, map, IsTrue, slice_get}
use Rattle.std.specs.List.{list_any}
use Rattle.std.specs.FinMap.{entries, get, values}
use Rattle.std.proofs.Common.{◌≡◌, ℕ, Bool, true, false, cond, List, [], ◌∷◌, length, Option, Some, None, refl, sym, ap, ◌∙◌, arith}
use Rattle.sp_base.specs.Needs.{needs_of}
use Rattle.sp_base.specs.declared.call.Call.{Call}
use Rattle.sp_base.specs.declared.names.ConnNo.{ConnNo}
use Rattle.sp_base.specs.declared.names.Pid.{Pid}
use Rattle.sp_base.specs.declared.names.ReqNo.{ReqNo}
use Rattle.sp_base.specs.declared.need.Need.{Need}
use Rattle.kern_model.specs.Act.{act, has_step}
use Rattle.kern_model.specs.Journal.{entry_of_step, next_entry, state_after}
use Rattle.kern_model.specs.Step.{Step}
use Rattle.kern_model.specs.declared.journal.Entry.{Entry}
use Rattle.kern_model.specs.declared.journal.Who.{Who}
use Rattle.kern_model.specs.declared.journal.Who.TheVariants.{Request}
use Rattle.kern_model.specs.declared.operation.Ins.{Ins}
use Rattle.kern_model.specs.declared.operation.Ins.TheVariants.{Given, Fault}
use Rattle.kern_model.specs.declared.operation.Op.{Op}
use Rattle.kern_model.specs.declared.operation.Op.TheVariants.{Sys}
use Rattle.kern_model.proofs.Lemmas.{call_acts}
use Rattle.hub_model.specs.Sound.{is_waiting}
use Rattle.hub_model.specs.State.{Connection, Machine, Played, process_in}
use Rattle.hub_model.specs.Still.{has_work, is_idle}
use Rattle.hub_model.specs.Work.{gather, perform, performed, work_at, work_call, work_number}
use Rattle.hub_model.specs.declared.event.Reply.TheVariants as reply
use Rattle.hub_model.specs.declared.state.OpenCall.{OpenCall}
use Rattle.hub_model.specs.declared.state.OpenCall.TheVariants.{Gathers, Fails, Answers}
use Rattle.hub_model.proofs.OwnersStay.{other_number}
use Rattle.client_model.specs.Run.{has_no_frame, is_still as is_client_still}
use Rattle.client_model.specs.State.{Client}
use Rattle.world_model.specs.Host.{is_ready}
use Rattle.world_model.specs.State.{Link, World}
use Rattle.world_model.specs.Still.{is_empty_link, is_not_ready, is_quiet, is_still, would_wait}
use Rattle.sp_world.specs.Steps.{HasStep, HaveSteps}

-- ---- lists

-- a test of the values is one of the entries
any_values : {X : Type 0} (test : X → Bool) (es : List (ℕ × X)) → list_any (λ e. test e.1) es ≡ list_any test (map (λ e. e.1) es)
any_values test [] = refl
any_values test (e ∷ es) = ap (λ b. test e.1 || b) (any_values test es)

any_same : {X : Type 0} (test other : X → Bool) → ((x : X) → test x ≡ other x) → (xs : List X) → list_any test xs ≡ list_any other xs
any_same test other same [] = refl
any_same test other same (x ∷ xs) = ap (λ b. b || list_any test xs) (same x) ∙ ap (λ b. other x || b) (any_same test other same xs)

-- ---- no call waits for the kernel

entry_none : (pid : Pid) (who : Who) (op : Op) (i : Ins) (step : Step) → entry_of_step pid who op i step ≡ None → step ≡ None
entry_none pid who op i None none = refl
entry_none pid who op i (Some step) none = absurd (cc)

module _ (m : Machine) (c : ConnNo) (r : ReqNo) (x : Connection) where
  by_entry : (e : Option Entry) → (e ≡ None → ⊥) → is_not_ready (performed true m c x r e).0 ≡ false
  by_entry None some = absurd (some refl)
  by_entry (Some e) some = refl

  by_process : (call : Call) (i : Ins) (pid : Option Pid) → ((p : Pid) → next_entry m.journal p (Request c r) (Sys call) i ≡ None → ⊥)
      → is_not_ready (perform true m c x r call i pid).0 ≡ false
  by_process call i None some = refl
  by_process call i (Some pid) some = by_entry (next_entry m.journal pid (Request c r) (Sys call) i) (some pid)

  by_need : (call : Call) (got : List (List ℕ)) (need : Option Need) → IsTrue (has_step call) → is_not_ready (gather true m c x r call got need).0 ≡ false
  by_need call got (Some need) has = refl
  by_need call got None has = by_process call (Given got) (process_in x.condition) (λ p none.
      call_acts (state_after m.journal) p.0 call got has (entry_none p (Request c r) (Sys call) (Given got) (act (state_after m.journal) p.0 (Sys call) (Given got)) none))

  by_task : (task : OpenCall) → HasStep task → is_not_ready (work_call true m c x r task).0 ≡ false
  by_task (Gathers call got true) has = refl
  by_task (Gathers call got false) has = by_need call got (slice_get (needs_of call) (length got)) has
  by_task (Fails call why) has = by_process call (Fault why) (process_in x.condition) (λ p none. cc)
  by_task Answers has = refl

  by_number : (task : Option OpenCall) → ((t : OpenCall) → task ≡ Some t → HasStep t) → is_not_ready (work_number true m c x r task).0 ≡ false
  by_number None has = refl
  by_number (Some task) has = by_task task (has task refl)

module _ (m : Machine) (steps : HaveSteps m) where
  by_connection : (c : ConnNo) (r : ReqNo) (x : Option Connection) → get m.connections c.0 ≡ x → is_not_ready (work_at true m c r x).0 ≡ false
  by_connection c r None here = refl
  by_connection c r (Some x) here = by_number m c r x (get x.calls r.0) (λ task there. steps c.0 x here r.0 task there)

  by_halted : (c : ConnNo) (r : ReqNo) (halted : Bool) → is_not_ready (cond {A = Played} halted (reply.Closed, m) (work_at true m c r (get m.connections c.0))).0 ≡ false
  by_halted c r true = refl
  by_halted c r false = by_connection c r (get m.connections c.0) refl

  -- whatever call is worked, the kernel is ready for it
  none_waits : (c n : ℕ) → would_wait m c n ≡ false
  none_waits c n = by_halted (record { 0 = c }) (record { 0 = n }) m.halted

  kept_test : (b waits : Bool) → waits ≡ false → (b && not waits) ≡ b
  kept_test true waits none = ap not none
  kept_test false waits none = refl

  no_frame : {X : Type 0} (queue : List X) → has_no_frame queue ≡ (length queue == 0)
  no_frame [] = refl
  no_frame (f ∷ queue) = sym (other_number (length (f ∷ queue)) 0 (λ e. omega arith))

  either : (a b : Bool) → not (a && not b) ≡ (not a || b)
  either true true = refl
  either true false = refl
  either false b = refl

  -- something of a connection goes on where it has work
  quiet_is : (c : ℕ) (x : Connection) → not (is_quiet m c x) ≡ has_work x
  quiet_is c x =
      let calls : list_any (λ call. is_waiting call.1 && not (would_wait m c call.0)) (entries x.calls) ≡ list_any is_waiting (values x.calls) =
      any_same (λ call. is_waiting call.1 && not (would_wait m c call.0)) (λ call. is_waiting call.1)
      (λ call. kept_test (is_waiting call.1) (would_wait m c call.0) (none_waits c call.0)) (entries x.calls)
      ∙ any_values is_waiting (entries x.calls) in
      ap (λ b. not (has_no_frame x.queue && not b)) calls
      ∙ either (has_no_frame x.queue) (list_any is_waiting (values x.calls))
      ∙ ap (λ b. not b || list_any is_waiting (values x.calls)) (no_frame x.queue)

  -- nothing goes on at the server where it is idle
  idle_is : not (list_any (λ x. not (is_quiet m x.0 x.1)) (entries m.connections)) ≡ is_idle m
  idle_is = ap not (
      any_same (λ x. not (is_quiet m x.0 x.1)) (λ x. has_work x.1) (λ x. quiet_is x.0 x.1) (entries m.connections)
      ∙ any_values has_work (entries m.connections))

-- ---- the world

-- a world is still where no frame is under way, its server is idle, no client has anything to do, and no host call could be performed
pub still_is : (w : World) → HaveSteps w.rump → is_still w ≡ (
    not (list_any (λ l. not (is_empty_link l)) (values w.links)) && is_idle w.rump
    && not (list_any (λ k. not (is_client_still k)) (values w.clients)) && not (list_any (λ call. is_ready w call) w.waiting))
still_is w steps =
    let calls = not (list_any (λ call. is_ready w call) w.waiting) in
    ap (λ b. not b && not (list_any (λ x. not (is_quiet w.rump x.0 x.1)) (entries w.rump.connections))
    && not (list_any (λ k. not (is_client_still k.1)) (entries w.clients)) && calls) (any_values (λ (l : Link). not (is_empty_link l)) (entries w.links))
    ∙ ap (λ b. not (list_any (λ l. not (is_empty_link l)) (values w.links)) && b
    && not (list_any (λ k. not (is_client_still k.1)) (entries w.clients)) && calls) (idle_is w.rump steps)
    ∙ ap (λ b. not (list_any (λ l. not (is_empty_link l)) (values w.links)) && is_idle w.rump
    && not b && calls) (any_values (λ (k : Client). not (is_client_still k)) (entries w.clients))
