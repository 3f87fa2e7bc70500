-- An open call is worked, and a frame is handed out.
use Rattle.std.proofs.Common.{◌≡◌, ◌≢◌, inl, inr, ℕ, ◌≤◌, Bool, true, false, List, [], ◌∷◌, ◌++◌, length, Option, Some, None, slice_get, refl, sym, subst, arith, append-nil, append_assoc}
use Rattle.std.proofs.lemmas.Bool.{cases_lt}
use Rattle.std.specs.FinMap.{get, insert}
use Rattle.sp_base.specs.Needs.{needs_of}
use Rattle.sp_base.specs.declared.call.Call.{Call}
use Rattle.sp_base.specs.declared.names.ConnNo.{ConnNo}
use Rattle.sp_base.specs.declared.names.Pid.{Pid}
use Rattle.sp_base.specs.declared.names.ReqNo.{ReqNo}
use Rattle.sp_base.specs.declared.names.SpError.TheVariants as error
use Rattle.sp_base.specs.declared.need.Need.{Need}
use Rattle.sp_base.specs.declared.need.Need.TheVariants.{Bytes, Text}
use Rattle.sp_frames.specs.declared.frame.Frame.{Frame}
use Rattle.kern_model.specs.Journal.{next_entry}
use Rattle.kern_model.specs.declared.journal.Entry.{Entry}
use Rattle.kern_model.specs.declared.journal.Who.TheVariants.{Request}
use Rattle.kern_model.specs.declared.operation.Ins.{Ins}
use Rattle.kern_model.specs.declared.operation.Ins.TheVariants.{Given, Fault}
use Rattle.kern_model.specs.declared.operation.Op.TheVariants as op
use Rattle.hub_model.specs.Frames.{ask, refusal, told}
use Rattle.hub_model.specs.Sound.{IsAnswered, IsOpened, is_waiting}
use Rattle.hub_model.specs.State.{Connection, Machine, is_draining, process_in}
use Rattle.hub_model.specs.Work.{calls_after, gather, perform, performed, take_at, take_from, work_at, work_call, work_number}
use Rattle.hub_model.specs.declared.event.Event.TheVariants as event
use Rattle.hub_model.specs.declared.event.Reply.{Reply}
use Rattle.hub_model.specs.declared.event.Reply.TheVariants as reply
use Rattle.hub_model.specs.declared.state.Condition.{Condition}
use Rattle.hub_model.specs.declared.state.Condition.TheVariants as condition
use Rattle.hub_model.specs.declared.state.OpenCall.{OpenCall}
use Rattle.hub_model.specs.declared.state.OpenCall.TheVariants.{Gathers, Fails, Answers}
use Rattle.tables.proofs.Maps.{get_put, get_put_other}
use Rattle.hub_law.specs.Frames.{answers_to, is_last_error, numbered}
use Rattle.hub_law.proofs.Frames.{AreOf, told_of}
use Rattle.hub_law.proofs.Keys.{Grows, IsBy, grows_push, grows_same, next_is, stays_push}
use Rattle.hub_law.proofs.Kept.{Frames, Happens, IsQuiet, Kept, out_kept, put_moves, quiet_kept, unchanged}
use Rattle.hub_law.proofs.Lanes.{GrowsPast, Lane, Rests, Speaks, silent_on, speaks_on, touched}
use Rattle.hub_law.proofs.Lanes.Lane.{Alive, Drains, Over, Unopened}
use Rattle.hub_law.proofs.Ledgers.{forks_fewer}
use Rattle.hub_law.proofs.Requests.{apart_conn, apart_number, none_numbered}
use Rattle.hub_law.proofs.Stages.{Final, StageOf}
use Rattle.hub_law.proofs.Steps.{asked, failed_performed, failed_refused, gathered_performed, gathered_refused}

work_quiet : (c : ConnNo) (r : ReqNo) (answer : Reply) → IsQuiet (event.Work c r) answer
work_quiet c r answer = record { none_in = λ d. refl; none_out = λ d. refl }

ask_plain : (r : ReqNo) (index : ℕ) (need : Need) → is_last_error (ask r index need).body ≡ false
ask_plain r index (Bytes addr len) = refl
ask_plain r index (Text addr limit) = refl

-- ---- a call of a connection that takes frames is worked

module _ (m : Machine) (came sent : Frames) (kept : Kept m came sent) (c : ConnNo) (x : Connection) (live : is_draining x.condition ≡ false) (opened : IsOpened m.opened c.0)
    (speaks : Speaks c x.last x.calls (came c) (sent c ++ x.queue) m.journal) (r : ReqNo) where
  -- a call that isn't performed yet has a number that isn't above the last one
  within : (task : OpenCall) → get x.calls r.0 ≡ Some task → is_waiting task ≡ true → r.0 ≤ x.last
  within task here waits = elim (cases_lt x.last r.0) [
    | inl later ↦ absurd (let k : is_waiting task ≡ false = subst IsAnswered here (speaks.above r later).quiet in cc)
    | inr le ↦ le
  ]

  -- the call of a number changes, and frames of its number are queued
  call_changes : (answer : Reply) (journal : List Entry) (task' : OpenCall) (says : List Frame) → r.0 ≤ x.last → AreOf r says
      → ((d : ConnNo) → d.0 ≢ c.0 → GrowsPast d m.journal journal) → ((q : ReqNo) → q.0 ≢ r.0 → Grows c q m.journal journal)
      → ((p : ℕ) (e : Entry) → slice_get m.journal p ≡ Some e → slice_get journal p ≡ Some e)
      → StageOf journal c r (numbered r.0 (came c)) (answers_to r.0 (sent c ++ x.queue) ++ says) (Some task')
      → Happens (event.Work c r) came sent (
        answer,
        record m { journal = journal; connections = insert m.connections c.0 (record { condition = x.condition; last = x.last; calls = insert x.calls r.0 task'; queue = x.queue ++ says }) },
      )
  call_changes answer journal task' says low are past others stays stage =
      let x' : Connection = record { condition = x.condition; last = x.last; calls = insert x.calls r.0 task'; queue = x.queue ++ says } in
      let m' : Machine = record m { journal = journal; connections = insert m.connections c.0 x' } in
      quiet_kept m m' c (Some x') came sent (event.Work c r) answer kept (work_quiet c r answer)
      (put_moves m c x' journal m.cookies m.handovers past (forks_fewer m.journal journal m.cookies m.cookies stays (λ n u h. h) kept.forks))
      (Alive x' refl live opened
      (subst (λ (fs : List Frame). Speaks c x.last x'.calls fs (sent c ++ (x.queue ++ says)) journal) (append-nil (came c))
      (subst (λ (fs : List Frame). Speaks c x.last x'.calls (came c ++ []) fs journal) (append_assoc (sent c) x.queue says)
      (touched c r x.last x.last x.calls x'.calls (came c) [] (sent c ++ x.queue) says m.journal journal
      speaks (omega arith) low (none_numbered r) are others (λ n ne. get_put_other x.calls r.0 task' n ne)
      (subst (λ (t : Option OpenCall). StageOf journal c r (numbered r.0 (came c) ++ []) (answers_to r.0 (sent c ++ x.queue) ++ says) t) (sym (get_put x.calls r.0 task'))
      (subst (λ (fs : List Frame). StageOf journal c r fs (answers_to r.0 (sent c ++ x.queue) ++ says) (Some task')) (sym (append-nil (numbered r.0 (came c)))) stage))))))

  -- an open call is performed, or refused for want of memory
  performed_kept : (memory : Bool) (pid : Pid) (operation : _) (ins : Ins) (next : Option Entry) → r.0 ≤ x.last → next_entry m.journal pid (Request c r) operation ins ≡ next
      → ((e : Entry) → IsBy pid (Request c r) operation ins e
      → Final (m.journal ++ e ∷ []) c r (numbered r.0 (came c)) (answers_to r.0 (sent c ++ x.queue) ++ told r e.outcome (length m.journal)))
      → Final m.journal c r (numbered r.0 (came c)) (answers_to r.0 (sent c ++ x.queue) ++ refusal r 1 error.Memory ∷ [])
      → Happens (event.Work c r) came sent (performed memory m c x r next)
  performed_kept true pid operation ins None low h does wants = unchanged m came sent (event.Work c r) reply.NotReady kept (work_quiet c r reply.NotReady)
  performed_kept false pid operation ins None low h does wants = unchanged m came sent (event.Work c r) reply.NotReady kept (work_quiet c r reply.NotReady)
  performed_kept true pid operation ins (Some e) low h does wants =
      let by = next_is m.journal pid (Request c r) operation ins e h in
      call_changes reply.Done (m.journal ++ e ∷ []) Answers (told r e.outcome (length m.journal)) low (told_of r e.outcome (length m.journal))
      (λ d ne q. grows_push d q m.journal e (apart_conn e c d r q by.who_is ne)) (λ q ne. grows_push c q m.journal e (apart_number e c r q by.who_is ne))
      (stays_push m.journal e) (does e by)
  performed_kept false pid operation ins (Some e) low h does wants =
      call_changes (reply.Refused error.Memory) m.journal Answers (refusal r 1 error.Memory ∷ []) low ((refl, refl), tt)
      (λ d ne q. grows_same d q m.journal) (λ q ne. grows_same c q m.journal) (λ p f s. s) wants

  perform_kept : (memory : Bool) (call : Call) (ins : Ins) (process : Option Pid) → r.0 ≤ x.last
      → ((pid : Pid) (e : Entry) → IsBy pid (Request c r) (op.Sys call) ins e
      → Final (m.journal ++ e ∷ []) c r (numbered r.0 (came c)) (answers_to r.0 (sent c ++ x.queue) ++ told r e.outcome (length m.journal)))
      → Final m.journal c r (numbered r.0 (came c)) (answers_to r.0 (sent c ++ x.queue) ++ refusal r 1 error.Memory ∷ [])
      → Happens (event.Work c r) came sent (perform memory m c x r call ins process)
  perform_kept memory call ins None low does wants = unchanged m came sent (event.Work c r) reply.Nothing kept (work_quiet c r reply.Nothing)
  perform_kept memory call ins (Some pid) low does wants = performed_kept memory pid (op.Sys call) ins _ low refl (does pid) wants

  -- where the call of the number is
  stage_at : (task : OpenCall) → get x.calls r.0 ≡ Some task → StageOf m.journal c r (numbered r.0 (came c)) (answers_to r.0 (sent c ++ x.queue)) (Some task)
  stage_at task here = subst (λ (t : Option OpenCall). StageOf m.journal c r (numbered r.0 (came c)) (answers_to r.0 (sent c ++ x.queue)) t) here (speaks.each r)

  gather_kept : (memory : Bool) (call : Call) (got : List (List ℕ)) (need : Option Need) → get x.calls r.0 ≡ Some (Gathers call got false) → slice_get (needs_of call) (length got) ≡ need
      → Happens (event.Work c r) came sent (gather memory m c x r call got need)
  gather_kept memory call got (Some need) here next =
      call_changes reply.Asked m.journal (Gathers call got true) (ask r (length got) need ∷ []) (within (Gathers call got false) here refl) ((refl, ask_plain r (length got) need), tt)
      (λ d ne q. grows_same d q m.journal) (λ q ne. grows_same c q m.journal) (λ p e s. s)
      (asked m.journal c r _ _ call got need (stage_at (Gathers call got false) here) next)
  gather_kept memory call got None here next =
      perform_kept memory call (Given got) (process_in x.condition) (within (Gathers call got false) here refl)
      (λ pid e by. gathered_performed m.journal c r _ _ call got pid e (stage_at (Gathers call got false) here) by)
      (gathered_refused m.journal c r _ _ call got (stage_at (Gathers call got false) here))

  work_kept : (memory : Bool) (task : OpenCall) → get x.calls r.0 ≡ Some task → Happens (event.Work c r) came sent (work_call memory m c x r task)
  work_kept memory (Gathers call got true) here = unchanged m came sent (event.Work c r) reply.AwaitsAnswer kept (work_quiet c r reply.AwaitsAnswer)
  work_kept memory (Gathers call got false) here = gather_kept memory call got _ here refl
  work_kept memory (Fails call why) here =
      perform_kept memory call (Fault why) (process_in x.condition) (within (Fails call why) here refl)
      (λ pid e by. failed_performed m.journal c r _ _ call why pid e (stage_at (Fails call why) here) by)
      (failed_refused m.journal c r _ _ call why (stage_at (Fails call why) here))
  work_kept memory Answers here = unchanged m came sent (event.Work c r) reply.Nothing kept (work_quiet c r reply.Nothing)

  number_kept : (memory : Bool) (task : Option OpenCall) → get x.calls r.0 ≡ task → Happens (event.Work c r) came sent (work_number memory m c x r task)
  number_kept memory None here = unchanged m came sent (event.Work c r) reply.Nothing kept (work_quiet c r reply.Nothing)
  number_kept memory (Some task) here = work_kept memory task here

work_none : (memory : Bool) (m : Machine) (came sent : Frames) (c : ConnNo) (r : ReqNo) (now : Option Connection) → now ≡ None → Kept m came sent
    → Happens (event.Work c r) came sent (work_at memory m c r now)
work_none memory m came sent c r None none kept = unchanged m came sent (event.Work c r) reply.Nothing kept (work_quiet c r reply.Nothing)
work_none memory m came sent c r (Some x) none kept = absurd (cc)

work_silent : (memory : Bool) (m : Machine) (came sent : Frames) (c : ConnNo) (r : ReqNo) (x : Connection) (task : Option OpenCall) → task ≡ None → Kept m came sent
    → Happens (event.Work c r) came sent (work_number memory m c x r task)
work_silent memory m came sent c r x None none kept = unchanged m came sent (event.Work c r) reply.Nothing kept (work_quiet c r reply.Nothing)
work_silent memory m came sent c r x (Some task) none kept = absurd (cc)

-- an open call is worked
pub works : (memory : Bool) (m : Machine) (came sent : Frames) (c : ConnNo) (r : ReqNo) (now : Option Connection) → Kept m came sent
    → Lane c m.opened now (came c) (sent c) m.journal → Happens (event.Work c r) came sent (work_at memory m c r now)
works memory m came sent c r now kept (Unopened none s) = work_none memory m came sent c r now none kept
works memory m came sent c r now kept (Over none o h) = work_none memory m came sent c r now none kept
works memory m came sent c r now kept (Alive x here live o s) =
    subst (λ (now : Option Connection). Happens (event.Work c r) came sent (work_at memory m c r now)) (sym here)
    (number_kept m came sent kept c x live o s r memory (get x.calls r.0) refl)
works memory m came sent c r now kept (Drains x here drains silent o h) =
    subst (λ (now : Option Connection). Happens (event.Work c r) came sent (work_at memory m c r now)) (sym here)
    (work_silent memory m came sent c r x (get x.calls r.0) (silent r.0) kept)

-- ---- a frame is handed out

closed_quiet : (c : ConnNo) → IsQuiet (event.Take c) reply.Closed
closed_quiet c = record { none_in = λ d. refl; none_out = λ d. refl }

nothing_quiet : (c : ConnNo) → IsQuiet (event.Take c) reply.Nothing
nothing_quiet c = record { none_in = λ d. refl; none_out = λ d. refl }

nothing_left : (m : Machine) (came sent : Frames) (c : ConnNo) (x : Connection) (s : Condition) → Kept m came sent → Happens (event.Take c) came sent (take_from m c x s [])
nothing_left m came sent c x condition.Draining kept = unchanged m came sent (event.Take c) reply.Closed kept (closed_quiet c)
nothing_left m came sent c x condition.Fresh kept = unchanged m came sent (event.Take c) reply.Nothing kept (nothing_quiet c)
nothing_left m came sent c x (condition.Live pid) kept = unchanged m came sent (event.Take c) reply.Nothing kept (nothing_quiet c)
nothing_left m came sent c x (condition.InExec pid) kept = unchanged m came sent (event.Take c) reply.Nothing kept (nothing_quiet c)
nothing_left m came sent c x condition.Left kept = unchanged m came sent (event.Take c) reply.Nothing kept (nothing_quiet c)

-- the oldest frame goes from what is queued to what was sent
moved_on : (sent : List Frame) (f : Frame) (queue : List Frame) → sent ++ f ∷ queue ≡ (sent ++ f ∷ []) ++ queue
moved_on sent f queue = sym (append_assoc sent (f ∷ []) queue)

module _ (m : Machine) (came sent : Frames) (kept : Kept m came sent) (c : ConnNo) (x : Connection) where
  hands_out : (s : Condition) (f : Frame) (queue : List Frame)
      → ((x' : Connection) → x' ≡ record x { calls = calls_after x.calls f; queue = queue } → Lane c m.opened (Some x') (came c) (sent c ++ f ∷ []) m.journal)
      → Happens (event.Take c) came sent (take_from m c x s (f ∷ queue))
  hands_out s f queue lane =
      let x' : Connection = record x { calls = calls_after x.calls f; queue = queue } in
      out_kept m (record m { connections = insert m.connections c.0 x' }) c (Some x') came sent f kept
      (put_moves m c x' m.journal m.cookies m.handovers (λ d ne r. grows_same d r m.journal) kept.forks) (lane x' refl)

  hands_alive : (queue : List Frame) → is_draining x.condition ≡ false → IsOpened m.opened c.0 → Speaks c x.last x.calls (came c) (sent c ++ queue) m.journal
      → Happens (event.Take c) came sent (take_from m c x x.condition queue)
  hands_alive [] live o s = nothing_left m came sent c x x.condition kept
  hands_alive (f ∷ queue) live o s =
      hands_out x.condition f queue (λ y same. subst (λ (y : Connection). Lane c m.opened (Some y) (came c) (sent c ++ f ∷ []) m.journal) (sym same)
      (Alive (record x { calls = calls_after x.calls f; queue = queue }) refl live o
      (subst (λ (fs : List Frame). Speaks c x.last (calls_after x.calls f) (came c) fs m.journal) (moved_on (sent c) f queue)
      (speaks_on c x.last x.calls (came c) (sent c ++ f ∷ queue) m.journal f s))))

  hands_draining : (queue : List Frame) → is_draining x.condition ≡ true → ((n : ℕ) → get x.calls n ≡ None) → IsOpened m.opened c.0 → Rests c (came c) (sent c ++ queue) m.journal
      → Happens (event.Take c) came sent (take_from m c x x.condition queue)
  hands_draining [] drains silent o h = nothing_left m came sent c x x.condition kept
  hands_draining (f ∷ queue) drains silent o h =
      hands_out x.condition f queue (λ y same. subst (λ (y : Connection). Lane c m.opened (Some y) (came c) (sent c ++ f ∷ []) m.journal) (sym same)
      (Drains (record x { calls = calls_after x.calls f; queue = queue }) refl drains (silent_on x.calls f silent) o
      (subst (λ (fs : List Frame). Rests c (came c) fs m.journal) (moved_on (sent c) f queue) h)))

take_none : (m : Machine) (came sent : Frames) (c : ConnNo) (now : Option Connection) → now ≡ None → Kept m came sent → Happens (event.Take c) came sent (take_at m c now)
take_none m came sent c None none kept = unchanged m came sent (event.Take c) reply.Closed kept (closed_quiet c)
take_none m came sent c (Some x) none kept = absurd (cc)

-- the oldest queued frame is handed out
pub takes : (m : Machine) (came sent : Frames) (c : ConnNo) (now : Option Connection) → Kept m came sent → Lane c m.opened now (came c) (sent c) m.journal
    → Happens (event.Take c) came sent (take_at m c now)
takes m came sent c now kept (Unopened none s) = take_none m came sent c now none kept
takes m came sent c now kept (Over none o h) = take_none m came sent c now none kept
takes m came sent c now kept (Alive x here live o s) =
    subst (λ (now : Option Connection). Happens (event.Take c) came sent (take_at m c now)) (sym here) (hands_alive m came sent kept c x x.queue live o s)
takes m came sent c now kept (Drains x here drains silent o h) =
    subst (λ (now : Option Connection). Happens (event.Take c) came sent (take_at m c now)) (sym here) (hands_draining m came sent kept c x x.queue drains silent o h)
