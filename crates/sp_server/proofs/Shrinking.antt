-- A frame that is handed out leaves fewer queued, and a call that is performed leaves fewer waiting.
use Rattle.std.proofs.Common.{◌≡◌, ◌≢◌, ◌⊎◌, inl, inr, ℕ, ◌+◌, zero, suc, ◌<◌, ◌≤◌, Bool, true, false, cond, List, [], ◌∷◌, ◌++◌, length, Option, Some, None, refl, sym, ap, subst, ◌∙◌, arith}
use Rattle.std.specs.Prelude.{◌||◌, if◌then◌else◌}
use Rattle.std.specs.Ordering.{nat_cmp, eq_by_cmp}
use Rattle.std.proofs.lemmas.Bool.Decides.{nat_tests}
use Rattle.std.proofs.lemmas.Grind.{common_steps}
use Rattle.std.specs.FinMap.{FinMap, get, insert, entries, get-entries}
use Rattle.std.specs.FinMap.Entries.{find}
use Rattle.sp_base.specs.declared.names.ConnNo.{ConnNo}
use Rattle.sp_base.specs.declared.names.ReqNo.{ReqNo}
use Rattle.sp_base.specs.declared.names.SpError.TheVariants as error
use Rattle.sp_frames.specs.declared.frame.Frame.{Frame}
use Rattle.kern_model.specs.declared.journal.Entry.{Entry}
use Rattle.hub_model.specs.Frames.{ask, told, refusal}
use Rattle.hub_model.specs.Machine.{played, played_running, Plays}
use Rattle.hub_model.specs.Sound.{is_waiting, IsSound}
use Rattle.hub_model.specs.State.{Connection, Machine, Played, with_connection}
use Rattle.hub_model.specs.Task.{calls_in, open_calls}
use Rattle.hub_model.specs.Work.{calls_after, performed, take_from, take_at}
use Rattle.hub_model.specs.declared.event.Event.TheVariants as event
use Rattle.hub_model.specs.declared.event.Reply.{Reply}
use Rattle.hub_model.specs.declared.event.Reply.TheVariants as reply
use Rattle.hub_model.specs.declared.state.Condition.{Condition}
use Rattle.hub_model.specs.declared.state.Condition.TheVariants as condition
use Rattle.hub_model.specs.declared.state.OpenCall.{OpenCall}
use Rattle.hub_model.specs.declared.state.OpenCall.TheVariants.{Gathers, Answers}
use Rattle.hub_model.proofs.Sound.{plays_sound}
use Rattle.tables.proofs.Maps.{get_put, get_put_other, same_or_not}
use Rattle.sp_server.specs.Serving.{Server, reply_to, after, has_memory, work_reply, after_work, is_done, is_out, worked, performs, HandsOutOne}
use Rattle.sp_server.specs.Waiting.{waits_at, waiting_to, keys_to, bound, waiting}
use Rattle.sp_server.proofs.Works.{Performs, Stays, work_view}

-- ---- handing out

abbrev pub queue_in : Option Connection → List Frame
queue_in None = []
queue_in (Some x) = x.queue

-- the frames that are queued on a connection
abbrev pub queue_of : Machine → ConnNo → List Frame
queue_of m c = queue_in (get m.connections c.0)

-- how many frames are queued on a connection
abbrev pub queued : Machine → ConnNo → ℕ
queued m c = length (queue_of m c)

-- a Take hands out the oldest frame
pub record Takes (m : Machine) (c : ConnNo) : Type 0 where
  pub x : Connection
  pub frame : Frame
  pub queue : List Frame
  pub here : get m.connections c.0 ≡ Some x
  pub there : x.queue ≡ frame ∷ queue
  pub does : played true m (event.Take c) ≡ (reply.Out frame, with_connection m c (record x { calls = calls_after x.calls frame; queue = queue }))

-- a Take hands out nothing
pub record TakesNone (m : Machine) (c : ConnNo) : Type 0 where
  pub answer : Reply
  pub does : played true m (event.Take c) ≡ (answer, m)
  pub not_out : is_out answer ≡ false
  pub empty : (m.halted ≡ true) ⊎ (queue_of m c ≡ [])

queue_view : (m : Machine) (c : ConnNo) (x : Connection) (s : Condition) (queue : List Frame) → get m.connections c.0 ≡ Some x → x.queue ≡ queue
    → played true m (event.Take c) ≡ take_from m c x s queue → Takes m c ⊎ TakesNone m c
queue_view m c x s (f ∷ queue) here there does = inl (record { x = x; frame = f; queue = queue; here = here; there = there; does = does })
queue_view m c x condition.Draining [] here there does = inr (record { answer = reply.Closed; does = does; not_out = refl; empty = inr (ap queue_in here ∙ there) })
queue_view m c x condition.Fresh [] here there does = inr (record { answer = reply.Nothing; does = does; not_out = refl; empty = inr (ap queue_in here ∙ there) })
queue_view m c x (condition.Live pid) [] here there does = inr (record { answer = reply.Nothing; does = does; not_out = refl; empty = inr (ap queue_in here ∙ there) })
queue_view m c x (condition.InExec pid) [] here there does = inr (record { answer = reply.Nothing; does = does; not_out = refl; empty = inr (ap queue_in here ∙ there) })
queue_view m c x condition.Left [] here there does = inr (record { answer = reply.Nothing; does = does; not_out = refl; empty = inr (ap queue_in here ∙ there) })

taken_view : (m : Machine) (c : ConnNo) (x : Option Connection) → get m.connections c.0 ≡ x → played true m (event.Take c) ≡ take_at m c x → Takes m c ⊎ TakesNone m c
taken_view m c None here does = inr (record { answer = reply.Closed; does = does; not_out = refl; empty = inr (ap queue_in here) })
taken_view m c (Some x) here does = queue_view m c x x.condition x.queue here refl does

halted_view : (m : Machine) (c : ConnNo) (halted : Bool) → m.halted ≡ halted → Takes m c ⊎ TakesNone m c
halted_view m c true e = inr (record { answer = reply.Closed; does = ap (λ b. cond {A = Played} b (reply.Closed, m) (played_running true m (event.Take c))) e; not_out = refl; empty = inl e })
halted_view m c false e = taken_view m c (get m.connections c.0) refl (ap (λ b. cond {A = Played} b (reply.Closed, m) (played_running true m (event.Take c))) e)

-- a Take does one or the other
pub take_view : (m : Machine) (c : ConnNo) → Takes m c ⊎ TakesNone m c
take_view m c = halted_view m c m.halted refl

-- a frame that is handed out leaves fewer queued
pub taken_less : (m : Machine) (c : ConnNo) → is_out (reply_to m (event.Take c)) ≡ true → queued (after m (event.Take c)) c < queued m c
taken_less m c out = by_view (take_view m c) where
  by_view : Takes m c ⊎ TakesNone m c → queued (after m (event.Take c)) c < queued m c
  by_view (inl t) =
      let x' = record t.x { calls = calls_after t.x.calls t.frame; queue = t.queue } in
      let now : queue_of (after m (event.Take c)) c ≡ t.queue = ap (λ (p : Played). queue_of p.1 c) t.does ∙ ap queue_in (get_put m.connections c.0 x') in
      let was : queue_of m c ≡ t.frame ∷ t.queue = ap queue_in t.here ∙ t.there in
      rw (now, was) (omega arith)
  by_view (inr n) = let no : false ≡ true = sym n.not_out ∙ ap (λ (p : Played). is_out p.0) (sym n.does) ∙ out in absurd cc

pub taken_no_more : (m : Machine) (c : ConnNo) → queued (after m (event.Take c)) c ≤ queued m c
taken_no_more m c = by_view (take_view m c) where
  by_view : Takes m c ⊎ TakesNone m c → queued (after m (event.Take c)) c ≤ queued m c
  by_view (inl t) = let less = taken_less m c (ap (λ (p : Played). is_out p.0) t.does) in omega arith
  by_view (inr n) = let same : after m (event.Take c) ≡ m = ap (λ (p : Played). p.1) n.does in rw (same) (omega arith)

-- another Take follows a Take only where fewer frames are queued
pub hand_less : (m n : Machine) (c : ConnNo) (text text' : List ℕ) (was more : Bool) → was ≡ true → HandsOutOne m c text more n text'
    → queued n c + (if more then 1 else 0) < queued m c + (if was then 1 else 0)
hand_less m n c text text' false more first one = absurd cc
hand_less m n c text text' true true first one = let less = taken_less m c (ap is_out one.1) in rw (one.2) (omega arith)
hand_less m n c text text' true false first one = let few = taken_no_more m c in rw (one.1) (omega arith)

-- ---- calls that wait

found_within : {X : Type 0} (es : List (ℕ × X)) (q : ℕ) (x : X) → find nat_cmp q es ≡ Some x → q ≤ keys_to es
unfolding keys_to
found_within [] q x h = absurd cc
found_within (e ∷ es) q x h = by_test (eq_by_cmp nat_cmp q e.0) refl (λ later. found_within es q x later) where
  by_test : (same : Bool) → eq_by_cmp nat_cmp q e.0 ≡ same → (find nat_cmp q es ≡ Some x → q ≤ keys_to es) → q ≤ e.0 + keys_to es
  by_test true is rest = let number : q ≡ e.0 = grind (arith, nat_tests, common_steps) in omega arith
  by_test false is rest =
      let later : find nat_cmp q es ≡ Some x = ap (λ b. cond b (Some e.1) (find nat_cmp q es)) (sym is) ∙ h in
      let le = rest later in
      omega arith

-- no call has a number above the bound
pub within : (calls : FinMap nat_cmp OpenCall) (q : ℕ) (task : OpenCall) → get calls q ≡ Some task → q ≤ bound calls
unfolding bound
within calls q task h = found_within (entries calls) q task (sym (get-entries calls q) ∙ h)

none_beyond : (calls : FinMap nat_cmp OpenCall) (q : ℕ) (task : Option OpenCall) → get calls q ≡ task → bound calls < q → waits_at (get calls q) ≡ 0
none_beyond calls q None h lt = ap waits_at h
none_beyond calls q (Some task) h lt = let le = within calls q task h in absurd (omega arith)

to_suc : (calls : FinMap nat_cmp OpenCall) (n : ℕ) → waiting_to calls (suc n) ≡ waits_at (get calls (suc n)) + waiting_to calls n
unfolding waiting_to
to_suc calls n = refl

-- none waits beyond the bound
to_beyond : (calls : FinMap nat_cmp OpenCall) (n : ℕ) → bound calls ≤ n → waiting_to calls n ≡ waiting_to calls (bound calls)
to_beyond calls zero le = ap (waiting_to calls) (omega arith)
to_beyond calls (suc n) le = elim (same_or_not (suc n) (bound calls)) [
  | inl same ↦ ap (waiting_to calls) same
  | inr ne ↦ (
      let none = none_beyond calls (suc n) (get calls (suc n)) refl (omega arith) in
      let rest = to_beyond calls n (omega arith) in
      let sum = to_suc calls n in
      omega arith
      )
]

to_no_more : (old new : FinMap nat_cmp OpenCall) → ((q : ℕ) → waits_at (get new q) ≤ waits_at (get old q)) → (n : ℕ) → waiting_to new n ≤ waiting_to old n
unfolding waiting_to
to_no_more old new each zero = each 0
to_no_more old new each (suc n) =
    let first = each (suc n) in
    let rest = to_no_more old new each n in
    omega arith

to_less : (old new : FinMap nat_cmp OpenCall) (r : ℕ) → ((q : ℕ) → waits_at (get new q) ≤ waits_at (get old q)) → waits_at (get new r) < waits_at (get old r) → (n : ℕ) → r ≤ n → waiting_to new n < waiting_to old n
unfolding waiting_to
to_less old new zero each less zero le = less
to_less old new (suc r) each less zero le = absurd (omega arith)
to_less old new r each less (suc n) le = elim (same_or_not r (suc n)) [
  | inl same ↦ (let first = subst (λ q. waits_at (get new q) < waits_at (get old q)) same less in let rest = to_no_more old new each n in omega arith)
  | inr ne ↦ (let first = each (suc n) in let rest = to_less old new r each less n (omega arith) in omega arith)
]

-- a call that goes on waits no more than before
put_no_more : (calls : FinMap nat_cmp OpenCall) (r : ℕ) (old new : OpenCall) → get calls r ≡ Some old → waits_at (Some new) ≤ waits_at (Some old)
    → (q : ℕ) → waits_at (get (insert calls r new) q) ≤ waits_at (get calls q)
put_no_more calls r old new there le q = elim (same_or_not q r) [
  | inl same ↦ subst (λ k. waits_at (get (insert calls r new) k) ≤ waits_at (get calls k)) (sym same) (rw (get_put calls r new, there) le)
  | inr ne ↦ rw (get_put_other calls r new q ne) (omega arith)
]

-- each call of a connection waits no more than before
abbrev pub Waits : Machine → Machine → ConnNo → Type 0
Waits m m' c = (q : ℕ) → waits_at (get (open_calls m' c) q) ≤ waits_at (get (open_calls m c) q)

no_more : (m m' : Machine) (c : ConnNo) → Waits m m' c → waiting m' c ≤ waiting m c
no_more m m' c each =
    let old = open_calls m c in
    let new = open_calls m' c in
    let n = bound new + bound old in
    let few = to_no_more old new each n in
    let first = to_beyond old n (omega arith) in
    let second = to_beyond new n (omega arith) in
    omega arith

fewer : (m m' : Machine) (c : ConnNo) (r : ℕ) (task : OpenCall) → Waits m m' c → get (open_calls m c) r ≡ Some task → waits_at (get (open_calls m' c) r) < waits_at (get (open_calls m c) r)
    → waiting m' c < waiting m c
fewer m m' c r task each there less =
    let old = open_calls m c in
    let new = open_calls m' c in
    let le = within old r task there in
    let n = bound new + bound old in
    let few = to_less old new r each less n (omega arith) in
    let first = to_beyond old n (omega arith) in
    let second = to_beyond new n (omega arith) in
    omega arith

same_waits : (m : Machine) (c : ConnNo) → Waits m m c
same_waits m c = λ q. omega arith

-- one call of a connection goes on
put_waits : (m : Machine) (journal : List Entry) (c : ConnNo) (r : ℕ) (x : Connection) (old new : OpenCall) (queue : List Frame) → get m.connections c.0 ≡ Some x → get x.calls r ≡ Some old
    → waits_at (Some new) ≤ waits_at (Some old) → Waits m (with_connection (record m { journal = journal }) c (record x { calls = insert x.calls r new; queue = queue })) c
put_waits m journal c r x old new queue here there le =
    let x' = record x { calls = insert x.calls r new; queue = queue } in
    let put = get_put m.connections c.0 x' in
    λ q. rw (put, here) (put_no_more x.calls r old new there le q)

waits_one : (task : OpenCall) → is_waiting task ≡ true → waits_at (Some task) ≡ 1
waits_one task waits = rw waits refl

-- a call that is performed, or refused for memory, goes on
performed_waits : (memory : Bool) (m : Machine) (c : ConnNo) (r : ReqNo) (p : Performs m c r) → Waits m (performed memory m c p.x r (Some p.entry)).1 c
performed_waits true m c r p =
    put_waits m (m.journal ++ p.entry ∷ []) c r.0 p.x p.task Answers (p.x.queue ++ told r p.entry.outcome (length m.journal)) p.here p.there (omega arith)
performed_waits false m c r p = put_waits m m.journal c r.0 p.x p.task Answers (p.x.queue ++ refusal r 1 error.Memory ∷ []) p.here p.there (omega arith)

-- a Work leaves no more calls waiting
pub work_waits : (memory : Bool) (m : Machine) (c : ConnNo) (r : ReqNo) → Waits m (played memory m (event.Work c r)).1 c
work_waits memory m c r = by_view (work_view m c r) where
  by_view : Performs m c r ⊎ Stays m c r → Waits m (played memory m (event.Work c r)).1 c
  by_view (inl p) = subst (λ (q : Played). Waits m q.1 c) (sym (p.does memory)) (performed_waits memory m c r p)
  by_view (inr s) = subst (λ (q : Played). Waits m q.1 c) (sym (s.does memory)) (elim s.same [
    | inl same ↦ subst (λ (n : Machine). Waits m n c) (sym same) (same_waits m c)
    | inr a ↦ subst (λ (n : Machine). Waits m n c) (sym a.is) (put_waits m m.journal c r.0 a.x (Gathers a.call a.got false) (Gathers a.call a.got true) (a.x.queue ++ ask r (length a.got) a.need ∷ []) a.here a.there (omega arith))
  ])

answers_open : (connections : FinMap nat_cmp Connection) (c r : ℕ) (x : Connection) (queue : List Frame)
    → get (calls_in (get (insert connections c (record x { calls = insert x.calls r Answers; queue = queue })) c)) r ≡ Some Answers
answers_open connections c r x queue =
    ap (λ (o : Option Connection). get (calls_in o) r) (get_put connections c (record x { calls = insert x.calls r Answers; queue = queue })) ∙ get_put x.calls r Answers

performed_open : (memory : Bool) (m : Machine) (c : ConnNo) (r : ReqNo) (p : Performs m c r) → get (open_calls (performed memory m c p.x r (Some p.entry)).1 c) r.0 ≡ Some Answers
performed_open true m c r p = answers_open m.connections c.0 r.0 p.x (p.x.queue ++ told r p.entry.outcome (length m.journal))
performed_open false m c r p = answers_open m.connections c.0 r.0 p.x (p.x.queue ++ refusal r 1 error.Memory ∷ [])

-- a call that is performed leaves fewer waiting
pub worked_less : (memory : Bool) (m : Machine) (c : ConnNo) (r : ReqNo) → is_done (played memory m (event.Work c r)).0 ≡ true
    → waiting (played memory m (event.Work c r)).1 c < waiting m c
worked_less memory m c r done = by_view (work_view m c r) where
  by_view : Performs m c r ⊎ Stays m c r → waiting (played memory m (event.Work c r)).1 c < waiting m c
  by_view (inr s) = let no : false ≡ true = sym s.undone ∙ ap (λ (p : Played). is_done p.0) (sym (s.does memory)) ∙ done in absurd cc
  by_view (inl p) =
      let n = (played memory m (event.Work c r)).1 in
      let now : get (open_calls n c) r.0 ≡ Some Answers = ap (λ (q : Played). get (open_calls q.1 c) r.0) (p.does memory) ∙ performed_open memory m c r p in
      let was : get (open_calls m c) r.0 ≡ Some p.task = ap (λ (x : Option Connection). get (calls_in x) r.0) p.here ∙ p.there in
      let zero : waits_at (get (open_calls n c) r.0) ≡ 0 = ap waits_at now in
      let one : waits_at (get (open_calls m c) r.0) ≡ 1 = ap waits_at was ∙ waits_one p.task p.waits in
      fewer m n c r.0 p.task (work_waits memory m c r) was (omega arith)

-- ---- rounds

-- a Work keeps the server sound
pub work_sound : (s : Server) (c : ConnNo) (r : ReqNo) → IsSound s.machine → IsSound (after_work s c r).machine
work_sound s c r sound = plays_sound s.machine (after_work s c r).machine (event.Work c r) (work_reply s c r) sound (inl (has_memory s.refused r, refl))

pub worked_sound : (s : Server) (c : ConnNo) (numbers : List ReqNo) → IsSound s.machine → IsSound (worked s c numbers).machine
worked_sound s c [] sound = sound
worked_sound s c (r ∷ numbers) sound = worked_sound (after_work s c r) c numbers (work_sound s c r sound)

-- a round leaves no more calls waiting
pub round_no_more : (s : Server) (c : ConnNo) (numbers : List ReqNo) → waiting (worked s c numbers).machine c ≤ waiting s.machine c
round_no_more s c [] = omega arith
round_no_more s c (r ∷ numbers) =
    let one = no_more s.machine (after_work s c r).machine c (work_waits (has_memory s.refused r) s.machine c r) in
    let rest = round_no_more (after_work s c r) c numbers in
    omega arith

round_less_by : (s : Server) (c : ConnNo) (r : ReqNo) (numbers : List ReqNo) (done : Bool) → is_done (work_reply s c r) ≡ done
    → (performs (after_work s c r) c numbers ≡ true → waiting (worked (after_work s c r) c numbers).machine c < waiting (after_work s c r).machine c)
    → (done || performs (after_work s c r) c numbers) ≡ true → waiting (worked (after_work s c r) c numbers).machine c < waiting s.machine c
round_less_by s c r numbers true is less holds =
    let one = worked_less (has_memory s.refused r) s.machine c r is in
    let rest = round_no_more (after_work s c r) c numbers in
    omega arith
round_less_by s c r numbers false is less holds =
    let one = no_more s.machine (after_work s c r).machine c (work_waits (has_memory s.refused r) s.machine c r) in
    let rest = less holds in
    omega arith

-- a round in which a call is performed leaves fewer waiting
pub round_less : (s : Server) (c : ConnNo) (numbers : List ReqNo) → performs s c numbers ≡ true → waiting (worked s c numbers).machine c < waiting s.machine c
round_less s c [] holds = absurd cc
round_less s c (r ∷ numbers) holds = round_less_by s c r numbers (is_done (work_reply s c r)) refl (round_less (after_work s c r) c numbers) holds

-- a Work that doesn't want memory for an ask leaves no more calls waiting, and fewer where it performs one
pub one_fewer : (m n : Machine) (c : ConnNo) (r : ReqNo) (answer : Reply) (done : Bool) → Plays m (event.Work c r) answer n → (answer ≢ reply.NoMemory) × (done ≡ is_done answer)
    → waiting n c + (if done then 1 else 0) ≤ waiting m c
one_fewer m n c r answer done (inr stays) kept = absurd (kept.0 stays.answers)
one_fewer m n c r answer false (inl p) kept =
    let few = no_more m (played p.0 m (event.Work c r)).1 c (work_waits p.0 m c r) in
    let same : waiting n c ≡ waiting (played p.0 m (event.Work c r)).1 c = ap (λ (q : Played). waiting q.1 c) p.1 in
    omega arith
one_fewer m n c r answer true (inl p) kept =
    let less = worked_less p.0 m c r (ap (λ (q : Played). is_done q.0) (sym p.1) ∙ sym kept.1) in
    let same : waiting n c ≡ waiting (played p.0 m (event.Work c r)).1 c = ap (λ (q : Played). waiting q.1 c) p.1 in
    omega arith
