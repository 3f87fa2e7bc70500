-- What every event leads to, case by case.
use Rattle.std.proofs.Common.{◌≡◌, inl, inr, ℕ, ◌<◌, Bool, true, false, cond, List, [], ◌∷◌, length, Option, Some, None, refl, sym, ap, subst, ◌∙◌, arith}
use Rattle.std.specs.Prelude.{nat_lt, slice_get}
use Rattle.std.specs.FinMap.{get}
use Rattle.std.proofs.lemmas.Bool.Decides.{nat_tests}
use Rattle.sp_base.specs.Needs.{needs_of}
use Rattle.sp_base.specs.declared.call.Call.{Call}
use Rattle.sp_base.specs.declared.errno.Errno.{Errno}
use Rattle.sp_base.specs.declared.names.ConnNo.{ConnNo}
use Rattle.sp_base.specs.declared.names.Pid.{Pid}
use Rattle.sp_base.specs.declared.names.ReqNo.{ReqNo}
use Rattle.sp_base.specs.declared.need.Need.{Need}
use Rattle.sp_frames.specs.declared.frame.Frame.{Frame}
use Rattle.kern_model.specs.declared.operation.Ins.TheVariants.{Given, Fault}
use Rattle.kern_model.specs.Journal.{state_after}
use Rattle.hub_model.specs.Ends.{close, drain, end_at, end_by, lose_at}
use Rattle.hub_model.specs.Frames.{last_error}
use Rattle.hub_model.specs.Machine.{Plays, any_speaks, is_new, played, played_running}
use Rattle.hub_model.specs.Requests.{frame_at, frame_by}
use Rattle.hub_model.specs.Run.{Exchange, Runs}
use Rattle.hub_model.specs.Sound.{IsOpened}
use Rattle.hub_model.specs.State.{Connection, Machine, Played, fresh_connection, process_in, with_connection}
use Rattle.hub_model.specs.Verdict.{verdict_of}
use Rattle.hub_model.specs.Work.{ask_next, calls_after, gather, perform, take_at, take_from, work_at, work_call, work_number}
use Rattle.hub_model.specs.declared.event.Event.{Event}
use Rattle.hub_model.specs.declared.event.Event.TheVariants as event
use Rattle.hub_model.specs.declared.event.Finish.{Finish}
use Rattle.hub_model.specs.declared.event.Finish.TheVariants as finish
use Rattle.hub_model.specs.declared.event.Reply.{Reply}
use Rattle.hub_model.specs.declared.event.Reply.TheVariants as reply
use Rattle.hub_model.specs.declared.state.Condition.{Condition}
use Rattle.hub_model.specs.declared.state.Condition.TheVariants as condition
use Rattle.hub_model.specs.declared.state.OpenCall.{OpenCall}
use Rattle.hub_model.specs.declared.state.OpenCall.TheVariants.{Gathers, Fails, Answers}
use Rattle.hub_model.specs.declared.verdict.Verdict.{Verdict}

-- ---- one event

-- what is so of each machine that an event leads to
pub record Leads (m : Machine) (P : Machine → Type 0) : Type 0 where
  -- nothing changes
  pub same : P m
  pub opened : (c : ConnNo) → is_new m.opened c.0 ≡ true → P (with_connection (record m { opened = Some c.0 }) c fresh_connection)
  pub halted : P (record m { halted = true })
  -- a frame does what its verdict says
  pub framed : (v : Verdict) (c : ConnNo) (x : Connection) (f : Frame) (salt : ℕ) → get m.connections c.0 ≡ Some x
      → verdict_of (state_after m.journal) m.cookies c x f ≡ v → P (frame_by v m c x f salt).1
  -- a call is worked: it asks, or it is performed with all that was given or with an error
  pub asked : (c : ConnNo) (x : Connection) (r : ReqNo) (call : Call) (got : List (List ℕ)) (need : Need) → get m.connections c.0 ≡ Some x
      → get x.calls r.0 ≡ Some (Gathers call got false) → P (ask_next m c x r call got need).1
  pub given : (memory : Bool) (c : ConnNo) (x : Connection) (r : ReqNo) (call : Call) (got : List (List ℕ)) → get m.connections c.0 ≡ Some x
      → get x.calls r.0 ≡ Some (Gathers call got false) → slice_get (needs_of call) (length got) ≡ None
      → P (perform memory m c x r call (Given got) (process_in x.condition)).1
  pub failed : (memory : Bool) (c : ConnNo) (x : Connection) (r : ReqNo) (call : Call) (why : Errno) → get m.connections c.0 ≡ Some x
      → get x.calls r.0 ≡ Some (Fails call why) → P (perform memory m c x r call (Fault why) (process_in x.condition)).1
  -- a frame is handed out
  pub taken : (c : ConnNo) (x : Connection) (f : Frame) (queue : List Frame) → get m.connections c.0 ≡ Some x
      → P (with_connection m c (record x { calls = calls_after x.calls f; queue = queue }))
  -- a connection goes
  pub drained : (answer : Reply) (c : ConnNo) (x : Connection) (f : Frame) → get m.connections c.0 ≡ Some x → P (drain answer m c x f).1
  pub closed : (c : ConnNo) (x : Connection) → get m.connections c.0 ≡ Some x → P (close m c x).1

module _ (m : Machine) (P : Machine → Type 0) (leads : Leads m P) where
  frame_leads : (c : ConnNo) (f : Frame) (salt : ℕ) (o : Option Connection) → get m.connections c.0 ≡ o → P (frame_at m c f salt o).1
  frame_leads c f salt None here = leads.same
  frame_leads c f salt (Some x) here = leads.framed (verdict_of (state_after m.journal) m.cookies c x f) c x f salt here refl

  gather_leads : (memory : Bool) (c : ConnNo) (x : Connection) (r : ReqNo) (call : Call) (got : List (List ℕ)) (need : Option Need) → get m.connections c.0 ≡ Some x
      → get x.calls r.0 ≡ Some (Gathers call got false) → slice_get (needs_of call) (length got) ≡ need → P (gather memory m c x r call got need).1
  gather_leads memory c x r call got (Some need) here there next = leads.asked c x r call got need here there
  gather_leads memory c x r call got None here there next = leads.given memory c x r call got here there next

  call_leads : (memory : Bool) (c : ConnNo) (x : Connection) (r : ReqNo) (task : OpenCall) → get m.connections c.0 ≡ Some x → get x.calls r.0 ≡ Some task → P (work_call memory m c x r task).1
  call_leads memory c x r (Gathers call got true) here there = leads.same
  call_leads memory c x r (Gathers call got false) here there = gather_leads memory c x r call got (slice_get (needs_of call) (length got)) here there refl
  call_leads memory c x r (Fails call why) here there = leads.failed memory c x r call why here there
  call_leads memory c x r Answers here there = leads.same

  number_leads : (memory : Bool) (c : ConnNo) (x : Connection) (r : ReqNo) (task : Option OpenCall) → get m.connections c.0 ≡ Some x → get x.calls r.0 ≡ task
      → P (work_number memory m c x r task).1
  number_leads memory c x r None here there = leads.same
  number_leads memory c x r (Some task) here there = call_leads memory c x r task here there

  work_leads : (memory : Bool) (c : ConnNo) (r : ReqNo) (o : Option Connection) → get m.connections c.0 ≡ o → P (work_at memory m c r o).1
  work_leads memory c r None here = leads.same
  work_leads memory c r (Some x) here = number_leads memory c x r (get x.calls r.0) here refl

  queue_leads : (c : ConnNo) (x : Connection) (s : Condition) (queue : List Frame) → get m.connections c.0 ≡ Some x → P (take_from m c x s queue).1
  queue_leads c x condition.Draining [] here = leads.same
  queue_leads c x condition.Fresh [] here = leads.same
  queue_leads c x (condition.Live pid) [] here = leads.same
  queue_leads c x (condition.InExec pid) [] here = leads.same
  queue_leads c x condition.Left [] here = leads.same
  queue_leads c x s (f ∷ queue) here = leads.taken c x f queue here

  take_leads : (c : ConnNo) (o : Option Connection) → get m.connections c.0 ≡ o → P (take_at m c o).1
  take_leads c None here = leads.same
  take_leads c (Some x) here = queue_leads c x x.condition x.queue here

  finish_leads : (c : ConnNo) (x : Connection) (s : Condition) (how : Finish) → get m.connections c.0 ≡ Some x → P (end_by m c x s how).1
  finish_leads c x (condition.Live pid) (finish.Bad fault) here = leads.drained reply.Nothing c x (last_error (record { 0 = 0 }) None) here
  finish_leads c x (condition.Live pid) finish.Clean here = leads.closed c x here
  finish_leads c x (condition.Live pid) finish.Inside here = leads.closed c x here
  finish_leads c x condition.Fresh how here = leads.closed c x here
  finish_leads c x (condition.InExec pid) how here = leads.closed c x here
  finish_leads c x condition.Left how here = leads.closed c x here
  finish_leads c x condition.Draining how here = leads.closed c x here

  end_leads : (c : ConnNo) (how : Finish) (o : Option Connection) → get m.connections c.0 ≡ o → P (end_at m c how o).1
  end_leads c how None here = leads.same
  end_leads c how (Some x) here = finish_leads c x x.condition how here

  lose_leads : (c : ConnNo) (o : Option Connection) → get m.connections c.0 ≡ o → P (lose_at m c o).1
  lose_leads c None here = leads.same
  lose_leads c (Some x) here = leads.closed c x here

  open_leads : (c : ConnNo) (new : Bool) → is_new m.opened c.0 ≡ new
      → P (cond {A = Played} new (reply.Nothing, with_connection (record m { opened = Some c.0 }) c fresh_connection) (reply.Closed, m)).1
  open_leads c true new = leads.opened c new
  open_leads c false new = leads.same

  halt_leads : (speaks : Bool) → P (cond {A = Played} speaks (reply.NotQuiet, m) (reply.Closed, record m { halted = true })).1
  halt_leads true = leads.same
  halt_leads false = leads.halted

  running_leads : (memory : Bool) (happens : Event) → P (played_running memory m happens).1
  running_leads memory (event.Opened c) = open_leads c (is_new m.opened c.0) refl
  running_leads memory (event.Frame c f salt) = frame_leads c f salt (get m.connections c.0) refl
  running_leads memory (event.Work c r) = work_leads memory c r (get m.connections c.0) refl
  running_leads memory (event.Take c) = take_leads c (get m.connections c.0) refl
  running_leads memory (event.Ended c how) = end_leads c how (get m.connections c.0) refl
  running_leads memory (event.Lost c) = lose_leads c (get m.connections c.0) refl
  running_leads memory event.Halt = halt_leads (any_speaks m)

  played_leads : (memory : Bool) (happens : Event) (halted : Bool) → P (cond {A = Played} halted (reply.Closed, m) (played_running memory m happens)).1
  played_leads memory happens true = leads.same
  played_leads memory happens false = running_leads memory happens

  -- so it is of the machine after whatever event
  pub plays_leads : (m' : Machine) (happens : Event) (answer : Reply) → Plays m happens answer m' → P m'
  plays_leads m' happens answer (inl p) =
      let same : m' ≡ (played p.0 m happens).1 = ap (λ (q : Played). q.1) p.1 in
      subst (λ (n : Machine). P n) (sym same) (played_leads p.0 happens m.halted)
  plays_leads m' happens answer (inr stays) = subst (λ (n : Machine). P n) (sym stays.keeps) leads.same

-- ---- runs

-- what every event keeps, every run keeps
pub runs_keep : (P : Machine → Type 0) → ((m m' : Machine) (happens : Event) (answer : Reply) → P m → Plays m happens answer m' → P m')
    → (m m' : Machine) (exchanges : List Exchange) → P m → Runs m exchanges m' → P m'
runs_keep P keeps m m' [] holds same = subst (λ (n : Machine). P n) (sym same) holds
runs_keep P keeps m m' (e ∷ exchanges) holds run = runs_keep P keeps run.0 m' exchanges (keeps m run.0 e.event e.reply holds run.1) run.2

-- ---- opening

is_above : (a b : ℕ) → nat_lt a b ≡ true → a < b
is_above a b e = grind (arith, nat_tests)

-- what was opened is below a new number
pub below_new : (opened : Option ℕ) (c d : ℕ) → is_new opened c ≡ true → IsOpened opened d → d < c
below_new None c d new h = absurd h
below_new (Some highest) c d new h = let lt = is_above highest c new in omega arith

-- a connection that was just opened speaks for no process
pub fresh_quiet : (x : Connection) (p : Pid) → ◌≡◌ {A = Option Connection} (Some fresh_connection) (Some x) → process_in x.condition ≡ Some p → ⊥
fresh_quiet x p e s = let same : fresh_connection ≡ x = cc in let k : None ≡ Some p = ap (λ (z : Connection). process_in z.condition) same ∙ s in cc
