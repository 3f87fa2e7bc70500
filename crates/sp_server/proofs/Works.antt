-- What a Work does: it performs its call, with memory or without, or it does neither.
use Rattle.std.proofs.Common.{◌≡◌, ◌⊎◌, inl, inr, ℕ, Bool, true, false, cond, List, length, Option, Some, None, refl, ap, ◌∙◌}
use Rattle.std.specs.Prelude.{slice_get}
use Rattle.std.specs.FinMap.{get}
use Rattle.sp_base.specs.Needs.{needs_of}
use Rattle.sp_base.specs.declared.call.Call.{Call}
use Rattle.sp_base.specs.declared.names.ConnNo.{ConnNo}
use Rattle.sp_base.specs.declared.names.Pid.{Pid}
use Rattle.sp_base.specs.declared.names.ReqNo.{ReqNo}
use Rattle.sp_base.specs.declared.need.Need.{Need}
use Rattle.kern_model.specs.Journal.{next_entry}
use Rattle.kern_model.specs.declared.journal.Entry.{Entry}
use Rattle.kern_model.specs.declared.journal.Who.TheVariants.{Request}
use Rattle.kern_model.specs.declared.operation.Ins.{Ins}
use Rattle.kern_model.specs.declared.operation.Ins.TheVariants.{Given, Fault}
use Rattle.kern_model.specs.declared.operation.Op.TheVariants.{Sys}
use Rattle.hub_model.specs.Machine.{played, played_running}
use Rattle.hub_model.specs.Sound.{is_waiting}
use Rattle.hub_model.specs.State.{Connection, Machine, Played, process_in}
use Rattle.hub_model.specs.Work.{ask_next, performed, perform, gather, work_call, work_number, work_at}
use Rattle.hub_model.specs.declared.event.Event.TheVariants.{Work}
use Rattle.hub_model.specs.declared.event.Reply.{Reply}
use Rattle.hub_model.specs.declared.event.Reply.TheVariants as reply
use Rattle.hub_model.specs.declared.state.OpenCall.{OpenCall}
use Rattle.hub_model.specs.declared.state.OpenCall.TheVariants.{Gathers, Fails, Answers}
use Rattle.hub_model.proofs.Entries.{nexts, next_who}
use Rattle.sp_server.specs.Serving.{is_done, is_refused}

-- a Work performs its call, or refuses to for memory
pub record Performs (m : Machine) (c : ConnNo) (r : ReqNo) : Type 0 where
  pub x : Connection
  pub task : OpenCall
  pub entry : Entry
  pub here : get m.connections c.0 ≡ Some x
  pub there : get x.calls r.0 ≡ Some task
  pub waits : is_waiting task ≡ true
  pub who : entry.who ≡ Request c r
  pub does : (memory : Bool) → played memory m (Work c r) ≡ performed memory m c x r (Some entry)

-- a Work asks for the next of what its call reads
pub record Asks (m : Machine) (c : ConnNo) (r : ReqNo) (m' : Machine) : Type 0 where
  pub x : Connection
  pub call : Call
  pub got : List (List ℕ)
  pub need : Need
  pub here : get m.connections c.0 ≡ Some x
  pub there : get x.calls r.0 ≡ Some (Gathers call got false)
  pub is : m' ≡ (ask_next m c x r call got need).1

-- a Work performs nothing, with memory or without
pub record Stays (m : Machine) (c : ConnNo) (r : ReqNo) : Type 0 where
  pub answer : Reply
  pub last : Machine
  pub does : (memory : Bool) → played memory m (Work c r) ≡ (answer, last)
  pub undone : is_done answer ≡ false
  pub kept : is_refused answer ≡ false
  pub same : (last ≡ m) ⊎ Asks m c r last

-- nothing is performed, and nothing changes
nothing : (m : Machine) (c : ConnNo) (r : ReqNo) (answer : Reply) → is_done answer ≡ false → is_refused answer ≡ false → ((memory : Bool) → played memory m (Work c r) ≡ (answer, m)) → Performs m c r ⊎ Stays m c r
nothing m c r answer undone kept does = inr (record { answer = answer; last = m; does = does; undone = undone; kept = kept; same = inl refl })

not_ready : (m : Machine) (c : ConnNo) (x : Connection) (r : ReqNo) (memory : Bool) → performed memory m c x r None ≡ (reply.NotReady, m)
not_ready m c x r true = refl
not_ready m c x r false = refl

entry_view : (m : Machine) (c : ConnNo) (x : Connection) (r : ReqNo) (task : OpenCall) (call : Call) (ins : Ins) (pid : Pid) (next : Option Entry)
    → get m.connections c.0 ≡ Some x → get x.calls r.0 ≡ Some task → is_waiting task ≡ true → next_entry m.journal pid (Request c r) (Sys call) ins ≡ next
    → ((memory : Bool) → played memory m (Work c r) ≡ performed memory m c x r next) → Performs m c r ⊎ Stays m c r
entry_view m c x r task call ins pid None here there waits e does = nothing m c r reply.NotReady refl refl (λ memory. does memory ∙ not_ready m c x r memory)
entry_view m c x r task call ins pid (Some entry) here there waits e does = inl (record {
  x = x;
  task = task;
  entry = entry;
  here = here;
  there = there;
  waits = waits;
  who = next_who m.journal pid (Request c r) (Sys call) ins entry (nexts m.journal pid (Request c r) (Sys call) ins entry e);
  does = does;
})

perform_view : (m : Machine) (c : ConnNo) (x : Connection) (r : ReqNo) (task : OpenCall) (call : Call) (ins : Ins) (process : Option Pid)
    → get m.connections c.0 ≡ Some x → get x.calls r.0 ≡ Some task → is_waiting task ≡ true
    → ((memory : Bool) → played memory m (Work c r) ≡ perform memory m c x r call ins process) → Performs m c r ⊎ Stays m c r
perform_view m c x r task call ins None here there waits does = nothing m c r reply.Nothing refl refl does
perform_view m c x r task call ins (Some pid) here there waits does = entry_view m c x r task call ins pid (next_entry m.journal pid (Request c r) (Sys call) ins) here there waits refl does

gather_view : (m : Machine) (c : ConnNo) (x : Connection) (r : ReqNo) (call : Call) (got : List (List ℕ)) (need : Option Need)
    → get m.connections c.0 ≡ Some x → get x.calls r.0 ≡ Some (Gathers call got false)
    → ((memory : Bool) → played memory m (Work c r) ≡ gather memory m c x r call got need) → Performs m c r ⊎ Stays m c r
gather_view m c x r call got (Some need) here there does = inr (record {
  answer = reply.Asked;
  last = (ask_next m c x r call got need).1;
  does = does;
  undone = refl;
  kept = refl;
  same = inr (record { x = x; call = call; got = got; need = need; here = here; there = there; is = refl });
})
gather_view m c x r call got None here there does = perform_view m c x r (Gathers call got false) call (Given got) (process_in x.condition) here there refl does

call_view : (m : Machine) (c : ConnNo) (x : Connection) (r : ReqNo) (task : OpenCall) → get m.connections c.0 ≡ Some x → get x.calls r.0 ≡ Some task
    → ((memory : Bool) → played memory m (Work c r) ≡ work_call memory m c x r task) → Performs m c r ⊎ Stays m c r
call_view m c x r (Gathers call got true) here there does = nothing m c r reply.AwaitsAnswer refl refl does
call_view m c x r (Gathers call got false) here there does = gather_view m c x r call got (slice_get (needs_of call) (length got)) here there does
call_view m c x r (Fails call why) here there does = perform_view m c x r (Fails call why) call (Fault why) (process_in x.condition) here there refl does
call_view m c x r Answers here there does = nothing m c r reply.Nothing refl refl does

number_view : (m : Machine) (c : ConnNo) (x : Connection) (r : ReqNo) (task : Option OpenCall) → get m.connections c.0 ≡ Some x → get x.calls r.0 ≡ task
    → ((memory : Bool) → played memory m (Work c r) ≡ work_number memory m c x r task) → Performs m c r ⊎ Stays m c r
number_view m c x r None here there does = nothing m c r reply.Nothing refl refl does
number_view m c x r (Some task) here there does = call_view m c x r task here there does

connection_view : (m : Machine) (c : ConnNo) (r : ReqNo) (x : Option Connection) → get m.connections c.0 ≡ x
    → ((memory : Bool) → played memory m (Work c r) ≡ work_at memory m c r x) → Performs m c r ⊎ Stays m c r
connection_view m c r None here does = nothing m c r reply.Nothing refl refl does
connection_view m c r (Some x) here does = number_view m c x r (get x.calls r.0) here refl does

machine_view : (m : Machine) (c : ConnNo) (r : ReqNo) (halted : Bool) → m.halted ≡ halted → Performs m c r ⊎ Stays m c r
machine_view m c r true e = nothing m c r reply.Closed refl refl (λ memory. ap (λ b. cond {A = Played} b (reply.Closed, m) (played_running memory m (Work c r))) e)
machine_view m c r false e = connection_view m c r (get m.connections c.0) refl (λ memory. ap (λ b. cond {A = Played} b (reply.Closed, m) (played_running memory m (Work c r))) e)

-- a Work does one or the other
pub work_view : (m : Machine) (c : ConnNo) (r : ReqNo) → Performs m c r ⊎ Stays m c r
work_view m c r = machine_view m c r m.halted refl
