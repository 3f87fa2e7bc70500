-- Whatever happens while a fork cookie stays unused, its child stays as it was.
use Rattle.std.proofs.Common.{◌≡◌, ◌≢◌, ℕ, Bool, true, false, List, [], ◌∷◌, ◌++◌, Option, Some, None, IsSome, refl, sym, ap, subst, ◌∙◌}
use Rattle.std.specs.FinMap.{get}
use Rattle.sp_base.specs.Table.{at}
use Rattle.sp_base.specs.declared.call.Call.{Call}
use Rattle.sp_base.specs.declared.names.ConnNo.{ConnNo}
use Rattle.sp_base.specs.declared.names.Cookie.{Cookie}
use Rattle.sp_base.specs.declared.names.Pid.{Pid}
use Rattle.sp_base.specs.declared.names.ReqNo.{ReqNo}
use Rattle.sp_base.specs.declared.names.SpError.{SpError}
use Rattle.sp_frames.specs.declared.frame.Frame.{Frame}
use Rattle.kern_model.specs.declared.journal.Entry.{Entry}
use Rattle.kern_model.specs.declared.journal.Who.{Who}
use Rattle.kern_model.specs.declared.journal.Who.TheVariants.{Request, End, Cancelled}
use Rattle.kern_model.specs.declared.operation.Ins.{Ins}
use Rattle.kern_model.specs.declared.operation.Ins.TheVariants.{Given, Fault}
use Rattle.kern_model.specs.declared.operation.Op.{Op}
use Rattle.kern_model.specs.declared.operation.Op.TheVariants as op
use Rattle.kern_model.specs.Journal.{next_entry, state_after}
use Rattle.kern_model.specs.Laws.{changed_process}
use Rattle.kern_model.specs.State.{Process, State}
use Rattle.kern_model.proofs.OperationLaws.{others_stay}
use Rattle.sp_fork.specs.Jar.{Jar, after, cancellable, made_by, redeemable, without}
use Rattle.sp_fork.specs.Jar.Operation.{Cancel}
use Rattle.sp_fork.specs.declared.unused.CookieKind.{CookieKind}
use Rattle.sp_fork.specs.declared.unused.CookieKind.TheVariants as kind
use Rattle.sp_fork.specs.declared.unused.Unused.{Unused}
use Rattle.hub_model.specs.Cookies.{Ledger, ledger_of, take_all_back, take_back, take_back_by, take_back_each, with_ledger, without_child}
use Rattle.hub_model.specs.Ends.{gone}
use Rattle.hub_model.specs.Frames.{answered_kind}
use Rattle.hub_model.specs.Inherit.{ChildrenWait, process_at}
use Rattle.hub_model.specs.Journal.{exit_of, nothing_read, with_entry}
use Rattle.hub_model.specs.Machine.{Plays}
use Rattle.hub_model.specs.Requests.{attach, bytes_in, cancel, fork, fork_by, frame_by, go_on, image, image_by, join, left_at, no_process, ready, redeemed, refuse, with_copy, with_error}
use Rattle.hub_model.specs.Sound.{IsSound, IsUnspoken, IsWaitingFor}
use Rattle.hub_model.specs.State.{Connection, Machine, process_in}
use Rattle.hub_model.specs.Verdict.{verdict_of}
use Rattle.hub_model.specs.Work.{perform, performed}
use Rattle.hub_model.specs.declared.event.Event.{Event}
use Rattle.hub_model.specs.declared.event.Reply.{Reply}
use Rattle.hub_model.specs.declared.handover.Handover.TheVariants as handover
use Rattle.hub_model.specs.declared.state.OpenCall.{OpenCall}
use Rattle.hub_model.specs.declared.verdict.Verdict.{Verdict}
use Rattle.hub_model.specs.declared.verdict.Verdict.TheVariants as verdict
use Rattle.hub_model.proofs.Entries.{attached, forked, nexts}
use Rattle.hub_model.proofs.Events.{Leads, plays_leads}
use Rattle.hub_model.proofs.Ledgers.{cancellable_is, redeemable_is, taken_back}
use Rattle.hub_model.proofs.Offers.{left}
use Rattle.hub_model.proofs.Steps.{pid_is}
use Rattle.hub_model.proofs.Verdicts.{Attaches, Forks, tells}

-- ---- one entry

-- an entry leaves every process but the one that it may change
other_entry : (journal : List Entry) (p : ℕ) (pid : Pid) (who : Who) (operation : Op) (ins : Ins) (e : Entry) → next_entry journal pid who operation ins ≡ Some e
    → p ≢ changed_process pid.0 operation e.outcome → at (state_after (journal ++ e ∷ [])).processes p ≡ at (state_after journal).processes p
other_entry journal p pid who operation ins e h other =
    let n = nexts journal pid who operation ins e h in
    subst (λ (s : State). at s.processes p ≡ at (state_after journal).processes p) (sym n.state)
    (others_stay (state_after journal) pid.0 operation ins e.outcome n.next p n.acts other)

other_exit : (journal : List Entry) (p : ℕ) (pid : Pid) (who : Who) (next : Option Entry) → next_entry journal pid who op.Exit nothing_read ≡ next → p ≢ pid.0
    → at (state_after (with_entry journal next)).processes p ≡ at (state_after journal).processes p
other_exit journal p pid who None h other = refl
other_exit journal p pid who (Some e) h other = other_entry journal p pid who op.Exit nothing_read e h other

other_child : (journal : List Entry) (p number : ℕ) (pid : Pid) (k : CookieKind) → p ≢ pid.0 → at (state_after (without_child journal number pid k)).processes p ≡ at (state_after journal).processes p
other_child journal p number pid kind.Fork other = other_exit journal p pid (Cancelled number) (next_entry journal pid (Cancelled number) op.Exit nothing_read) refl other
other_child journal p number pid kind.Exec other = refl

-- ---- cookies are taken back

-- a cookie that is there after one was taken back was there before, and its process stays
back_stays : (m : Machine) (l : Ledger) (c : ConnNo) (cookie : Cookie) (o : Option Unused) (number : ℕ) (u : Unused) → IsSound (with_ledger m l) → cancellable l.cookies cookie c ≡ o
    → get (take_back_by l c cookie o).cookies.unused number ≡ Some u
    → (get l.cookies.unused number ≡ Some u) × (at (state_after (take_back_by l c cookie o).journal).processes u.pid.0 ≡ at (state_after l.journal).processes u.pid.0)
back_stays m l c cookie None number u sound is there = (there, refl)
back_stays m l c cookie (Some v) number u sound is there =
    let jar : after l.cookies (Cancel cookie c) ≡ without l.cookies cookie.number (Some v) = ap (λ (o : Option Unused). without l.cookies cookie.number o) is in
    let was = left l.cookies cookie.number number u (sym (ap (λ (j : Jar). get j.unused number) jar) ∙ there) in
    let found = (cancellable_is l.cookies cookie c v is).0 in (
      was.before,
      other_child l.journal u.pid.0 cookie.number v.pid v.kind
          (λ same. was.other (sound.apart number cookie.number u v was.before found (pid_is u.pid v.pid same))),
    )

each_stays : (m : Machine) (l : Ledger) (c : ConnNo) (cookies : List Cookie) (number : ℕ) (u : Unused) → IsSound (with_ledger m l)
    → get (take_back_each l c cookies).cookies.unused number ≡ Some u
    → (get l.cookies.unused number ≡ Some u) × (at (state_after (take_back_each l c cookies).journal).processes u.pid.0 ≡ at (state_after l.journal).processes u.pid.0)
each_stays m l c [] number u sound there = (there, refl)
each_stays m l c (cookie ∷ cookies) number u sound there =
    let next = take_back l c cookie in
    let later = each_stays m next c cookies number u (taken_back (with_ledger m l) c cookie (cancellable l.cookies cookie c) sound refl) there in
    let first = back_stays m l c cookie (cancellable l.cookies cookie c) number u sound refl later.0 in
    (first.0, later.1 ∙ first.1)

-- ---- a child that waits

module _ (m : Machine) (number : ℕ) (u : Unused) (sound : IsSound m) (child : u.kind ≡ kind.Fork) (there : get m.cookies.unused number ≡ Some u) where
  -- where the cookie is unused, its child is as it was
  abbrev Waits : Machine → Type 0
  Waits m' = get m'.cookies.unused number ≡ Some u → process_at m' u.pid.0 ≡ process_at m u.pid.0

  unspoken : IsUnspoken m u.pid
  unspoken = subst (λ (k : CookieKind). IsWaitingFor m u k) child (sound.cookies number u there).waits

  -- no connection's process is the child
  not_his : (c : ℕ) (x : Connection) (pid : Pid) → get m.connections c ≡ Some x → process_in x.condition ≡ Some pid → u.pid.0 ≢ pid.0
  not_his c x pid here own same = unspoken c x here (own ∙ ap (λ (p : Pid). Some p) (sym (pid_is u.pid pid same)))

  -- a process that isn't there isn't the child
  not_new : (p : ℕ) → at (state_after m.journal).processes p ≡ None → u.pid.0 ≢ p
  not_new p none same =
      let live : IsSome (at (state_after m.journal).processes p) = subst (λ (q : ℕ). IsSome (at (state_after m.journal).processes q)) same (sound.cookies number u there).process in
      let gone : IsSome {T = Process} None = subst (λ (o : Option Process). IsSome o) none live in cc

  -- ---- a connection goes

  own_exit : (l : Ledger) (c : ConnNo) (x : Connection) (process : Option Pid) → get m.connections c.0 ≡ Some x → process_in x.condition ≡ process
      → at (state_after (exit_of l.journal c process)).processes u.pid.0 ≡ at (state_after l.journal).processes u.pid.0
  own_exit l c x None here own = refl
  own_exit l c x (Some pid) here own = other_exit l.journal u.pid.0 pid (End c) (next_entry l.journal pid (End c) op.Exit nothing_read) refl (not_his c.0 x pid here own)

  gone_waits : (c : ConnNo) (x : Connection) → get m.connections c.0 ≡ Some x → Waits (gone m c x)
  gone_waits c x here still =
      own_exit (take_all_back (ledger_of m) c) c x (process_in x.condition) here refl
      ∙ (each_stays m (ledger_of m) c (made_by m.cookies c) number u sound still).1

  -- ---- frames

  refuse_waits : (c : ConnNo) (x : Connection) (f : Frame) (why : SpError) (o : Option ℕ) → Waits (refuse m c x f why o).1
  refuse_waits c x f why None still = refl
  refuse_waits c x f why (Some n) still = refl

  go_on_waits : (c : ConnNo) (x : Connection) (f : Frame) (next : OpenCall → OpenCall) (o : Option OpenCall) → Waits (go_on m c x f next o).1
  go_on_waits c x f next None still = refl
  go_on_waits c x f next (Some task) still = refl

  attach_waits : (c : ConnNo) (x : Connection) (f : Frame) (next : Option Entry) → Attaches (state_after m.journal) x f.number.0
      → next_entry m.journal no_process (Request c f.number) op.Attach nothing_read ≡ next → Waits (attach m c x f next).1
  attach_waits c x f None t h still = refl
  attach_waits c x f (Some e) t h still =
      let n = nexts m.journal no_process (Request c f.number) op.Attach nothing_read e h in
      other_entry m.journal u.pid.0 no_process (Request c f.number) op.Attach nothing_read e h
      (not_new e.outcome.ret0 (attached (state_after m.journal) t.pid e.outcome n.next t.lowest n.acts).unused)

  join_waits : (c : ConnNo) (x : Connection) (f : Frame) (cookie : Cookie) (o : Option Unused) → Waits (join m c x f cookie o).1
  join_waits c x f cookie None still = refl
  join_waits c x f cookie (Some v) still = refl

  -- the process of an exec cookie isn't the child
  not_ready : (cookie : Cookie) (v : Unused) → redeemable m.cookies cookie kind.Exec ≡ Some v → u.pid.0 ≢ v.pid.0
  not_ready cookie v is same =
      let found = redeemable_is m.cookies cookie kind.Exec v is in
      let one = sound.apart number cookie.number u v there found.0 (pid_is u.pid v.pid same) in
      let both : Some u ≡ Some v = sym there ∙ (ap (λ (n : ℕ). get m.cookies.unused n) one ∙ found.0) in
      let equal : u ≡ v = cc in
      let clash : kind.Fork ≡ kind.Exec = sym child ∙ (ap (λ (w : Unused). w.kind) equal ∙ found.1) in cc

  left_journal : (n : Machine) (d : ConnNo) (o : Option Connection) → (left_at n d o).journal ≡ n.journal
  left_journal n d None = refl
  left_journal n d (Some y) = refl

  image_by_waits : (c : ConnNo) (x : Connection) (f : Frame) (cookie : Cookie) (v : Unused) (next : Option Entry) → redeemable m.cookies cookie kind.Exec ≡ Some v
      → next_entry m.journal v.pid (Request c f.number) op.Exec nothing_read ≡ next → Waits (image_by m c x f cookie v next).1
  image_by_waits c x f cookie v None is h still = refl
  image_by_waits c x f cookie v (Some e) is h still =
      ap (λ (j : List Entry). at (state_after j).processes u.pid.0)
      (left_journal (record (redeemed m cookie kind.Exec) { journal = m.journal ++ e ∷ []; handovers = handover.Imaged c cookie.number ∷ m.handovers }) v.maker (get m.connections v.maker.0))
      ∙ other_entry m.journal u.pid.0 v.pid (Request c f.number) op.Exec nothing_read e h (not_ready cookie v is)

  image_waits : (c : ConnNo) (x : Connection) (f : Frame) (cookie : Cookie) (o : Option Unused) → redeemable m.cookies cookie kind.Exec ≡ o → Waits (image m c x f cookie o).1
  image_waits c x f cookie None is still = refl
  image_waits c x f cookie (Some v) is still = image_by_waits c x f cookie v (next_entry m.journal v.pid (Request c f.number) op.Exec nothing_read) is refl still

  fork_by_waits : (c : ConnNo) (x : Connection) (f : Frame) (salt : ℕ) (pid : Pid) (next : Option Entry) → get m.connections c.0 ≡ Some x → process_in x.condition ≡ Some pid
      → Forks (state_after m.journal) m.cookies x f.number.0 → next_entry m.journal pid (Request c f.number) op.Fork nothing_read ≡ next → Waits (fork_by m c x f salt next).1
  fork_by_waits c x f salt pid None here own t h still = refl
  fork_by_waits c x f salt pid (Some e) here own t h still =
      let n = nexts m.journal pid (Request c f.number) op.Fork nothing_read e h in
      let made = forked (state_after m.journal) pid.0 t.pid e.outcome n.next ((sound.each c.0 x here).process pid own) t.lowest n.acts in
      other_entry m.journal u.pid.0 pid (Request c f.number) op.Fork nothing_read e h (not_new e.outcome.ret0 made.unused)

  fork_waits : (c : ConnNo) (x : Connection) (f : Frame) (salt : ℕ) (process : Option Pid) → get m.connections c.0 ≡ Some x → process_in x.condition ≡ process
      → Forks (state_after m.journal) m.cookies x f.number.0 → Waits (fork m c x f salt process).1
  fork_waits c x f salt None here own t still = refl
  fork_waits c x f salt (Some pid) here own t still = fork_by_waits c x f salt pid (next_entry m.journal pid (Request c f.number) op.Fork nothing_read) here own t refl still

  ready_waits : (c : ConnNo) (x : Connection) (f : Frame) (salt : ℕ) (process : Option Pid) → Waits (ready m c x f salt process).1
  ready_waits c x f salt None still = refl
  ready_waits c x f salt (Some pid) still = refl

  cancel_waits : (c : ConnNo) (x : Connection) (f : Frame) (cookie : Cookie) (o : Option Unused) → cancellable m.cookies cookie c ≡ o → Waits (cancel m c x f cookie o).1
  cancel_waits c x f cookie None is still = refl
  cancel_waits c x f cookie (Some v) is still = (back_stays m (ledger_of m) c cookie (Some v) number u sound is still).1

  frame_waits : (v : Verdict) (c : ConnNo) (x : Connection) (f : Frame) (salt : ℕ) → get m.connections c.0 ≡ Some x → verdict_of (state_after m.journal) m.cookies c x f ≡ v
      → Waits (frame_by v m c x f salt).1
  frame_waits verdict.Closed c x f salt here is still = refl
  frame_waits verdict.Malformed c x f salt here is still = gone_waits c x here still
  frame_waits (verdict.Refused why) c x f salt here is still = refuse_waits c x f why (answered_kind f.body) still
  frame_waits verdict.Attach c x f salt here is still =
      attach_waits c x f (next_entry m.journal no_process (Request c f.number) op.Attach nothing_read) (tells (state_after m.journal) m.cookies c x f verdict.Attach is) refl still
  frame_waits (verdict.Join cookie) c x f salt here is still = join_waits c x f cookie (redeemable m.cookies cookie kind.Fork) still
  frame_waits (verdict.Image cookie) c x f salt here is still = image_waits c x f cookie (redeemable m.cookies cookie kind.Exec) refl still
  frame_waits verdict.Fork c x f salt here is still =
      fork_waits c x f salt (process_in x.condition) here refl (tells (state_after m.journal) m.cookies c x f verdict.Fork is) still
  frame_waits verdict.Ready c x f salt here is still = ready_waits c x f salt (process_in x.condition) still
  frame_waits (verdict.Cancel cookie) c x f salt here is still = cancel_waits c x f cookie (cancellable m.cookies cookie c) refl still
  frame_waits (verdict.Task call) c x f salt here is still = refl
  frame_waits verdict.Copy c x f salt here is still = go_on_waits c x f (λ task. with_copy task (bytes_in f.body)) (get x.calls f.number.0) still
  frame_waits (verdict.CopyFault why) c x f salt here is still = go_on_waits c x f (λ task. with_error task why) (get x.calls f.number.0) still

  -- ---- work

  performed_waits : (memory : Bool) (c : ConnNo) (x : Connection) (r : ReqNo) (call : Call) (ins : Ins) (pid : Pid) (next : Option Entry) → get m.connections c.0 ≡ Some x
      → process_in x.condition ≡ Some pid → next_entry m.journal pid (Request c r) (op.Sys call) ins ≡ next → Waits (performed memory m c x r next).1
  performed_waits true c x r call ins pid None here own h still = refl
  performed_waits false c x r call ins pid None here own h still = refl
  performed_waits true c x r call ins pid (Some e) here own h still =
      other_entry m.journal u.pid.0 pid (Request c r) (op.Sys call) ins e h (not_his c.0 x pid here own)
  performed_waits false c x r call ins pid (Some e) here own h still = refl

  perform_waits : (memory : Bool) (c : ConnNo) (x : Connection) (r : ReqNo) (call : Call) (ins : Ins) (process : Option Pid) → get m.connections c.0 ≡ Some x
      → process_in x.condition ≡ process → Waits (perform memory m c x r call ins process).1
  perform_waits memory c x r call ins None here own still = refl
  perform_waits memory c x r call ins (Some pid) here own still =
      performed_waits memory c x r call ins pid (next_entry m.journal pid (Request c r) (op.Sys call) ins) here own refl still

  -- ---- every event

  waits_leads : Leads m Waits
  waits_leads = record {
    same = λ still. refl;
    opened = λ c new still. refl;
    halted = λ still. refl;
    framed = frame_waits;
    asked = λ c x r call got need here there still. refl;
    given = λ memory c x r call got here there all. perform_waits memory c x r call (Given got) (process_in x.condition) here refl;
    failed = λ memory c x r call why here there. perform_waits memory c x r call (Fault why) (process_in x.condition) here refl;
    taken = λ c x f queue here still. refl;
    drained = λ answer c x f here. gone_waits c x here;
    closed = gone_waits;
  }

  plays_waits : (m' : Machine) (happens : Event) (answer : Reply) → Plays m happens answer m' → Waits m'
  plays_waits m' happens answer plays = plays_leads m Waits waits_leads m' happens answer plays

pub children_wait : ChildrenWait
children_wait m m' happens answer number u sound plays child there still = plays_waits m number u sound child there m' happens answer plays still
