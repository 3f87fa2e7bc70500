-- What a frame does, by its verdict, where there is a connection.
use Rattle.std.proofs.Common.{◌≡◌, ◌≢◌, inl, inr, ℕ, true, Option, Some, None, IsSome, IsTrue, refl, sym, ap, subst, ◌∙◌}
use Rattle.std.specs.Prelude.{is_some}
use Rattle.std.specs.FinMap.{get, insert}
use Rattle.sp_base.specs.Table.{lowest_unused}
use Rattle.sp_base.specs.declared.errno.Errno.{Errno}
use Rattle.sp_base.specs.declared.limits.TheConstants.{FIRST_PROCESS}
use Rattle.sp_base.specs.declared.names.ConnNo.{ConnNo}
use Rattle.sp_base.specs.declared.names.Cookie.{Cookie}
use Rattle.sp_base.specs.declared.names.Pid.{Pid}
use Rattle.sp_base.specs.declared.names.SpError.{SpError}
use Rattle.sp_frames.specs.declared.frame.Frame.{Frame}
use Rattle.sp_fork.specs.declared.unused.Unused.{Unused}
use Rattle.kern_model.specs.Journal.{next_entry, state_after}
use Rattle.kern_model.specs.declared.journal.Entry.{Entry}
use Rattle.kern_model.specs.declared.journal.Who.TheVariants.{Request}
use Rattle.kern_model.specs.declared.operation.Op.TheVariants as op
use Rattle.hub_model.specs.Frames.{answered_kind}
use Rattle.hub_model.specs.Journal.{nothing_read}
use Rattle.hub_model.specs.Machine.{frame_takes}
use Rattle.hub_model.specs.Requests.{attach, bytes_in, cancel, fork, fork_by, frame_at, frame_by, go_on, image, image_by, join, ready, refuse, with_copy, with_error}
use Rattle.hub_model.specs.State.{Connection, Machine, Played, is_live, process_in, with_connection}
use Rattle.hub_model.specs.Verdict.{verdict_of}
use Rattle.hub_model.specs.declared.event.Reply.TheVariants as reply
use Rattle.hub_model.specs.declared.state.Condition.{Condition}
use Rattle.hub_model.specs.declared.state.Condition.TheVariants as condition
use Rattle.hub_model.specs.declared.state.OpenCall.{OpenCall}
use Rattle.hub_model.specs.declared.state.OpenCall.TheVariants.{Gathers}
use Rattle.hub_model.specs.declared.verdict.Verdict.{Verdict}
use Rattle.hub_model.specs.declared.verdict.Verdict.TheVariants as verdict
use Rattle.hub_model.proofs.Verdicts.{Tells, Waits, copies, fails, refuses_takes, tells}
use Rattle.sp_hub.specs.At.{verdict_at}
use Rattle.sp_hub.proofs.Handovers.{enters}
use Rattle.sp_hub.proofs.Handshakes.{attach_enters}

-- a frame of a verdict comes over a connection that is there
pub record Heard (m : Machine) (c : ConnNo) (f : Frame) (salt : ℕ) (v : Verdict) : Type 0 where
  pub connection : Connection
  pub here : get m.connections c.0 ≡ Some connection
  pub verdict : verdict_of (state_after m.journal) m.cookies c connection f ≡ v
  pub step : frame_at m c f salt (get m.connections c.0) ≡ frame_by v m c connection f salt

heard_by : (m : Machine) (c : ConnNo) (f : Frame) (salt : ℕ) (v : Verdict) (o : Option Connection) → get m.connections c.0 ≡ o → v ≡ verdict_at (state_after m.journal) m.cookies c f o → v ≢ verdict.Closed → Heard m c f salt v
heard_by m c f salt v None here is not = absurd (not is)
heard_by m c f salt v (Some x) here is not = record {
  connection = x;
  here = here;
  verdict = sym is;
  step = ap (frame_at m c f salt) here ∙ ap (λ (w : Verdict). frame_by w m c x f salt) (sym is);
}

pub heard : (m : Machine) (c : ConnNo) (f : Frame) (salt : ℕ) (v : Verdict) → v ≡ verdict_at (state_after m.journal) m.cookies c f (get m.connections c.0) → v ≢ verdict.Closed → Heard m c f salt v
heard m c f salt v is not = heard_by m c f salt v (get m.connections c.0) refl is not

-- what the verdict tells of the connection
pub told : (m : Machine) (c : ConnNo) (f : Frame) (salt : ℕ) (v : Verdict) (h : Heard m c f salt v) → Tells (state_after m.journal) m.cookies c h.connection f.number.0 f.body v
told m c f salt v h = tells (state_after m.journal) m.cookies c h.connection f v h.verdict

-- what is so of the connection that sends the frame is so of each that is found there
pub at_each : (m : Machine) (c : ConnNo) (f : Frame) (salt : ℕ) (v : Verdict) (P : Connection → Type 0) (h : Heard m c f salt v) → P h.connection → (x : Connection) → get m.connections c.0 ≡ Some x → P x
at_each m c f salt v P h p x here = let same : h.connection ≡ x = (let e = sym h.here ∙ here in cc) in subst P same p

-- ---- refusals

refuse_reply : (m : Machine) (c : ConnNo) (x : Connection) (f : Frame) (why : SpError) (kind : Option ℕ) → (refuse m c x f why kind).0 ≡ reply.Refused why
refuse_reply m c x f why None = refl
refuse_reply m c x f why (Some kind) = refl

-- a refusal's error takes memory
pub refusal_wants : (m : Machine) (c : ConnNo) (f : Frame) (salt : ℕ) (why : SpError) → Heard m c f salt (verdict.Refused why) → IsTrue (frame_takes (frame_at m c f salt (get m.connections c.0)).0)
refusal_wants m c f salt why h =
    ap (λ (p : Played). frame_takes p.0) h.step ∙ (ap frame_takes (refuse_reply m c h.connection f why (answered_kind f.body)) ∙ refuses_takes (state_after m.journal) m.cookies c h.connection f why h.verdict)

-- ---- handshakes

attach_reply : (m : Machine) (c : ConnNo) (x : Connection) (f : Frame) (next : Option Entry) → IsSome next → (attach m c x f next).0 ≡ reply.Done
attach_reply m c x f None h = absurd cc
attach_reply m c x f (Some e) h = refl

-- a guest's handshake is performed
pub attach_done : (m : Machine) (c : ConnNo) (f : Frame) (salt : ℕ) → Heard m c f salt verdict.Attach → (frame_at m c f salt (get m.connections c.0)).0 ≡ reply.Done
attach_done m c f salt h = ap (λ (p : Played). p.0) h.step ∙ attach_reply m c h.connection f _ (attach_enters m.journal c f.number)

-- a child's handshake is performed
pub join_done : (m : Machine) (c : ConnNo) (f : Frame) (salt : ℕ) (cookie : Cookie) → Heard m c f salt (verdict.Join cookie) → (frame_at m c f salt (get m.connections c.0)).0 ≡ reply.Done
join_done m c f salt cookie h = ap (λ (p : Played). p.0) h.step ∙ ap (λ (o : Option Unused). (join m c h.connection f cookie o).0) (told m c f salt (verdict.Join cookie) h).there

image_reply : (m : Machine) (c : ConnNo) (x : Connection) (f : Frame) (cookie : Cookie) (u : Unused) (next : Option Entry) → IsSome next → (image_by m c x f cookie u next).0 ≡ reply.Done
image_reply m c x f cookie u None h = absurd cc
image_reply m c x f cookie u (Some e) h = refl

-- the handshake of a process's next program is performed
pub image_done : (m : Machine) (c : ConnNo) (f : Frame) (salt : ℕ) (cookie : Cookie) → Heard m c f salt (verdict.Image cookie) → (frame_at m c f salt (get m.connections c.0)).0 ≡ reply.Done
image_done m c f salt cookie h =
    let t = told m c f salt (verdict.Image cookie) h in
    ap (λ (p : Played). p.0) h.step ∙ (ap (λ (o : Option Unused). (image m c h.connection f cookie o).0) t.there
    ∙ image_reply m c h.connection f cookie t.unused (next_entry m.journal t.unused.pid (Request c f.number) op.Exec nothing_read) (enters m.journal t.unused.pid (Request c f.number) op.Exec (inr refl)))

-- ---- forks and execs

live_process : (k : Condition) → is_live k ≡ true → IsSome (process_in k)
live_process (condition.Live pid) e = refl
live_process condition.Fresh e = absurd cc
live_process (condition.InExec pid) e = absurd cc
live_process condition.Left e = absurd cc
live_process condition.Draining e = absurd cc

fork_by_reply : (m : Machine) (c : ConnNo) (x : Connection) (f : Frame) (salt : ℕ) (next : Option Entry) → IsSome next → (fork_by m c x f salt next).0 ≡ reply.Done
fork_by_reply m c x f salt None h = absurd cc
fork_by_reply m c x f salt (Some e) h = refl

fork_reply : (m : Machine) (c : ConnNo) (x : Connection) (f : Frame) (salt : ℕ) (process : Option Pid) → IsSome process → (fork m c x f salt process).0 ≡ reply.Done
fork_reply m c x f salt None h = absurd cc
fork_reply m c x f salt (Some pid) h = fork_by_reply m c x f salt (next_entry m.journal pid (Request c f.number) op.Fork nothing_read) (enters m.journal pid (Request c f.number) op.Fork (inl refl))

-- a fork is performed
pub fork_done : (m : Machine) (c : ConnNo) (f : Frame) (salt : ℕ) → Heard m c f salt verdict.Fork → (frame_at m c f salt (get m.connections c.0)).0 ≡ reply.Done
fork_done m c f salt h =
    ap (λ (p : Played). p.0) h.step ∙ fork_reply m c h.connection f salt (process_in h.connection.condition) (live_process h.connection.condition (told m c f salt verdict.Fork h).live)

-- a number is unused for the child
pub fork_number : (m : Machine) (c : ConnNo) (f : Frame) (salt : ℕ) → Heard m c f salt verdict.Fork → IsSome (lowest_unused (state_after m.journal).processes FIRST_PROCESS)
fork_number m c f salt h = ap (λ (o : Option ℕ). is_some o) (told m c f salt verdict.Fork h).lowest

ready_reply : (m : Machine) (c : ConnNo) (x : Connection) (f : Frame) (salt : ℕ) (process : Option Pid) → IsSome process → (ready m c x f salt process).0 ≡ reply.Done
ready_reply m c x f salt None h = absurd cc
ready_reply m c x f salt (Some pid) h = refl

-- a process is ready to go on as its next program
pub ready_done : (m : Machine) (c : ConnNo) (f : Frame) (salt : ℕ) → Heard m c f salt verdict.Ready → (frame_at m c f salt (get m.connections c.0)).0 ≡ reply.Done
ready_done m c f salt h =
    ap (λ (p : Played). p.0) h.step ∙ ready_reply m c h.connection f salt (process_in h.connection.condition) (live_process h.connection.condition (told m c f salt verdict.Ready h).live)

-- a cookie is taken back
pub cancel_done : (m : Machine) (c : ConnNo) (f : Frame) (salt : ℕ) (cookie : Cookie) → Heard m c f salt (verdict.Cancel cookie) → (frame_at m c f salt (get m.connections c.0)).0 ≡ reply.Done
cancel_done m c f salt cookie h = ap (λ (p : Played). p.0) h.step ∙ ap (λ (o : Option Unused). (cancel m c h.connection f cookie o).0) (told m c f salt (verdict.Cancel cookie) h).there

-- ---- copies

-- an open call goes on with what came for it
pub record Goes (m : Machine) (c : ConnNo) (f : Frame) (salt : ℕ) (next : OpenCall → OpenCall) : Type 0 where
  pub connection : Connection
  pub here : get m.connections c.0 ≡ Some connection
  pub task : OpenCall
  pub found : get connection.calls f.number.0 ≡ Some task
  pub step : frame_at m c f salt (get m.connections c.0) ≡ (reply.Task f.number, with_connection m c (record connection { calls = insert connection.calls f.number.0 (next task) }))

goes_by : (m : Machine) (c : ConnNo) (f : Frame) (salt : ℕ) (next : OpenCall → OpenCall) (x : Connection) → get m.connections c.0 ≡ Some x
    → frame_at m c f salt (get m.connections c.0) ≡ go_on m c x f next (get x.calls f.number.0) → Waits x f.number.0 → Goes m c f salt next
goes_by m c f salt next x here step w = record {
  connection = x;
  here = here;
  task = Gathers w.call w.got true;
  found = w.task;
  step = step ∙ ap (go_on m c x f next) w.task;
}

pub copy_goes : (m : Machine) (c : ConnNo) (f : Frame) (salt : ℕ) → Heard m c f salt verdict.Copy → Goes m c f salt (λ task. with_copy task (bytes_in f.body))
copy_goes m c f salt h = goes_by m c f salt (λ task. with_copy task (bytes_in f.body)) h.connection h.here h.step (copies (state_after m.journal) m.cookies c h.connection f h.verdict).waits

pub fault_goes : (m : Machine) (c : ConnNo) (f : Frame) (salt : ℕ) (why : Errno) → Heard m c f salt (verdict.CopyFault why) → Goes m c f salt (λ task. with_error task why)
fault_goes m c f salt why h = goes_by m c f salt (λ task. with_error task why) h.connection h.here h.step (fails (state_after m.journal) m.cookies c h.connection f why h.verdict).waits

-- the call of that number is open
pub goes_there : (m : Machine) (c : ConnNo) (f : Frame) (salt : ℕ) (next : OpenCall → OpenCall) → Goes m c f salt next → (x : Connection) → get m.connections c.0 ≡ Some x → IsSome (get x.calls f.number.0)
goes_there m c f salt next g x here =
    let same : g.connection ≡ x = (let e = sym g.here ∙ here in cc) in
    subst (λ (y : Connection). IsSome (get y.calls f.number.0)) same (ap (λ (o : Option OpenCall). is_some o) g.found)
