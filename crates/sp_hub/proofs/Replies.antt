-- The answers to a frame.
use Rattle.std.proofs.Common.{◌≢◌, ℕ, inl, inr, Bool, true, false, cond, Option, Some, None, ap}
use Rattle.std.specs.FinMap.{get}
use Rattle.sp_base.specs.declared.names.ConnNo.{ConnNo}
use Rattle.sp_base.specs.declared.names.Cookie.{Cookie}
use Rattle.sp_base.specs.declared.names.Pid.{Pid}
use Rattle.sp_base.specs.declared.names.SpError.{SpError}
use Rattle.sp_frames.specs.declared.frame.Frame.{Frame}
use Rattle.sp_fork.specs.declared.unused.Unused.{Unused}
use Rattle.kern_model.specs.Journal.{next_entry, state_after}
use Rattle.kern_model.specs.declared.journal.Entry.{Entry}
use Rattle.kern_model.specs.declared.journal.Who.TheVariants.{Request}
use Rattle.kern_model.specs.declared.operation.Op.TheVariants as op
use Rattle.hub_model.specs.Journal.{nothing_read}
use Rattle.hub_model.specs.Machine.{Plays}
use Rattle.hub_model.specs.Requests.{attach, cancel, fork, fork_by, frame_at, frame_by, go_on, image, image_by, join, ready, refuse}
use Rattle.hub_model.specs.State.{Connection, Machine, Played}
use Rattle.hub_model.specs.Verdict.{verdict_of}
use Rattle.hub_model.specs.declared.event.Event.TheVariants as event
use Rattle.hub_model.specs.declared.event.Reply.{Reply}
use Rattle.hub_model.specs.declared.event.Reply.TheVariants as reply
use Rattle.hub_model.specs.declared.state.OpenCall.{OpenCall}
use Rattle.hub_model.specs.declared.verdict.Verdict.{Verdict}
use Rattle.hub_model.specs.declared.verdict.Verdict.TheVariants as verdict

-- it hands out no frame
abbrev IsIn : Reply → Type 0
IsIn (reply.Out f) = ⊥
IsIn _ = Unit {0}

refuse_in : (m : Machine) (c : ConnNo) (x : Connection) (f : Frame) (why : SpError) (kind : Option ℕ) → IsIn (refuse m c x f why kind).0
refuse_in m c x f why None = tt
refuse_in m c x f why (Some kind) = tt

attach_in : (m : Machine) (c : ConnNo) (x : Connection) (f : Frame) (next : Option Entry) → IsIn (attach m c x f next).0
attach_in m c x f None = tt
attach_in m c x f (Some e) = tt

join_in : (m : Machine) (c : ConnNo) (x : Connection) (f : Frame) (cookie : Cookie) (unused : Option Unused) → IsIn (join m c x f cookie unused).0
join_in m c x f cookie None = tt
join_in m c x f cookie (Some u) = tt

image_by_in : (m : Machine) (c : ConnNo) (x : Connection) (f : Frame) (cookie : Cookie) (u : Unused) (next : Option Entry) → IsIn (image_by m c x f cookie u next).0
image_by_in m c x f cookie u None = tt
image_by_in m c x f cookie u (Some e) = tt

image_in : (m : Machine) (c : ConnNo) (x : Connection) (f : Frame) (cookie : Cookie) (unused : Option Unused) → IsIn (image m c x f cookie unused).0
image_in m c x f cookie None = tt
image_in m c x f cookie (Some u) = image_by_in m c x f cookie u (next_entry m.journal u.pid (Request c f.number) op.Exec nothing_read)

fork_by_in : (m : Machine) (c : ConnNo) (x : Connection) (f : Frame) (salt : ℕ) (next : Option Entry) → IsIn (fork_by m c x f salt next).0
fork_by_in m c x f salt None = tt
fork_by_in m c x f salt (Some e) = tt

fork_in : (m : Machine) (c : ConnNo) (x : Connection) (f : Frame) (salt : ℕ) (process : Option Pid) → IsIn (fork m c x f salt process).0
fork_in m c x f salt None = tt
fork_in m c x f salt (Some pid) = fork_by_in m c x f salt (next_entry m.journal pid (Request c f.number) op.Fork nothing_read)

ready_in : (m : Machine) (c : ConnNo) (x : Connection) (f : Frame) (salt : ℕ) (process : Option Pid) → IsIn (ready m c x f salt process).0
ready_in m c x f salt None = tt
ready_in m c x f salt (Some pid) = tt

cancel_in : (m : Machine) (c : ConnNo) (x : Connection) (f : Frame) (cookie : Cookie) (unused : Option Unused) → IsIn (cancel m c x f cookie unused).0
cancel_in m c x f cookie None = tt
cancel_in m c x f cookie (Some u) = tt

go_in : (m : Machine) (c : ConnNo) (x : Connection) (f : Frame) (next : OpenCall → OpenCall) (task : Option OpenCall) → IsIn (go_on m c x f next task).0
go_in m c x f next None = tt
go_in m c x f next (Some task) = tt

verdict_in : (v : Verdict) (m : Machine) (c : ConnNo) (x : Connection) (f : Frame) (salt : ℕ) → IsIn (frame_by v m c x f salt).0
verdict_in verdict.Closed m c x f salt = tt
verdict_in verdict.Malformed m c x f salt = tt
verdict_in (verdict.Refused why) m c x f salt = refuse_in m c x f why _
verdict_in verdict.Attach m c x f salt = attach_in m c x f _
verdict_in (verdict.Join cookie) m c x f salt = join_in m c x f cookie _
verdict_in (verdict.Image cookie) m c x f salt = image_in m c x f cookie _
verdict_in verdict.Fork m c x f salt = fork_in m c x f salt _
verdict_in verdict.Ready m c x f salt = ready_in m c x f salt _
verdict_in (verdict.Cancel cookie) m c x f salt = cancel_in m c x f cookie _
verdict_in (verdict.Task call) m c x f salt = tt
verdict_in verdict.Copy m c x f salt = go_in m c x f _ _
verdict_in (verdict.CopyFault why) m c x f salt = go_in m c x f _ _

frame_in : (m : Machine) (c : ConnNo) (f : Frame) (salt : ℕ) (o : Option Connection) → IsIn (frame_at m c f salt o).0
frame_in m c f salt None = tt
frame_in m c f salt (Some x) = verdict_in (verdict_of (state_after m.journal) m.cookies c x f) m c x f salt

played_in : (m : Machine) (c : ConnNo) (f : Frame) (salt : ℕ) (halted : Bool) → IsIn (cond {A = Played} halted (reply.Closed, m) (frame_at m c f salt (get m.connections c.0))).0
played_in m c f salt true = tt
played_in m c f salt false = frame_in m c f salt (get m.connections c.0)

no_out : (answer : Reply) (f : Frame) → IsIn answer → answer ≢ reply.Out f
no_out (reply.Out g) f h = absurd h
no_out _ f h = λ e. cc

-- a frame that comes has no other frame handed out
pub frame_out : (m m' : Machine) (c : ConnNo) (f g : Frame) (salt : ℕ) (answer : Reply) → Plays m (event.Frame c f salt) answer m' → answer ≢ reply.Out g
frame_out m m' c f g salt answer (inl p) = no_out answer g (rw (ap (λ (q : Played). q.0) p.1) (played_in m c f salt m.halted))
frame_out m m' c f g salt answer (inr stays) = no_out answer g (rw stays.answers tt)
