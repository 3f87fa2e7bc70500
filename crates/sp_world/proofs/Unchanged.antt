-- What no frame and no call changes of the server: the highest number that was opened, and its version.
use Rattle.std.proofs.Common.{◌≡◌, ℕ, Bool, true, false, Option, Some, None, refl}
use Rattle.std.specs.FinMap.{get}
use Rattle.sp_base.specs.declared.call.Call.{Call}
use Rattle.sp_base.specs.declared.names.ConnNo.{ConnNo}
use Rattle.sp_base.specs.declared.names.Cookie.{Cookie}
use Rattle.sp_base.specs.declared.names.Pid.{Pid}
use Rattle.sp_base.specs.declared.names.ReqNo.{ReqNo}
use Rattle.sp_base.specs.declared.names.SpError.{SpError}
use Rattle.sp_frames.specs.declared.frame.Frame.{Frame}
use Rattle.sp_frames.specs.declared.version.Version.{Version}
use Rattle.kern_model.specs.Journal.{next_entry}
use Rattle.kern_model.specs.declared.journal.Entry.{Entry}
use Rattle.kern_model.specs.declared.journal.Who.TheVariants.{Request}
use Rattle.kern_model.specs.declared.operation.Ins.{Ins}
use Rattle.kern_model.specs.declared.operation.Op.TheVariants as op
use Rattle.sp_fork.specs.Jar.{cancellable, redeemable}
use Rattle.sp_fork.specs.declared.unused.CookieKind.TheVariants as kind
use Rattle.sp_fork.specs.declared.unused.Unused.{Unused}
use Rattle.hub_model.specs.Frames.{answered_kind}
use Rattle.hub_model.specs.Journal.{nothing_read}
use Rattle.hub_model.specs.Requests.{attach, bytes_in, cancel, fork, fork_by, frame_by, go_on, image, image_by, join, left_at, no_process, ready, refuse, with_copy, with_error}
use Rattle.hub_model.specs.State.{Connection, Machine, process_in}
use Rattle.hub_model.specs.Work.{perform, performed}
use Rattle.hub_model.specs.declared.state.OpenCall.{OpenCall}
use Rattle.hub_model.specs.declared.verdict.Verdict.{Verdict}
use Rattle.hub_model.specs.declared.verdict.Verdict.TheVariants as verdict

-- the highest number that was opened, and the version that is spoken
abbrev pub unchanged : Machine → Option ℕ × Version
unchanged m = (m.opened, m.version)

module _ (m : Machine) where
  -- ---- frames

  module _ (c : ConnNo) (x : Connection) (f : Frame) where
    refuse_unchanged : (why : SpError) (kind : Option ℕ) → unchanged (refuse m c x f why kind).1 ≡ unchanged m
    refuse_unchanged why None = refl
    refuse_unchanged why (Some kind) = refl

    attach_unchanged : (e : Option Entry) → unchanged (attach m c x f e).1 ≡ unchanged m
    attach_unchanged None = refl
    attach_unchanged (Some e) = refl

    join_unchanged : (cookie : Cookie) (u : Option Unused) → unchanged (join m c x f cookie u).1 ≡ unchanged m
    join_unchanged cookie None = refl
    join_unchanged cookie (Some u) = refl

    fork_by_unchanged : (salt : ℕ) (e : Option Entry) → unchanged (fork_by m c x f salt e).1 ≡ unchanged m
    fork_by_unchanged salt None = refl
    fork_by_unchanged salt (Some e) = refl

    fork_unchanged : (salt : ℕ) (pid : Option Pid) → unchanged (fork m c x f salt pid).1 ≡ unchanged m
    fork_unchanged salt None = refl
    fork_unchanged salt (Some pid) = fork_by_unchanged salt (next_entry m.journal pid (Request c f.number) op.Fork nothing_read)

    ready_unchanged : (salt : ℕ) (pid : Option Pid) → unchanged (ready m c x f salt pid).1 ≡ unchanged m
    ready_unchanged salt None = refl
    ready_unchanged salt (Some pid) = refl

    cancel_unchanged : (cookie : Cookie) (u : Option Unused) → unchanged (cancel m c x f cookie u).1 ≡ unchanged m
    cancel_unchanged cookie None = refl
    cancel_unchanged cookie (Some u) = refl

    copy_unchanged : (next : OpenCall → OpenCall) (task : Option OpenCall) → unchanged (go_on m c x f next task).1 ≡ unchanged m
    copy_unchanged next None = refl
    copy_unchanged next (Some task) = refl

  left_unchanged : (left : Machine) (c : ConnNo) (x : Option Connection) → unchanged (left_at left c x) ≡ unchanged left
  left_unchanged left c None = refl
  left_unchanged left c (Some x) = refl

  image_by_unchanged : (c : ConnNo) (x : Connection) (f : Frame) (cookie : Cookie) (u : Unused) (e : Option Entry)
      → unchanged (image_by m c x f cookie u e).1 ≡ unchanged m
  image_by_unchanged c x f cookie u None = refl
  image_by_unchanged c x f cookie u (Some e) = left_unchanged _ u.maker (get m.connections u.maker.0)

  image_unchanged : (c : ConnNo) (x : Connection) (f : Frame) (cookie : Cookie) (u : Option Unused) → unchanged (image m c x f cookie u).1 ≡ unchanged m
  image_unchanged c x f cookie None = refl
  image_unchanged c x f cookie (Some u) = image_by_unchanged c x f cookie u (next_entry m.journal u.pid (Request c f.number) op.Exec nothing_read)

  -- a frame leaves them as they are
  pub frame_unchanged : (v : Verdict) (c : ConnNo) (x : Connection) (f : Frame) (salt : ℕ) → unchanged (frame_by v m c x f salt).1 ≡ unchanged m
  frame_unchanged verdict.Closed c x f salt = refl
  frame_unchanged verdict.Malformed c x f salt = refl
  frame_unchanged (verdict.Refused why) c x f salt = refuse_unchanged c x f why (answered_kind f.body)
  frame_unchanged verdict.Attach c x f salt = attach_unchanged c x f (next_entry m.journal no_process (Request c f.number) op.Attach nothing_read)
  frame_unchanged (verdict.Join cookie) c x f salt = join_unchanged c x f cookie (redeemable m.cookies cookie kind.Fork)
  frame_unchanged (verdict.Image cookie) c x f salt = image_unchanged c x f cookie (redeemable m.cookies cookie kind.Exec)
  frame_unchanged verdict.Fork c x f salt = fork_unchanged c x f salt (process_in x.condition)
  frame_unchanged verdict.Ready c x f salt = ready_unchanged c x f salt (process_in x.condition)
  frame_unchanged (verdict.Cancel cookie) c x f salt = cancel_unchanged c x f cookie (cancellable m.cookies cookie c)
  frame_unchanged (verdict.Task call) c x f salt = refl
  frame_unchanged verdict.Copy c x f salt = copy_unchanged c x f (λ task. with_copy task (bytes_in f.body)) (get x.calls f.number.0)
  frame_unchanged (verdict.CopyFault why) c x f salt = copy_unchanged c x f (λ task. with_error task why) (get x.calls f.number.0)

  -- ---- work

  performed_unchanged : (memory : Bool) (c : ConnNo) (x : Connection) (r : ReqNo) (e : Option Entry) → unchanged (performed memory m c x r e).1 ≡ unchanged m
  performed_unchanged memory c x r None = refl
  performed_unchanged true c x r (Some e) = refl
  performed_unchanged false c x r (Some e) = refl

  -- so does a call that is performed
  pub perform_unchanged : (memory : Bool) (c : ConnNo) (x : Connection) (r : ReqNo) (call : Call) (ins : Ins) (pid : Option Pid)
      → unchanged (perform memory m c x r call ins pid).1 ≡ unchanged m
  perform_unchanged memory c x r call ins None = refl
  perform_unchanged memory c x r call ins (Some pid) = performed_unchanged memory c x r (next_entry m.journal pid (Request c r) (op.Sys call) ins)
