-- What was opened at the server stays opened, whatever happens.
use Rattle.std.proofs.Common.{◌≡◌, inl, ℕ, Bool, true, false, Option, Some, None, refl, sym, subst, arith}
use Rattle.std.specs.FinMap.{get}
use Rattle.sp_base.specs.declared.call.Call.{Call}
use Rattle.sp_base.specs.declared.names.ConnNo.{ConnNo}
use Rattle.sp_base.specs.declared.names.Cookie.{Cookie}
use Rattle.sp_base.specs.declared.names.Pid.{Pid}
use Rattle.sp_base.specs.declared.names.ReqNo.{ReqNo}
use Rattle.sp_base.specs.declared.names.SpError.{SpError}
use Rattle.sp_frames.specs.declared.frame.Frame.{Frame}
use Rattle.kern_model.specs.Journal.{next_entry}
use Rattle.kern_model.specs.declared.journal.Entry.{Entry}
use Rattle.kern_model.specs.declared.journal.Who.TheVariants.{Request}
use Rattle.kern_model.specs.declared.operation.Ins.{Ins}
use Rattle.kern_model.specs.declared.operation.Ins.TheVariants.{Fault, Given}
use Rattle.kern_model.specs.declared.operation.Op.TheVariants as op
use Rattle.sp_fork.specs.Jar.{cancellable, redeemable}
use Rattle.sp_fork.specs.declared.unused.CookieKind.TheVariants as kind
use Rattle.sp_fork.specs.declared.unused.Unused.{Unused}
use Rattle.hub_model.proofs.Events.{Leads, below_new, plays_leads}
use Rattle.hub_model.specs.Frames.{answered_kind}
use Rattle.hub_model.specs.Journal.{nothing_read}
use Rattle.hub_model.specs.Machine as server
use Rattle.hub_model.specs.Requests.{attach, bytes_in, cancel, fork, fork_by, frame_by, go_on, image, image_by, join, left_at, no_process, ready, refuse, with_copy, with_error}
use Rattle.hub_model.specs.Sound.{IsOpened}
use Rattle.hub_model.specs.State.{Connection, Machine, process_in}
use Rattle.hub_model.specs.Work.{perform, performed}
use Rattle.hub_model.specs.declared.event.Event.{Event as ServerEvent}
use Rattle.hub_model.specs.declared.state.OpenCall.{OpenCall}
use Rattle.hub_model.specs.declared.verdict.Verdict.{Verdict}
use Rattle.hub_model.specs.declared.verdict.Verdict.TheVariants as verdict
use Rattle.world_model.specs.Machine.{played}
use Rattle.world_model.specs.Run.{memory_for, to_be_served}
use Rattle.world_model.specs.State.{World}
use Rattle.world_model.specs.declared.event.Event.{Event}
use Rattle.world_model.proofs.Served.{after_served, rump_is}

module _ (m : Machine) where
  -- ---- frames

  module _ (c : ConnNo) (x : Connection) (f : Frame) where
    refuse_opened : (why : SpError) (kind : Option ℕ) → (refuse m c x f why kind).1.opened ≡ m.opened
    refuse_opened why None = refl
    refuse_opened why (Some kind) = refl

    attach_opened : (e : Option Entry) → (attach m c x f e).1.opened ≡ m.opened
    attach_opened None = refl
    attach_opened (Some e) = refl

    join_opened : (cookie : Cookie) (u : Option Unused) → (join m c x f cookie u).1.opened ≡ m.opened
    join_opened cookie None = refl
    join_opened cookie (Some u) = refl

    fork_by_opened : (salt : ℕ) (e : Option Entry) → (fork_by m c x f salt e).1.opened ≡ m.opened
    fork_by_opened salt None = refl
    fork_by_opened salt (Some e) = refl

    fork_opened : (salt : ℕ) (pid : Option Pid) → (fork m c x f salt pid).1.opened ≡ m.opened
    fork_opened salt None = refl
    fork_opened salt (Some pid) = fork_by_opened salt (next_entry m.journal pid (Request c f.number) op.Fork nothing_read)

    ready_opened : (salt : ℕ) (pid : Option Pid) → (ready m c x f salt pid).1.opened ≡ m.opened
    ready_opened salt None = refl
    ready_opened salt (Some pid) = refl

    cancel_opened : (cookie : Cookie) (u : Option Unused) → (cancel m c x f cookie u).1.opened ≡ m.opened
    cancel_opened cookie None = refl
    cancel_opened cookie (Some u) = refl

    copy_opened : (next : OpenCall → OpenCall) (task : Option OpenCall) → (go_on m c x f next task).1.opened ≡ m.opened
    copy_opened next None = refl
    copy_opened next (Some task) = refl

  left_opened : (left : Machine) (c : ConnNo) (x : Option Connection) → (left_at left c x).opened ≡ left.opened
  left_opened left c None = refl
  left_opened left c (Some x) = refl

  image_by_opened : (c : ConnNo) (x : Connection) (f : Frame) (cookie : Cookie) (u : Unused) (e : Option Entry)
      → (image_by m c x f cookie u e).1.opened ≡ m.opened
  image_by_opened c x f cookie u None = refl
  image_by_opened c x f cookie u (Some e) = left_opened _ u.maker (get m.connections u.maker.0)

  image_opened : (c : ConnNo) (x : Connection) (f : Frame) (cookie : Cookie) (u : Option Unused) → (image m c x f cookie u).1.opened ≡ m.opened
  image_opened c x f cookie None = refl
  image_opened c x f cookie (Some u) = image_by_opened c x f cookie u (next_entry m.journal u.pid (Request c f.number) op.Exec nothing_read)

  -- a frame opens nothing and closes nothing
  frame_opened : (v : Verdict) (c : ConnNo) (x : Connection) (f : Frame) (salt : ℕ) → (frame_by v m c x f salt).1.opened ≡ m.opened
  frame_opened verdict.Closed c x f salt = refl
  frame_opened verdict.Malformed c x f salt = refl
  frame_opened (verdict.Refused why) c x f salt = refuse_opened c x f why (answered_kind f.body)
  frame_opened verdict.Attach c x f salt = attach_opened c x f (next_entry m.journal no_process (Request c f.number) op.Attach nothing_read)
  frame_opened (verdict.Join cookie) c x f salt = join_opened c x f cookie (redeemable m.cookies cookie kind.Fork)
  frame_opened (verdict.Image cookie) c x f salt = image_opened c x f cookie (redeemable m.cookies cookie kind.Exec)
  frame_opened verdict.Fork c x f salt = fork_opened c x f salt (process_in x.condition)
  frame_opened verdict.Ready c x f salt = ready_opened c x f salt (process_in x.condition)
  frame_opened (verdict.Cancel cookie) c x f salt = cancel_opened c x f cookie (cancellable m.cookies cookie c)
  frame_opened (verdict.Task call) c x f salt = refl
  frame_opened verdict.Copy c x f salt = copy_opened c x f (λ task. with_copy task (bytes_in f.body)) (get x.calls f.number.0)
  frame_opened (verdict.CopyFault why) c x f salt = copy_opened c x f (λ task. with_error task why) (get x.calls f.number.0)

  -- ---- work

  performed_opened : (memory : Bool) (c : ConnNo) (x : Connection) (r : ReqNo) (e : Option Entry) → (performed memory m c x r e).1.opened ≡ m.opened
  performed_opened memory c x r None = refl
  performed_opened true c x r (Some e) = refl
  performed_opened false c x r (Some e) = refl

  perform_opened : (memory : Bool) (c : ConnNo) (x : Connection) (r : ReqNo) (call : Call) (ins : Ins) (pid : Option Pid)
      → (perform memory m c x r call ins pid).1.opened ≡ m.opened
  perform_opened memory c x r call ins None = refl
  perform_opened memory c x r call ins (Some pid) = performed_opened memory c x r (next_entry m.journal pid (Request c r) (op.Sys call) ins)

  -- ---- events

  -- a number that was opened
  module _ (n : ℕ) (o : IsOpened m.opened n) where
    -- it still is where the highest number is the same
    same_opened : (top : Option ℕ) → top ≡ m.opened → IsOpened top n
    same_opened top same = subst (λ (t : Option ℕ). IsOpened t n) (sym same) o

    leads_opened : Leads m (λ (new : Machine). IsOpened new.opened n)
    leads_opened = record {
      same = o;
      opened = λ c new. (let lt = below_new m.opened c.0 n new o in omega (arith, lt));
      halted = o;
      framed = λ v c x f salt here is. same_opened _ (frame_opened v c x f salt);
      asked = λ c x r call got need here there. o;
      given = λ memory c x r call got here there next. same_opened _ (perform_opened memory c x r call (Given got) (process_in x.condition));
      failed = λ memory c x r call why here there. same_opened _ (perform_opened memory c x r call (Fault why) (process_in x.condition));
      taken = λ c x f queue here. o;
      drained = λ answer c x f here. o;
      closed = λ c x here. o;
    }

    served_opened : (memory : Bool) (part : Option ServerEvent) → IsOpened (after_served memory m part).opened n
    served_opened memory None = o
    served_opened memory (Some e) =
        let after = server.played (memory_for memory e) m e in
        plays_leads m (λ (new : Machine). IsOpened new.opened n) leads_opened after.1 e after.0 (inl (memory_for memory e, refl))

-- what was opened stays opened
pub stays_opened : (memory : Bool) (w : World) (happens : Event) (n : ℕ) → IsOpened w.rump.opened n → IsOpened (played memory w happens).1.rump.opened n
stays_opened memory w happens n o =
    subst (λ (m : Machine). IsOpened m.opened n) (sym (rump_is memory w happens)) (served_opened w.rump n o memory (to_be_served w happens))
