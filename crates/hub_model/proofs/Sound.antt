-- Whatever event a sound machine plays, it is sound afterwards.
use Rattle.std.proofs.Common.{◌≡◌, inl, inr, ℕ, ◌<◌, Bool, true, false, List, [], ◌∷◌, ◌++◌, length, Option, Some, None, IsSome, refl, sym, subst, ◌∙◌, arith}
use Rattle.std.specs.Prelude.{IfSome}
use Rattle.std.specs.Ordering.{nat_cmp}
use Rattle.std.specs.FinMap.{get, insert, remove, get-empty}
use Rattle.sp_base.specs.Needs.{needs_of}
use Rattle.sp_base.specs.declared.call.Call.{Call}
use Rattle.sp_base.specs.declared.names.ConnNo.{ConnNo}
use Rattle.sp_base.specs.declared.names.Pid.{Pid}
use Rattle.sp_base.specs.declared.names.ReqNo.{ReqNo}
use Rattle.sp_base.specs.declared.names.SpError.{SpError}
use Rattle.sp_base.specs.declared.names.SpError.TheVariants as error
use Rattle.sp_frames.specs.declared.frame.Frame.{Frame}
use Rattle.kern_model.specs.declared.journal.Entry.{Entry}
use Rattle.kern_model.specs.declared.journal.Who.{Who}
use Rattle.kern_model.specs.declared.journal.Who.TheVariants.{Request, End, Cancelled, Host}
use Rattle.kern_model.specs.declared.operation.Ins.{Ins}
use Rattle.kern_model.specs.declared.operation.Ins.TheVariants.{Given, Fault}
use Rattle.kern_model.specs.declared.operation.Op.TheVariants as op
use Rattle.kern_model.specs.Journal.{state_after, next_entry}
use Rattle.kern_model.specs.Needs.{FitsIns}
use Rattle.sp_fork.specs.declared.unused.CookieKind.TheVariants as kind
use Rattle.sp_fork.specs.declared.unused.Unused.{Unused}
use Rattle.sp_fork.proofs.Jars.{empty_is_jar}
use Rattle.hub_model.specs.Cookies.{ledger_of, take_all_back, with_ledger}
use Rattle.hub_model.specs.Ends.{draining, drain, close}
use Rattle.hub_model.specs.Frames.{answered_kind, last_error, is_end}
use Rattle.hub_model.specs.Journal.{nothing_read}
use Rattle.hub_model.specs.Machine.{is_new}
use Rattle.hub_model.specs.Requests.{no_process, attach, refuse, bytes_in, with_copy, with_error, go_on, frame_by}
use Rattle.hub_model.specs.Sound.{is_waiting, IsConnection, HasDone, IsDone, IsUnspoken, IsInExec, IsCookie, IsSound, PlaysKeepSound}
use Rattle.hub_model.specs.Run.{Exchange, Runs}
use Rattle.hub_model.specs.State.{Connection, Machine, fresh_machine, fresh_connection, with_connection, process_in}
use Rattle.hub_model.specs.Work.{performed, perform}
use Rattle.hub_model.specs.declared.handover.Handover.TheVariants as handover
use Rattle.hub_model.specs.declared.event.Reply.{Reply}
use Rattle.hub_model.specs.declared.event.Reply.TheVariants as reply
use Rattle.hub_model.specs.declared.state.OpenCall.{OpenCall}
use Rattle.hub_model.specs.declared.state.OpenCall.TheVariants.{Gathers, Fails}
use Rattle.hub_model.specs.declared.verdict.Verdict.{Verdict}
use Rattle.hub_model.specs.declared.verdict.Verdict.TheVariants as verdict
use Rattle.hub_model.proofs.Events.{Leads, below_new, fresh_quiet, plays_leads, runs_keep}
use Rattle.hub_model.proofs.Handovers.{put_sound, join_sound, image_sound, fork_sound, ready_sound, cancel_sound}
use Rattle.hub_model.proofs.Keeps.{all_map, sound_change, waits_on}
use Rattle.hub_model.proofs.Ledgers.{all_taken_back, none_left}
use Rattle.hub_model.proofs.Offers.{noted_sound}
use Rattle.hub_model.proofs.Steps.{Goes, pieces_push, pieces_all, fault_of_call, refuse_keeps, open_keeps, task_keeps, answer_keeps, take_keeps, attach_keeps, perform_keeps, exit_keeps}
use Rattle.hub_model.proofs.Verdicts.{Attaches, Tells, tells}
use Rattle.tables.proofs.Maps.{Changes, after_change, put_changes, gone_changes, same_or_not}

-- ---- frames

refuse_sound : (m : Machine) (c : ConnNo) (x : Connection) (f : Frame) (why : SpError) (answers : Option ℕ) → IsSound m → get m.connections c.0 ≡ Some x → x.last < f.number.0 → IsSound (refuse m c x f why answers).1
refuse_sound m c x f why None sound here later = sound
refuse_sound m c x f why (Some number) sound here later = put_sound m c x _ m.journal sound here (refuse_keeps m c.0 f.number.0 x _ (sound.each c.0 x here) later)

drain_sound : (answer : Reply) (m : Machine) (c : ConnNo) (x : Connection) (f : Frame) → IsSound m → get m.connections c.0 ≡ Some x → IsSound (drain answer m c x f).1
drain_sound answer m c x f sound here =
    let without = with_ledger m (take_all_back (ledger_of m) c) in
    let is : IsSound without = all_taken_back m c sound in
    put_sound without c x (draining x f) _ is here
    (exit_keeps without c x (process_in x.condition) (Some (draining x f)) (is.each c.0 x here) (none_left m c) refl
    (λ y e. let same : draining x f ≡ y = cc in subst (λ (z : Connection). Goes x z) same (record { last = refl; process = refl; draining = refl; calls = λ n. get-empty nat_cmp n })))

close_sound : (m : Machine) (c : ConnNo) (x : Connection) → IsSound m → get m.connections c.0 ≡ Some x → IsSound (close m c x).1
close_sound m c x sound here =
    let without = with_ledger m (take_all_back (ledger_of m) c) in
    let is : IsSound without = all_taken_back m c sound in
    sound_change without c.0 x _ (remove m.connections c.0) None is here (gone_changes m.connections c.0)
    (exit_keeps without c x (process_in x.condition) None (is.each c.0 x here) (none_left m c) refl (λ y e. absurd cc))

attach_sound : (m : Machine) (c : ConnNo) (x : Connection) (f : Frame) (next : Option Entry) → IsSound m → get m.connections c.0 ≡ Some x → Attaches (state_after m.journal) x f.number.0
    → next_entry m.journal no_process (Request c f.number) op.Attach nothing_read ≡ next → IsSound (attach m c x f next).1
attach_sound m c x f None sound here a h = sound
attach_sound m c x f (Some e) sound here a h =
    let handovers' = handover.Attached c (record { 0 = length m.journal }) ∷ m.handovers in
    let noted = record m { handovers = handovers' } in
    let is : IsSound noted = noted_sound m handovers' m.halted sound in
    put_sound noted c x _ _ is here (attach_keeps noted c f.number x _ e is (sound.each c.0 x here) a h)

frame_sound : (v : Verdict) (m : Machine) (c : ConnNo) (x : Connection) (f : Frame) (salt : ℕ) → IsSound m → get m.connections c.0 ≡ Some x
    → Tells (state_after m.journal) m.cookies c x f.number.0 f.body v → IsSound (frame_by v m c x f salt).1
frame_sound verdict.Closed m c x f salt sound here told = sound
frame_sound verdict.Malformed m c x f salt sound here told = drain_sound (reply.Refused error.Malformed) m c x (last_error f.number (answered_kind f.body)) sound here
frame_sound (verdict.Refused why) m c x f salt sound here told = refuse_sound m c x f why (answered_kind f.body) sound here told.0
frame_sound verdict.Attach m c x f salt sound here told = attach_sound m c x f _ sound here told refl
frame_sound (verdict.Join cookie) m c x f salt sound here told = join_sound m c x f cookie _ sound here refl told
frame_sound (verdict.Image cookie) m c x f salt sound here told = image_sound m c x f cookie _ sound here refl told
frame_sound verdict.Fork m c x f salt sound here told = fork_sound m c x f salt _ sound here told refl
frame_sound verdict.Ready m c x f salt sound here told = ready_sound m c x f salt _ sound here told refl
frame_sound (verdict.Cancel cookie) m c x f salt sound here told = cancel_sound m c x f cookie _ sound here refl told
frame_sound (verdict.Task call) m c x f salt sound here told =
    put_sound m c x _ m.journal sound here (open_keeps m c.0 f.number.0 x call (sound.each c.0 x here) told.later told.live)
frame_sound verdict.Copy m c x f salt sound here told =
    let w = told.waits in
    let was = (sound.each c.0 x here).calls f.number.0 (Gathers w.call w.got true) w.task in
    subst (λ (o : Option OpenCall). IsSound (go_on m c x f (λ task. with_copy task (bytes_in f.body)) o).1) (sym w.task)
    (put_sound m c x _ m.journal sound here (task_keeps m c.0 f.number.0 x x.queue (Gathers w.call w.got true) (Gathers w.call (w.got ++ bytes_in f.body ∷ []) false) (sound.each c.0 x here) w.task refl
    (pieces_push (needs_of w.call) w.got w.need (bytes_in f.body) was.gathered w.next told.piece)))
frame_sound (verdict.CopyFault why) m c x f salt sound here told =
    let w = told.waits in
    subst (λ (o : Option OpenCall). IsSound (go_on m c x f (λ task. with_error task why) o).1) (sym w.task)
    (put_sound m c x _ m.journal sound here (task_keeps m c.0 f.number.0 x x.queue (Gathers w.call w.got true) (Fails w.call why) (sound.each c.0 x here) w.task refl
    (fault_of_call w.call (length w.got) w.need why w.next told.fits)))

-- ---- work

performed_sound : (memory : Bool) (m : Machine) (c : ConnNo) (x : Connection) (r : ReqNo) (old : OpenCall) (call : Call) (ins : Ins) (pid : Pid) (next : Option Entry)
    → IsSound m → get m.connections c.0 ≡ Some x → get x.calls r.0 ≡ Some old → is_waiting old ≡ true → process_in x.condition ≡ Some pid → FitsIns (op.Sys call) ins
    → next_entry m.journal pid (Request c r) (op.Sys call) ins ≡ next → IsSound (performed memory m c x r next).1
performed_sound true m c x r old call ins pid None sound here there waits own fits h = sound
performed_sound false m c x r old call ins pid None sound here there waits own fits h = sound
performed_sound true m c x r old call ins pid (Some e) sound here there waits own fits h =
    put_sound m c x _ _ sound here (perform_keeps m c r x _ old call ins pid e (sound.each c.0 x here) there waits own fits h)
performed_sound false m c x r old call ins pid (Some e) sound here there waits own fits h =
    put_sound m c x _ m.journal sound here (answer_keeps m c.0 r.0 x _ old (sound.each c.0 x here) there)

perform_sound : (memory : Bool) (m : Machine) (c : ConnNo) (x : Connection) (r : ReqNo) (old : OpenCall) (call : Call) (ins : Ins) (process : Option Pid)
    → IsSound m → get m.connections c.0 ≡ Some x → get x.calls r.0 ≡ Some old → is_waiting old ≡ true → process_in x.condition ≡ process → FitsIns (op.Sys call) ins
    → IsSound (perform memory m c x r call ins process).1
perform_sound memory m c x r old call ins None sound here there waits own fits = sound
perform_sound memory m c x r old call ins (Some pid) sound here there waits own fits = performed_sound memory m c x r old call ins pid _ sound here there waits own fits refl

-- ---- opening

open_done : (m : Machine) (c : ConnNo) → is_new m.opened c.0 ≡ true → (who : Who) → IsDone m who → IsDone (with_connection (record m { opened = Some c.0 }) c fresh_connection) who
open_done m c new (Request d r) h =
    let lt = below_new m.opened c.0 d.0 new h.0 in
    (omega arith, subst (λ (o : Option Connection). IfSome o (HasDone (Request d r))) (sym ((put_changes m.connections c.0 fresh_connection).others d.0 (λ e. omega arith))) h.1)
open_done m c new (End d) h =
    let lt = below_new m.opened c.0 d.0 new h.0 in
    (omega arith, subst (λ (o : Option Connection). IfSome o (HasDone (End d))) (sym ((put_changes m.connections c.0 fresh_connection).others d.0 (λ e. omega arith))) h.1)
open_done m c new (Cancelled number) h = h
open_done m c new (Host guest count) h = absurd h

-- an unused cookie is as it was once a connection is open
open_cookie : (m : Machine) (c : ConnNo) → IsSound m → is_new m.opened c.0 ≡ true → (u : Unused) → IsCookie m u → IsCookie (with_connection (record m { opened = Some c.0 }) c fresh_connection) u
open_cookie m c sound new u is = record {
  maker = elim (same_or_not u.maker.0 c.0) [
    | inl same ↦ subst (λ (n : ℕ). IsSome (get m'.connections n)) (sym same) (subst (λ (o : Option Connection). IsSome o) (sym changes.here) refl)
    | inr ne ↦ subst (λ (o : Option Connection). IsSome o) (sym (changes.others u.maker.0 ne)) is.maker
  ];
  process = is.process;
  waits = waits_on m m' u u.kind child_waits maker_waits is.waits;
} where
  m' : Machine
  m' = with_connection (record m { opened = Some c.0 }) c fresh_connection

  changes : Changes m.connections (insert m.connections c.0 fresh_connection) c.0 (Some fresh_connection)
  changes = put_changes m.connections c.0 fresh_connection

  child_waits : u.kind ≡ kind.Fork → IsUnspoken m u.pid → IsUnspoken m' u.pid
  child_waits fork unspoken d z h speaks = elim (after_change m.connections m'.connections c.0 d z (Some fresh_connection) changes h) [
    | inl e ↦ fresh_quiet z u.pid e.1 speaks
    | inr o ↦ unspoken d z o.1 speaks
  ]

  maker_waits : u.kind ≡ kind.Exec → IsInExec m u.maker u.pid → IsInExec m' u.maker u.pid
  maker_waits exec w =
      let lt = below_new m.opened c.0 u.maker.0 new (sound.opened u.maker.0 w.0 w.1) in
      (w.0, changes.others u.maker.0 (λ e. omega arith) ∙ w.1, w.2)

opened_sound : (m : Machine) (c : ConnNo) → IsSound m → is_new m.opened c.0 ≡ true → IsSound (with_connection (record m { opened = Some c.0 }) c fresh_connection)
opened_sound m c sound new =
    let connections = insert m.connections c.0 fresh_connection in
    let changes = put_changes m.connections c.0 fresh_connection in
    let m' = with_connection (record m { opened = Some c.0 }) c fresh_connection in
    record {
      legal = sound.legal;
      keys = sound.keys;
      done = all_map (λ e. IsDone m e.who) (λ e. IsDone m' e.who) (λ e h. open_done m c new e.who h) m.journal sound.done;
      opened = λ d z h. elim (after_change m.connections connections c.0 d z (Some fresh_connection) changes h) [
        | inl e ↦ (let same = e.0 in omega arith)
        | inr o ↦ (let lt = below_new m.opened c.0 d new (sound.opened d z o.1) in omega arith)
      ];
      each = λ d z h. elim (after_change m.connections connections c.0 d z (Some fresh_connection) changes h) [
        | inl e ↦ (let same : fresh_connection ≡ z = (let q = e.1 in cc) in subst (λ (y : Connection). IsConnection m.journal y) same (record {
          process = λ p s. absurd cc;
          calls = λ n t g. absurd (let k : None ≡ Some t = sym (get-empty nat_cmp n) ∙ g in cc);
        }))
        | inr o ↦ sound.each d z o.1
      ];
      owners = λ d l y z p h g s t. elim (after_change m.connections connections c.0 d y (Some fresh_connection) changes h) [
        | inl e ↦ absurd (fresh_quiet y p e.1 s)
        | inr o ↦ elim (after_change m.connections connections c.0 l z (Some fresh_connection) changes g) [
          | inl e ↦ absurd (fresh_quiet z p e.1 t)
          | inr r ↦ sound.owners d l y z p o.1 r.1 s t
        ]
      ];
      jar = sound.jar;
      cookies = λ number u h. open_cookie m c sound new u (sound.cookies number u h);
      apart = sound.apart;
    }

-- ---- every event

sound_leads : (m : Machine) → IsSound m → Leads m IsSound
sound_leads m sound = record {
  same = sound;
  opened = λ c new. opened_sound m c sound new;
  halted = noted_sound m m.handovers true sound;
  framed = λ v c x f salt here is. frame_sound v m c x f salt sound here (tells (state_after m.journal) m.cookies c x f v is);
  asked = λ c x r call got need here there. (let is = sound.each c.0 x here in
      put_sound m c x _ m.journal sound here (task_keeps m c.0 r.0 x _ (Gathers call got false) (Gathers call got true) is there refl (is.calls r.0 (Gathers call got false) there).gathered));
  given = λ memory c x r call got here there all. (let was = (sound.each c.0 x here).calls r.0 (Gathers call got false) there in
      perform_sound memory m c x r (Gathers call got false) call (Given got) (process_in x.condition) sound here there refl refl (pieces_all (needs_of call) got was.gathered all));
  failed = λ memory c x r call why here there. (let was = (sound.each c.0 x here).calls r.0 (Fails call why) there in
      perform_sound memory m c x r (Fails call why) call (Fault why) (process_in x.condition) sound here there refl refl was.gathered);
  taken = λ c x f queue here. put_sound m c x _ m.journal sound here (take_keeps m c.0 f.number.0 x queue (is_end f.body) (sound.each c.0 x here));
  drained = λ answer c x f here. drain_sound answer m c x f sound here;
  closed = λ c x here. close_sound m c x sound here;
}

-- whatever event a sound machine plays, it is sound afterwards
pub plays_sound : PlaysKeepSound
plays_sound m m' happens answer sound plays = plays_leads m IsSound (sound_leads m sound) m' happens answer plays

-- a machine to which nothing happened is sound
pub fresh_sound : (version : _) → IsSound (fresh_machine version)
fresh_sound version = record {
  legal = tt;
  keys = tt;
  done = tt;
  opened = λ c x h. absurd (let k : None ≡ Some x = sym (get-empty nat_cmp c) ∙ h in cc);
  each = λ c x h. absurd (let k : None ≡ Some x = sym (get-empty nat_cmp c) ∙ h in cc);
  owners = λ c d x y p h g s t. absurd (let k : None ≡ Some x = sym (get-empty nat_cmp c) ∙ h in cc);
  jar = empty_is_jar;
  cookies = λ number u h. absurd (let k : None ≡ Some u = sym (get-empty nat_cmp number) ∙ h in cc);
  apart = λ a b u v h g same. absurd (let k : None ≡ Some u = sym (get-empty nat_cmp a) ∙ h in cc);
}

-- every machine that a run leads to is sound
pub runs_sound : (m m' : Machine) (exchanges : List Exchange) → IsSound m → Runs m exchanges m' → IsSound m'
runs_sound m m' exchanges sound run = runs_keep IsSound plays_sound m m' exchanges sound run
