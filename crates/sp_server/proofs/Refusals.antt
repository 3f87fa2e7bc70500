-- Just the calls that are refused for memory are told to be, in order.
use Rattle.std.proofs.Common.{◌≡◌, inl, inr, ℕ, ◌+◌, Bool, true, false, cond, List, [], ◌∷◌, ◌++◌, length, Option, Some, None, refl, sym, ap, subst, ◌∙◌, append_assoc}
use Rattle.std.proofs.lemmas.Bool.{eqb-true}
use Rattle.std.proofs.lemmas.Grind.{flat_map-append}
use Rattle.std.proofs.lemmas.List.{append-nil}
use Rattle.std.specs.Prelude.{◌==◌, ◌||◌, nat_le, not, is_none, slice_get, ⊤}
use Rattle.std.specs.FinMap.{get, insert, len}
use Rattle.sp_base.specs.Call.{wanted_words, call_of}
use Rattle.sp_base.specs.Needs.{needs_of}
use Rattle.sp_base.specs.Table.{lowest_unused}
use Rattle.sp_base.specs.declared.errno.Errno.TheVariants.{Efault, Enametoolong}
use Rattle.sp_base.specs.declared.limits.TheConstants.{FIRST_PROCESS}
use Rattle.sp_base.specs.declared.names.ConnNo.{ConnNo}
use Rattle.sp_base.specs.declared.names.Cookie.{Cookie}
use Rattle.sp_base.specs.declared.names.Pid.{Pid}
use Rattle.sp_base.specs.declared.names.ReqNo.{ReqNo}
use Rattle.sp_base.specs.declared.names.SpError.{SpError}
use Rattle.sp_base.specs.declared.names.SpError.TheVariants as error
use Rattle.sp_base.specs.declared.need.Need.{Need}
use Rattle.sp_base.specs.declared.need.Need.TheVariants.{Bytes, Text}
use Rattle.sp_frames.specs.declared.frame.Body.{Body}
use Rattle.sp_frames.specs.declared.frame.Body.TheVariants as body
use Rattle.sp_frames.specs.declared.frame.Frame.{Frame}
use Rattle.kern_model.specs.State.{State}
use Rattle.kern_model.specs.Journal.{state_after, next_entry}
use Rattle.kern_model.specs.declared.journal.Entry.{Entry}
use Rattle.kern_model.specs.declared.journal.Who.TheVariants.{Request}
use Rattle.kern_model.specs.declared.operation.Op.TheVariants as op
use Rattle.sp_fork.specs.Jar.{Jar, cancellable, is_full, redeemable}
use Rattle.sp_fork.specs.declared.unused.CookieKind.TheVariants as kind
use Rattle.sp_fork.specs.declared.unused.Unused.{Unused}
use Rattle.kern_model.specs.declared.outcome.OutPiece.{OutPiece}
use Rattle.kern_model.specs.declared.outcome.Outcome.{Outcome}
use Rattle.hub_model.specs.Ends.{draining, gone, close, end_by, end_at}
use Rattle.hub_model.specs.Cookies.{next_cookie}
use Rattle.hub_model.specs.Frames.{hello, joined, imaged, forked, cancelled, exec_ready, ask, puts_from, told, answered_kind, refusal, last_error}
use Rattle.hub_model.specs.Journal.{nothing_read}
use Rattle.hub_model.specs.Machine.{played_running}
use Rattle.hub_model.specs.Requests.{no_process, attach, join, left_at, image_by, image, fork_by, fork, ready, cancel, refuse, go_on, bytes_in, with_copy, with_error, frame_by, frame_at}
use Rattle.hub_model.specs.State.{Connection, Machine, Played, with_connection, process_in, is_live, is_fresh, is_draining}
use Rattle.hub_model.specs.Verdict.{is_other_count, is_later_call, call_verdict, guest_verdict, takeover_verdict, fork_verdict, ready_verdict, cancel_verdict, request_verdict, copy_by_error, need_verdict, copy_verdict, error_in, body_verdict, verdict_of}
use Rattle.hub_model.specs.Work.{calls_after, performed}
use Rattle.hub_model.specs.declared.event.Event.TheVariants as event
use Rattle.hub_model.specs.declared.event.Finish.{Finish}
use Rattle.hub_model.specs.declared.event.Finish.TheVariants as finish
use Rattle.hub_model.specs.declared.event.Reply.TheVariants as reply
use Rattle.hub_model.specs.declared.state.Condition.{Condition}
use Rattle.hub_model.specs.declared.state.Condition.TheVariants as condition
use Rattle.hub_model.specs.declared.state.OpenCall.{OpenCall}
use Rattle.hub_model.specs.declared.state.OpenCall.TheVariants.{Gathers, Fails, Answers}
use Rattle.hub_model.specs.declared.state.TheConstants.{OPEN_CALLS}
use Rattle.hub_model.specs.declared.verdict.Verdict.{Verdict}
use Rattle.hub_model.specs.declared.verdict.Verdict.TheVariants as verdict
use Rattle.tables.proofs.Maps.{get_put, get_gone}
use Rattle.sp_server.specs.Serving.{Server, server_of, after, has_memory, refused_behind, after_work, is_out, worked, performs, AreRounds, HandsOut, refused_in, refusals}
use Rattle.sp_server.proofs.Refusing.{keeps_refused}
use Rattle.sp_server.proofs.Shrinking.{queue_in, queue_of, take_view}
use Rattle.sp_server.proofs.Works.{Performs, Stays, work_view}

-- ---- frames and queues

pub refusals-append : (xs ys : List Frame) → refusals (xs ++ ys) ≡ refusals xs ++ refusals ys
refusals-append xs ys = flat_map-append (λ (f : Frame). refused_in f.number f.body) xs ys

-- frames that refuse no call for memory, behind others
adds_nothing : (queue more : List Frame) → refusals more ≡ [] → refusals (queue ++ more) ≡ refusals queue
adds_nothing queue more none = refusals-append queue more ∙ ap (λ (l : List ReqNo). refusals queue ++ l) none ∙ append-nil (refusals queue)

-- the calls that the queued frames of a connection refuse for memory
abbrev pub queued_refusals : Machine → ConnNo → List ReqNo
queued_refusals m c = refusals (queue_of m c)

-- an event leaves the queued refusals as they were, and doesn't halt the server
pub record IsStill (m m' : Machine) (c : ConnNo) : Type 0 where
  pub halted : m'.halted ≡ m.halted
  pub told : queued_refusals m' c ≡ queued_refusals m c

still : (m : Machine) (c : ConnNo) → IsStill m m c
still m c = record { halted = refl; told = refl }

-- the connection changes, whatever else does
queues_in : (m n : Machine) (c : ConnNo) (x x' : Connection) → n.halted ≡ m.halted → get m.connections c.0 ≡ Some x → refusals x'.queue ≡ refusals x.queue → IsStill m (with_connection n c x') c
queues_in m n c x x' halted here same = record {
  halted = halted;
  told = ap (λ (o : Option Connection). refusals (queue_in o)) (get_put n.connections c.0 x') ∙ same ∙ sym (ap (λ (o : Option Connection). refusals (queue_in o)) here);
}

queues : (m : Machine) (journal : List Entry) (c : ConnNo) (x x' : Connection) → get m.connections c.0 ≡ Some x → refusals x'.queue ≡ refusals x.queue → IsStill m (with_connection (record m { journal = journal }) c x') c
queues m journal c x x' here same = queues_in m (record m { journal = journal }) c x x' refl here same

-- ---- a frame comes

-- a verdict refuses nothing for memory
abbrev Harmless : Verdict → Type 0
Harmless (verdict.Refused why) = (r : ReqNo) (kind : ℕ) → refused_in r (body.Refused kind why) ≡ []
Harmless _ = ⊤

test : (b : Bool) (u v : Verdict) → Harmless u → Harmless v → Harmless (cond b u v)
test true u v a b = a
test false u v a b = b

copy_harmless : (err : ℕ) → Harmless (copy_by_error err)
copy_harmless err = test (err == 0) verdict.Copy _ tt (test (err == 14) (verdict.CopyFault Efault) (verdict.CopyFault Enametoolong) tt tt)

need_harmless : (need : Option Need) (index : ℕ) (b : Body) → Harmless (need_verdict need index b)
need_harmless None index b = tt
need_harmless (Some need) index b = test _ (copy_by_error (error_in b)) verdict.Malformed (copy_harmless (error_in b)) tt

call_harmless : (task : Option OpenCall) (b : Body) → Harmless (copy_verdict task b)
call_harmless None b = tt
call_harmless (Some (Gathers call got true)) b = need_harmless (slice_get (needs_of call) (length got)) (length got) b
call_harmless (Some (Gathers call got false)) b = tt
call_harmless (Some (Fails call why)) b = tt
call_harmless (Some Answers) b = tt

sys_harmless : (x : Connection) (num : ℕ) (words : List ℕ) → Harmless (call_verdict x num words)
sys_harmless x num words =
    test (is_fresh x.condition) verdict.Malformed _ tt (test (is_other_count (wanted_words num) (length words)) verdict.Malformed _ tt
    (test (is_later_call num) verdict.Malformed _ tt (test (not (is_live x.condition)) (verdict.Refused error.InExec) _ (λ r kind. refl)
    (test (nat_le OPEN_CALLS (len x.calls)) (verdict.Refused error.TryAgain) (verdict.Task (call_of num words)) (λ r kind. refl) tt))))

guest_harmless : (s : State) (x : Connection) → Harmless (guest_verdict s x)
guest_harmless s x =
    test (not (is_fresh x.condition)) verdict.Malformed _ tt
    (test (is_none (lowest_unused s.processes FIRST_PROCESS)) (verdict.Refused error.ProcFull) verdict.Attach (λ r kind. refl) tt)

takeover_harmless : (x : Connection) (cookie : Option Unused) (v : Verdict) → Harmless v → Harmless (takeover_verdict x cookie v)
takeover_harmless x cookie v known = test (not (is_fresh x.condition)) verdict.Malformed _ tt (test (is_none cookie) (verdict.Refused error.BadCookie) v (λ r kind. refl) known)

fork_harmless : (s : State) (jar : Jar) (x : Connection) → Harmless (fork_verdict s jar x)
fork_harmless s jar x =
    test (is_fresh x.condition) verdict.Malformed _ tt (test (not (is_live x.condition)) (verdict.Refused error.InExec) _ (λ r kind. refl)
    (test (is_full jar) (verdict.Refused error.TryAgain) _ (λ r kind. refl)
    (test (is_none (lowest_unused s.processes FIRST_PROCESS)) (verdict.Refused error.ProcFull) verdict.Fork (λ r kind. refl) tt)))

ready_harmless : (jar : Jar) (x : Connection) → Harmless (ready_verdict jar x)
ready_harmless jar x =
    test (is_fresh x.condition) verdict.Malformed _ tt (test (not (is_live x.condition)) (verdict.Refused error.InExec) _ (λ r kind. refl)
    (test (not (len x.calls == 0) || is_full jar) (verdict.Refused error.TryAgain) verdict.Ready (λ r kind. refl) tt))

cancel_harmless : (x : Connection) (cookie : Option Unused) (v : Verdict) → Harmless v → Harmless (cancel_verdict x cookie v)
cancel_harmless x cookie v known = test (is_fresh x.condition) verdict.Malformed _ tt (test (is_none cookie) (verdict.Refused error.BadCookie) v (λ r kind. refl) known)

request_harmless : (x : Connection) (n : ℕ) (v : Verdict) → Harmless v → Harmless (request_verdict x n v)
request_harmless x n v known = test (nat_le n x.last) verdict.Malformed v tt known

body_harmless : (s : State) (jar : Jar) (c : ConnNo) (x : Connection) (n : ℕ) (b : Body) → Harmless (body_verdict s jar c x n b)
body_harmless s jar c x n (body.Guest name) = request_harmless x n _ (guest_harmless s x)
body_harmless s jar c x n (body.Join cookie name) = request_harmless x n _ (takeover_harmless x (redeemable jar cookie kind.Fork) (verdict.Join cookie) tt)
body_harmless s jar c x n (body.Image cookie name) = request_harmless x n _ (takeover_harmless x (redeemable jar cookie kind.Exec) (verdict.Image cookie) tt)
body_harmless s jar c x n (body.Sys num words) = request_harmless x n _ (sys_harmless x num words)
body_harmless s jar c x n body.Prefork = request_harmless x n _ (fork_harmless s jar x)
body_harmless s jar c x n (body.Cancel cookie) = request_harmless x n _ (cancel_harmless x (cancellable jar cookie c) (verdict.Cancel cookie) tt)
body_harmless s jar c x n body.Preexec = request_harmless x n _ (ready_harmless jar x)
body_harmless s jar c x n (body.GotBytes index err bytes) = call_harmless (get x.calls n) (body.GotBytes index err bytes)
body_harmless s jar c x n (body.GotText index err bytes) = call_harmless (get x.calls n) (body.GotText index err bytes)
body_harmless s jar c x n _ = tt

harmless : (s : State) (jar : Jar) (c : ConnNo) (x : Connection) (f : Frame) → Harmless (verdict_of s jar c x f)
harmless s jar c x f = test (is_draining x.condition) verdict.Closed _ tt (body_harmless s jar c x f.number.0 f.body)

last_kept : (r : ReqNo) (kind : Option ℕ) → refusals (last_error r kind ∷ []) ≡ []
last_kept r None = refl
last_kept r (Some kind) = refl

attach_still : (m : Machine) (c : ConnNo) (x : Connection) (f : Frame) (next : Option Entry) → get m.connections c.0 ≡ Some x → IsStill m (attach m c x f next).1 c
attach_still m c x f None here = still m c
attach_still m c x f (Some e) here = queues_in m _ c x _ refl here (adds_nothing x.queue (hello f.number e.outcome.ret0 ∷ []) refl)

join_still : (m : Machine) (c : ConnNo) (x : Connection) (f : Frame) (cookie : Cookie) (u : Option Unused) → get m.connections c.0 ≡ Some x → IsStill m (join m c x f cookie u).1 c
join_still m c x f cookie None here = still m c
join_still m c x f cookie (Some u) here = queues_in m _ c x _ refl here (adds_nothing x.queue (joined f.number u.pid ∷ []) refl)

left_running : (m : Machine) (c : ConnNo) (x : Option Connection) → (left_at m c x).halted ≡ m.halted
left_running m c None = refl
left_running m c (Some x) = refl

image_by_still : (m : Machine) (c : ConnNo) (x : Connection) (f : Frame) (cookie : Cookie) (u : Unused) (next : Option Entry) → get m.connections c.0 ≡ Some x → IsStill m (image_by m c x f cookie u next).1 c
image_by_still m c x f cookie u None here = still m c
image_by_still m c x f cookie u (Some e) here =
    queues_in m _ c x _ (left_running _ u.maker (get m.connections u.maker.0)) here (adds_nothing x.queue (imaged f.number u.pid (length m.journal) ∷ []) refl)

image_still : (m : Machine) (c : ConnNo) (x : Connection) (f : Frame) (cookie : Cookie) (u : Option Unused) → get m.connections c.0 ≡ Some x → IsStill m (image m c x f cookie u).1 c
image_still m c x f cookie None here = still m c
image_still m c x f cookie (Some u) here = image_by_still m c x f cookie u (next_entry m.journal u.pid (Request c f.number) op.Exec nothing_read) here

fork_by_still : (m : Machine) (c : ConnNo) (x : Connection) (f : Frame) (salt : ℕ) (next : Option Entry) → get m.connections c.0 ≡ Some x → IsStill m (fork_by m c x f salt next).1 c
fork_by_still m c x f salt None here = still m c
fork_by_still m c x f salt (Some e) here =
    queues_in m _ c x _ refl here (adds_nothing x.queue (forked f.number (next_cookie m.cookies salt) (length m.journal) (record { 0 = e.outcome.ret0 }) ∷ []) refl)

fork_still : (m : Machine) (c : ConnNo) (x : Connection) (f : Frame) (salt : ℕ) (process : Option Pid) → get m.connections c.0 ≡ Some x → IsStill m (fork m c x f salt process).1 c
fork_still m c x f salt None here = still m c
fork_still m c x f salt (Some pid) here = fork_by_still m c x f salt (next_entry m.journal pid (Request c f.number) op.Fork nothing_read) here

ready_still : (m : Machine) (c : ConnNo) (x : Connection) (f : Frame) (salt : ℕ) (process : Option Pid) → get m.connections c.0 ≡ Some x → IsStill m (ready m c x f salt process).1 c
ready_still m c x f salt None here = still m c
ready_still m c x f salt (Some pid) here = queues_in m _ c x _ refl here (adds_nothing x.queue (exec_ready f.number (next_cookie m.cookies salt) ∷ []) refl)

cancel_still : (m : Machine) (c : ConnNo) (x : Connection) (f : Frame) (cookie : Cookie) (u : Option Unused) → get m.connections c.0 ≡ Some x → IsStill m (cancel m c x f cookie u).1 c
cancel_still m c x f cookie None here = still m c
cancel_still m c x f cookie (Some u) here = queues_in m _ c x _ refl here (adds_nothing x.queue (cancelled f.number ∷ []) refl)

refuse_still : (m : Machine) (c : ConnNo) (x : Connection) (f : Frame) (why : SpError) (kind : Option ℕ) → get m.connections c.0 ≡ Some x → Harmless (verdict.Refused why) → IsStill m (refuse m c x f why kind).1 c
refuse_still m c x f why None here known = still m c
refuse_still m c x f why (Some kind) here known = queues m m.journal c x _ here (adds_nothing x.queue (refusal f.number kind why ∷ []) (ap (λ (l : List ReqNo). l ++ []) (known f.number kind)))

go_on_still : (m : Machine) (c : ConnNo) (x : Connection) (f : Frame) (next : OpenCall → OpenCall) (task : Option OpenCall) → get m.connections c.0 ≡ Some x → IsStill m (go_on m c x f next task).1 c
go_on_still m c x f next None here = still m c
go_on_still m c x f next (Some task) here = queues m m.journal c x _ here refl

-- a connection drains behind an error that refuses no call for memory
drain_still : (m : Machine) (c : ConnNo) (x : Connection) (f : Frame) → get m.connections c.0 ≡ Some x → refusals (f ∷ []) ≡ [] → IsStill m (with_connection (gone m c x) c (draining x f)) c
drain_still m c x f here kept = queues_in m (gone m c x) c x (draining x f) refl here (adds_nothing x.queue (f ∷ []) kept)

verdict_still : (v : Verdict) (m : Machine) (c : ConnNo) (x : Connection) (f : Frame) (salt : ℕ) → get m.connections c.0 ≡ Some x → Harmless v → IsStill m (frame_by v m c x f salt).1 c
verdict_still verdict.Closed m c x f salt here known = still m c
verdict_still verdict.Malformed m c x f salt here known = drain_still m c x (last_error f.number (answered_kind f.body)) here (last_kept f.number (answered_kind f.body))
verdict_still (verdict.Refused why) m c x f salt here known = refuse_still m c x f why (answered_kind f.body) here known
verdict_still verdict.Attach m c x f salt here known = attach_still m c x f (next_entry m.journal no_process (Request c f.number) op.Attach nothing_read) here
verdict_still (verdict.Join cookie) m c x f salt here known = join_still m c x f cookie (redeemable m.cookies cookie kind.Fork) here
verdict_still (verdict.Image cookie) m c x f salt here known = image_still m c x f cookie (redeemable m.cookies cookie kind.Exec) here
verdict_still verdict.Fork m c x f salt here known = fork_still m c x f salt (process_in x.condition) here
verdict_still verdict.Ready m c x f salt here known = ready_still m c x f salt (process_in x.condition) here
verdict_still (verdict.Cancel cookie) m c x f salt here known = cancel_still m c x f cookie (cancellable m.cookies cookie c) here
verdict_still (verdict.Task call) m c x f salt here known = queues m m.journal c x _ here refl
verdict_still verdict.Copy m c x f salt here known = go_on_still m c x f (λ task. with_copy task (bytes_in f.body)) (get x.calls f.number.0) here
verdict_still (verdict.CopyFault why) m c x f salt here known = go_on_still m c x f (λ task. with_error task why) (get x.calls f.number.0) here

frame_at_still : (m : Machine) (c : ConnNo) (f : Frame) (salt : ℕ) (x : Option Connection) → get m.connections c.0 ≡ x → IsStill m (frame_at m c f salt x).1 c
frame_at_still m c f salt None here = still m c
frame_at_still m c f salt (Some x) here =
    verdict_still (verdict_of (state_after m.journal) m.cookies c x f) m c x f salt here (harmless (state_after m.journal) m.cookies c x f)

by_halt : (m : Machine) (c : ConnNo) (p : Played) (halted : Bool) → IsStill m p.1 c → IsStill m (cond {A = Played} halted (reply.Closed, m) p).1 c
by_halt m c p true is = still m c
by_halt m c p false is = is

frame_still : (m : Machine) (c : ConnNo) (f : Frame) (salt : ℕ) → IsStill m (after m (event.Frame c f salt)) c
frame_still m c f salt = by_halt m c (played_running true m (event.Frame c f salt)) m.halted (frame_at_still m c f salt (get m.connections c.0) refl)

-- ---- work

puts_kept : (r : ReqNo) (index : ℕ) (pieces : List OutPiece) → refusals (puts_from r index pieces) ≡ []
puts_kept r index [] = refl
puts_kept r index (piece ∷ pieces) = puts_kept r (index + 1) pieces

told_kept : (r : ReqNo) (outcome : Outcome) (place : ℕ) → refusals (told r outcome place) ≡ []
told_kept r outcome place = adds_nothing (puts_from r 0 outcome.outs) _ refl ∙ puts_kept r 0 outcome.outs

ask_kept : (r : ReqNo) (index : ℕ) (need : Need) → refusals (ask r index need ∷ []) ≡ []
ask_kept r index (Bytes addr bytes_len) = refl
ask_kept r index (Text addr limit) = refl

-- the refusals that are queued, and those that are still to come, are the same after a step
pub record IsTold (s s' : Server) (c : ConnNo) : Type 0 where
  pub halted : s'.machine.halted ≡ s.machine.halted
  pub told : queued_refusals s'.machine c ++ s'.refused ≡ queued_refusals s.machine c ++ s.refused

same_told : (s : Server) (c : ConnNo) → IsTold s s c
same_told s c = record { halted = refl; told = refl }

told_then : (s t u : Server) (c : ConnNo) → IsTold s t c → IsTold t u c → IsTold s u c
told_then s t u c a b = record { halted = b.halted ∙ a.halted; told = b.told ∙ a.told }

still_told : (m m' : Machine) (refused later : List ReqNo) (c : ConnNo) → IsStill m m' c → later ≡ refused → IsTold (server_of m refused) (server_of m' later) c
still_told m m' refused later c is same = record {
  halted = is.halted;
  told = ap (λ (l : List ReqNo). l ++ later) is.told ∙ ap (λ (l : List ReqNo). queued_refusals m c ++ l) same;
}

-- the server after a call is worked, by what the machine played
abbrev behind : List ReqNo → Played → Server
behind refused p = server_of p.1 (refused_behind refused p.0)

-- without memory, a call is the next one to be refused
next_is : (r next : ReqNo) → not (next.0 == r.0) ≡ false → next ≡ r
next_is r next e = by_test (next.0 == r.0) refl e where
  by_test : (b : Bool) → (next.0 == r.0) ≡ b → not b ≡ false → next ≡ r
  by_test true is lacks = let number : next.0 ≡ r.0 = eqb-true next.0 r.0 is in ap (λ (n : ℕ). let no : ReqNo = record { 0 = n } in no) number
  by_test false is lacks = absurd cc

performed_told : (memory : Bool) (refused : List ReqNo) (m : Machine) (c : ConnNo) (r : ReqNo) (p : Performs m c r) → has_memory refused r ≡ memory
    → IsTold (server_of m refused) (behind refused (performed memory m c p.x r (Some p.entry))) c
performed_told true refused m c r p has =
    still_told m _ refused _ c (queues m (m.journal ++ p.entry ∷ []) c p.x _ p.here (adds_nothing p.x.queue (told r p.entry.outcome (length m.journal)) (told_kept r p.entry.outcome (length m.journal))))
    (keeps_refused refused reply.Done refl)
performed_told false [] m c r p has = absurd cc
performed_told false (next ∷ later) m c r p has =
    let x' = record p.x { calls = insert p.x.calls r.0 Answers; queue = p.x.queue ++ refusal r 1 error.Memory ∷ [] } in
    let queue : queue_of (performed false m c p.x r (Some p.entry)).1 c ≡ p.x.queue ++ refusal r 1 error.Memory ∷ [] = ap queue_in (get_put m.connections c.0 x') in
    let before : queue_of m c ≡ p.x.queue = ap queue_in p.here in
    let now : queued_refusals (performed false m c p.x r (Some p.entry)).1 c ≡ queued_refusals m c ++ r ∷ [] =
    ap refusals queue ∙ refusals-append p.x.queue (refusal r 1 error.Memory ∷ []) ∙ ap (λ (l : List Frame). refusals l ++ r ∷ []) (sym before) in
    record {
      halted = refl;
      told = ap (λ (l : List ReqNo). l ++ later) now ∙ append_assoc (queued_refusals m c) (r ∷ []) later
          ∙ ap (λ (n : ReqNo). queued_refusals m c ++ n ∷ later) (sym (next_is r next has));
    }

stays_still : (m : Machine) (c : ConnNo) (r : ReqNo) (s : Stays m c r) → IsStill m s.last c
stays_still m c r s = elim s.same [
  | inl same ↦ subst (λ (n : Machine). IsStill m n c) (sym same) (still m c)
  | inr a ↦ subst (λ (n : Machine). IsStill m n c) (sym a.is) (queues m m.journal c a.x _ a.here (adds_nothing a.x.queue (ask r (length a.got) a.need ∷ []) (ask_kept r (length a.got) a.need)))
]

work_told : (s : Server) (c : ConnNo) (r : ReqNo) → IsTold s (after_work s c r) c
work_told s c r =
    let memory = has_memory s.refused r in
    elim (work_view s.machine c r) [
      | inl p ↦ subst (λ (q : Played). IsTold s (behind s.refused q) c) (sym (p.does memory)) (performed_told memory s.refused s.machine c r p refl)
      | inr t ↦ subst (λ (q : Played). IsTold s (behind s.refused q) c) (sym (t.does memory))
          (still_told s.machine t.last s.refused _ c (stays_still s.machine c r t) (keeps_refused s.refused t.answer t.kept))
    ]

worked_told : (s : Server) (c : ConnNo) (numbers : List ReqNo) → IsTold s (worked s c numbers) c
worked_told s c [] = same_told s c
worked_told s c (r ∷ numbers) = told_then s (after_work s c r) (worked s c (r ∷ numbers)) c (work_told s c r) (worked_told (after_work s c r) c numbers)

rounds_told : (s : Server) (c : ConnNo) (again : Bool) (rounds : List (List ReqNo)) (s' : Server) → AreRounds s c again rounds s' → IsTold s s' c
rounds_told s c again [] s' is = subst (λ (t : Server). IsTold s t c) (sym is.1) (same_told s c)
rounds_told s c again (numbers ∷ rounds) s' is =
    told_then s (worked s c numbers) s' c (worked_told s c numbers) (rounds_told (worked s c numbers) c (performs s c numbers) rounds s' is.2)

-- ---- handing out

-- all queued refusals are handed out
pub record Empties (m : Machine) (c : ConnNo) (frames : List Frame) (m' : Machine) : Type 0 where
  pub told : queued_refusals m c ≡ refusals frames
  pub running : m'.halted ≡ false
  pub none : queued_refusals m' c ≡ []

out_is : (f g : Frame) → reply.Out f ≡ reply.Out g → f ≡ g
out_is f g e = cc

pub hands_empty : (m : Machine) (c : ConnNo) (frames : List Frame) (m' : Machine) → HandsOut m c frames m' → m.halted ≡ false → Empties m c frames m'
hands_empty m c [] m' is running = elim (take_view m c) [
  | inl t ↦ (let no : false ≡ true = sym is.0 ∙ ap (λ (p : Played). is_out p.0) t.does in absurd cc)
  | inr n ↦ (
      let same : m' ≡ m = is.1 ∙ ap (λ (p : Played). p.1) n.does in
      elim n.empty [
        | inl halts ↦ (let no : false ≡ true = sym running ∙ halts in absurd cc)
        | inr none ↦ (record { told = ap refusals none; running = ap (λ (n : Machine). n.halted) same ∙ running; none = ap (λ (n : Machine). queued_refusals n c) same ∙ ap refusals none })
      ]
      )
]
hands_empty m c (f ∷ frames) m' is running = elim (take_view m c) [
  | inl t ↦ (
      let x' = record t.x { calls = calls_after t.x.calls t.frame; queue = t.queue } in
      let now : queue_of (after m (event.Take c)) c ≡ t.queue = ap (λ (p : Played). queue_of p.1 c) t.does ∙ ap queue_in (get_put m.connections c.0 x') in
      let was : queue_of m c ≡ t.frame ∷ t.queue = ap queue_in t.here ∙ t.there in
      let same : t.frame ≡ f = out_is t.frame f (sym (ap (λ (p : Played). p.0) t.does) ∙ is.0) in
      let rest = hands_empty (after m (event.Take c)) c frames m' is.1 (ap (λ (p : Played). p.1.halted) t.does ∙ running) in
      record {
        told = ap refusals was ∙ ap (λ (g : Frame). refused_in g.number g.body ++ refusals t.queue) same
            ∙ ap (λ (l : List ReqNo). refused_in f.number f.body ++ l) (sym (ap refusals now) ∙ rest.told);
        running = rest.running;
        none = rest.none;
      }
      )
  | inr n ↦ (let no : true ≡ false = sym (ap is_out is.0) ∙ ap (λ (p : Played). is_out p.0) n.does ∙ n.not_out in absurd cc)
]

-- ---- the end of the input

-- the queued refusals are none after an event
abbrev pub IsBare : Machine → ConnNo → Type 0
IsBare m c = (m.halted ≡ false) × (queued_refusals m c ≡ [])

close_bare : (m : Machine) (c : ConnNo) (x : Connection) → m.halted ≡ false → IsBare (close m c x).1 c
close_bare m c x running = (running, ap (λ (o : Option Connection). refusals (queue_in o)) (get_gone m.connections c.0))

bad_bare : (m : Machine) (c : ConnNo) (x : Connection) (f : Frame) → get m.connections c.0 ≡ Some x → IsBare m c → refusals (f ∷ []) ≡ [] → IsBare (with_connection (gone m c x) c (draining x f)) c
bad_bare m c x f here bare kept =
    let is = drain_still m c x f here kept in
    (is.halted ∙ bare.0, is.told ∙ bare.1)

live_bare : (m : Machine) (c : ConnNo) (x : Connection) (pid : _) (how : Finish) → get m.connections c.0 ≡ Some x → IsBare m c → IsBare (end_by m c x (condition.Live pid) how).1 c
live_bare m c x pid finish.Clean here bare = close_bare m c x bare.0
live_bare m c x pid finish.Inside here bare = close_bare m c x bare.0
live_bare m c x pid (finish.Bad fault) here bare = bad_bare m c x (last_error (record { 0 = 0 }) None) here bare refl

end_by_bare : (m : Machine) (c : ConnNo) (x : Connection) (s : Condition) (how : Finish) → get m.connections c.0 ≡ Some x → IsBare m c → IsBare (end_by m c x s how).1 c
end_by_bare m c x condition.Fresh how here bare = close_bare m c x bare.0
end_by_bare m c x (condition.Live pid) how here bare = live_bare m c x pid how here bare
end_by_bare m c x (condition.InExec pid) how here bare = close_bare m c x bare.0
end_by_bare m c x condition.Left how here bare = close_bare m c x bare.0
end_by_bare m c x condition.Draining how here bare = close_bare m c x bare.0

end_at_bare : (m : Machine) (c : ConnNo) (how : Finish) (x : Option Connection) → get m.connections c.0 ≡ x → IsBare m c → IsBare (end_at m c how x).1 c
end_at_bare m c how None here bare = bare
end_at_bare m c how (Some x) here bare = end_by_bare m c x x.condition how here bare

halt_bare : (m : Machine) (c : ConnNo) (p : Played) (halted : Bool) → IsBare m c → IsBare p.1 c → IsBare (cond {A = Played} halted (reply.Closed, m) p).1 c
halt_bare m c p true bare is = bare
halt_bare m c p false bare is = is

-- the end of the input queues no refusal
pub end_bare : (m : Machine) (c : ConnNo) (how : Finish) → IsBare m c → IsBare (after m (event.Ended c how)) c
end_bare m c how bare = halt_bare m c (played_running true m (event.Ended c how)) m.halted bare (end_at_bare m c how (get m.connections c.0) refl bare)

-- ---- a frame, and what is handed out for it

-- the calls that are refused while a frame is answered are told by what is handed out, and none is queued then
pub answer_tells : (s : Server) (c : ConnNo) (f : Frame) (salt : ℕ) (rounds : List (List ReqNo)) (w : Server) (frames : List Frame) (m' : Machine)
    → AreRounds (server_of (after s.machine (event.Frame c f salt)) s.refused) c true rounds w → HandsOut w.machine c frames m' → IsBare s.machine c
    → (refusals frames ++ w.refused ≡ s.refused) × IsBare m' c
answer_tells s c f salt rounds w frames m' works hands bare =
    let came = after s.machine (event.Frame c f salt) in
    let frame = frame_still s.machine c f salt in
    let done = rounds_told (server_of came s.refused) c true rounds w works in
    let out = hands_empty w.machine c frames m' hands (done.halted ∙ frame.halted ∙ bare.0) in
    let told : refusals frames ++ w.refused ≡ s.refused =
    ap (λ (l : List ReqNo). l ++ w.refused) (sym out.told) ∙ done.told ∙ ap (λ (l : List ReqNo). l ++ s.refused) (frame.told ∙ bare.1) in
    (told, (out.running, out.none))
