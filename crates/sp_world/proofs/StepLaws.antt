-- Each call that is open at the server is one that its kernel performs by now.
use Rattle.std.specs.Prelude.{◌&&◌, ◌||◌, not, nat_le, ◌==◌, IsTrue, is_none, slice_get}
use Rattle.std.specs.Ordering.{nat_cmp}
use Rattle.std.specs.FinMap.{FinMap, empty, get, get-empty, insert, len, remove}
use Rattle.std.proofs.Common.{◌≡◌, inl, inr, ℕ, zero, suc, ◌+◌, ◌-◌, Bool, true, false, cond, List, [], ◌∷◌, length, get_or, Option, Some, None, refl, sym, subst, ◌∙◌, arith, rules}
use Rattle.tables.proofs.Maps.{after_change, gone_changes, put_changes}
use Rattle.sp_base.specs.Call.{builders, built_call, call_of, wanted_words}
use Rattle.sp_base.specs.Needs.{needs_of}
use Rattle.sp_base.specs.declared.call.Call.{Call}
use Rattle.sp_base.specs.declared.call.Call.TheVariants.{Getpid}
use Rattle.sp_base.specs.declared.errno.Errno.{Errno}
use Rattle.sp_base.specs.declared.errno.Errno.TheVariants.{Efault, Enametoolong}
use Rattle.sp_base.specs.declared.limits.TheConstants.{FIRST_PROCESS}
use Rattle.sp_base.specs.declared.names.ConnNo.{ConnNo}
use Rattle.sp_base.specs.declared.names.Cookie.{Cookie}
use Rattle.sp_base.specs.declared.names.Pid.{Pid}
use Rattle.sp_base.specs.declared.names.ReqNo.{ReqNo}
use Rattle.sp_base.specs.declared.names.SpError.{SpError}
use Rattle.sp_base.specs.declared.names.SpError.TheVariants.{TryAgain, BadCookie, ProcFull, InExec}
use Rattle.sp_base.specs.declared.need.Need.{Need}
use Rattle.sp_base.specs.Table.{lowest_unused}
use Rattle.sp_frames.specs.declared.frame.Body.{Body}
use Rattle.sp_frames.specs.declared.frame.Body.TheVariants as body
use Rattle.sp_frames.specs.declared.frame.Frame.{Frame}
use Rattle.sp_frames.specs.declared.version.Version.{Version}
use Rattle.sp_frames.specs.declared.version.Version.TheVariants.{Four}
use Rattle.kern_model.specs.Act.{has_step}
use Rattle.kern_model.specs.Journal.{next_entry, state_after}
use Rattle.kern_model.specs.State.{State}
use Rattle.kern_model.specs.declared.journal.Entry.{Entry}
use Rattle.kern_model.specs.declared.journal.Who.TheVariants.{Request}
use Rattle.kern_model.specs.declared.operation.Ins.{Ins}
use Rattle.kern_model.specs.declared.operation.Ins.TheVariants.{Given, Fault}
use Rattle.kern_model.specs.declared.operation.Op.TheVariants as op
use Rattle.sp_fork.specs.Jar.{Jar, cancellable, is_full, redeemable}
use Rattle.sp_fork.specs.declared.unused.CookieKind.TheVariants as kind
use Rattle.sp_fork.specs.declared.unused.Unused.{Unused}
use Rattle.hub_model.specs.Frames.{answered_kind, is_end}
use Rattle.hub_model.specs.Journal.{nothing_read}
use Rattle.hub_model.specs.Requests.{attach, bytes_in, cancel, fork, fork_by, frame_by, go_on, image, image_by, join, left_at, no_process, ready, refuse, with_copy, with_error}
use Rattle.hub_model.specs.State.{Connection, Machine, fresh_connection, fresh_machine, is_draining, is_fresh, is_live, process_in}
use Rattle.hub_model.specs.Verdict.{body_verdict, call_verdict, cancel_verdict, copy_by_error, copy_verdict, error_in, fork_verdict, guest_verdict, index_in, is_copy_of, is_index, is_later_call, is_other_count, need_verdict, ready_verdict, request_verdict, takeover_verdict, verdict_of}
use Rattle.hub_model.specs.Work.{perform, performed}
use Rattle.hub_model.specs.declared.event.Event.{Event as ServerEvent}
use Rattle.hub_model.specs.declared.event.Reply.{Reply as ServerReply}
use Rattle.hub_model.specs.declared.state.OpenCall.{OpenCall}
use Rattle.hub_model.specs.declared.state.OpenCall.TheVariants.{Gathers, Fails, Answers}
use Rattle.hub_model.specs.declared.state.TheConstants.{OPEN_CALLS}
use Rattle.hub_model.specs.declared.verdict.Verdict.{Verdict}
use Rattle.hub_model.specs.declared.verdict.Verdict.TheVariants as verdict
use Rattle.hub_model.specs.Machine.{Plays}
use Rattle.hub_model.proofs.Events.{Leads, plays_leads, runs_keep}
use Rattle.world_model.specs.Run.{Move, fresh_history, run}
use Rattle.world_model.specs.State.{World}
use Rattle.world_model.proofs.Served.{served}
use Rattle.sp_world.specs.Steps.{AllValues, HasStep, HasSteps, HaveSteps}
use Rattle.sp_world.specs.Told.{IsRun, Told, moves_of}

-- ---- maps

none_so : {X : Type 0} (P : X → Type 0) → AllValues P empty
none_so {X} P k x there = absurd (let e : None ≡ Some x = sym (get-empty nat_cmp k) ∙ there in cc)

put_so : {X : Type 0} (P : X → Type 0) (m : FinMap nat_cmp X) (k : ℕ) (x : X) → AllValues P m → P x → AllValues P (insert m k x)
put_so P m k x all so q y there =
    elim (after_change m (insert m k x) k q y (Some x) (put_changes m k x) there) [
      | inl here ↦ (let e = here.1 in let same : x ≡ y = cc in subst P same so)
      | inr other ↦ all q y other.1
    ]

gone_so : {X : Type 0} (P : X → Type 0) (m : FinMap nat_cmp X) (k : ℕ) → AllValues P m → AllValues P (remove m k)
gone_so P m k all q y there =
    elim (after_change m (remove m k) k q y None (gone_changes m k) there) [
      | inl here ↦ absurd (let e = here.1 in cc)
      | inr other ↦ all q y other.1
    ]

-- ---- calls that the server takes

-- each of these, counted from a number on, makes a call with a step, where its number isn't that of a later call
abbrev AllFrom : ℕ → List (List ℕ → Call) → Type 0
AllFrom i [] = Unit {0}
AllFrom i (build ∷ builds) = ((words : List ℕ) → is_later_call (suc i) ≡ false → IsTrue (has_step (build words))) × AllFrom (suc i) builds

built_steps : (builds : List (List ℕ → Call)) (i k n : ℕ) (words : List ℕ) → AllFrom i builds → n ≡ i + k → is_later_call (suc n) ≡ false
    → IsTrue (has_step (get_or builds k (λ ws. Getpid) words))
built_steps [] i k n words all is now = refl
built_steps (build ∷ builds) i zero n words all is now =
    all.0 words (let same : n ≡ i = omega arith in subst (λ m. is_later_call (suc m) ≡ false) same now)
built_steps (build ∷ builds) i (suc k) n words all is now = built_steps builds (suc i) k n words all.1 (omega arith) now

all_build : AllFrom 0 builders
all_build = search rules

call_steps : (want : Option ℕ) (n : ℕ) (words : List ℕ) → is_later_call (suc n) ≡ false → IsTrue (has_step (built_call want (suc n) words))
call_steps None n words now = refl
call_steps (Some want) n words now = built_steps builders 0 (suc n - 1) n words all_build (omega arith) now

-- a call that the server takes by now has a step
taken_steps : (num : ℕ) (words : List ℕ) → is_later_call num ≡ false → IsTrue (has_step (call_of num words))
taken_steps zero words now = refl
taken_steps (suc n) words now = call_steps (wanted_words (suc n)) n words now

-- the call of a verdict has a step
abbrev Steps : Verdict → Type 0
Steps (verdict.Task call) = IsTrue (has_step call)
Steps _ = Unit {0}

by_test : (b : Bool) (u v : Verdict) → Steps u → (b ≡ false → Steps v) → Steps (cond b u v)
by_test true u v passes fails = passes
by_test false u v passes fails = fails refl

numbered : (x : Connection) (n : ℕ) (v : Verdict) → Steps v → Steps (request_verdict x n v)
numbered x n v steps = by_test (nat_le n x.last) verdict.Malformed v tt (λ e. steps)

call_verdict_steps : (x : Connection) (num : ℕ) (words : List ℕ) → Steps (call_verdict x num words)
call_verdict_steps x num words =
    by_test (is_fresh x.condition) verdict.Malformed _ tt (λ a.
    by_test (is_other_count (wanted_words num) (length words)) verdict.Malformed _ tt (λ b.
    by_test (is_later_call num) verdict.Malformed _ tt (λ now.
    by_test (not (is_live x.condition)) (verdict.Refused InExec) _ tt (λ d.
    by_test (nat_le OPEN_CALLS (len x.calls)) (verdict.Refused TryAgain) (verdict.Task (call_of num words)) tt (λ e. taken_steps num words now)))))

guest_steps : (s : State) (x : Connection) → Steps (guest_verdict s x)
guest_steps s x =
    by_test (not (is_fresh x.condition)) verdict.Malformed _ tt (λ a.
    by_test (is_none (lowest_unused s.processes FIRST_PROCESS)) (verdict.Refused ProcFull) verdict.Attach tt (λ b. tt))

takeover_steps : (x : Connection) (cookie : Option Unused) (v : Verdict) → Steps v → Steps (takeover_verdict x cookie v)
takeover_steps x cookie v steps =
    by_test (not (is_fresh x.condition)) verdict.Malformed _ tt (λ a. by_test (is_none cookie) (verdict.Refused BadCookie) v tt (λ b. steps))

fork_steps : (s : State) (jar : Jar) (x : Connection) → Steps (fork_verdict s jar x)
fork_steps s jar x =
    by_test (is_fresh x.condition) verdict.Malformed _ tt (λ a.
    by_test (not (is_live x.condition)) (verdict.Refused InExec) _ tt (λ b.
    by_test (is_full jar) (verdict.Refused TryAgain) _ tt (λ d.
    by_test (is_none (lowest_unused s.processes FIRST_PROCESS)) (verdict.Refused ProcFull) verdict.Fork tt (λ e. tt))))

ready_steps : (jar : Jar) (x : Connection) → Steps (ready_verdict jar x)
ready_steps jar x =
    by_test (is_fresh x.condition) verdict.Malformed _ tt (λ a.
    by_test (not (is_live x.condition)) (verdict.Refused InExec) _ tt (λ b.
    by_test (not (len x.calls == 0) || is_full jar) (verdict.Refused TryAgain) verdict.Ready tt (λ d. tt)))

cancel_steps : (x : Connection) (cookie : Option Unused) (v : Verdict) → Steps v → Steps (cancel_verdict x cookie v)
cancel_steps x cookie v steps =
    by_test (is_fresh x.condition) verdict.Malformed _ tt (λ a. by_test (is_none cookie) (verdict.Refused BadCookie) v tt (λ b. steps))

error_steps : (err : ℕ) → Steps (copy_by_error err)
error_steps err =
    by_test (err == 0) verdict.Copy _ tt (λ a. by_test (err == 14) (verdict.CopyFault Efault) (verdict.CopyFault Enametoolong) tt (λ b. tt))

swapped : (b : Bool) (u v : Verdict) → Steps u → Steps v → Steps (cond b u v)
swapped true u v first last = first
swapped false u v first last = last

need_steps : (need : Option Need) (index : ℕ) (b : Body) → Steps (need_verdict need index b)
need_steps None index b = tt
need_steps (Some need) index b =
    swapped (is_index (index_in b) index && is_copy_of need b) (copy_by_error (error_in b)) verdict.Malformed (error_steps (error_in b)) tt

copy_steps : (task : Option OpenCall) (b : Body) → Steps (copy_verdict task b)
copy_steps (Some (Gathers call got true)) b = need_steps (slice_get (needs_of call) (length got)) (length got) b
copy_steps (Some (Gathers call got false)) b = tt
copy_steps (Some (Fails call why)) b = tt
copy_steps (Some Answers) b = tt
copy_steps None b = tt

body_steps : (s : State) (jar : Jar) (c : ConnNo) (x : Connection) (n : ℕ) (b : Body) → Steps (body_verdict s jar c x n b)
body_steps s jar c x n (body.Guest name) = numbered x n _ (guest_steps s x)
body_steps s jar c x n (body.Join cookie name) = numbered x n _ (takeover_steps x (redeemable jar cookie kind.Fork) (verdict.Join cookie) tt)
body_steps s jar c x n (body.Image cookie name) = numbered x n _ (takeover_steps x (redeemable jar cookie kind.Exec) (verdict.Image cookie) tt)
body_steps s jar c x n (body.Sys num words) = numbered x n _ (call_verdict_steps x num words)
body_steps s jar c x n body.Prefork = numbered x n _ (fork_steps s jar x)
body_steps s jar c x n (body.Cancel cookie) = numbered x n _ (cancel_steps x (cancellable jar cookie c) (verdict.Cancel cookie) tt)
body_steps s jar c x n body.Preexec = numbered x n _ (ready_steps jar x)
body_steps s jar c x n (body.GotBytes index err bytes) = copy_steps (get x.calls n) (body.GotBytes index err bytes)
body_steps s jar c x n (body.GotText index err bytes) = copy_steps (get x.calls n) (body.GotText index err bytes)
body_steps s jar c x n _ = tt

verdict_steps : (s : State) (jar : Jar) (c : ConnNo) (x : Connection) (f : Frame) (v : Verdict) → verdict_of s jar c x f ≡ v → Steps v
verdict_steps s jar c x f v is =
    subst Steps is (by_test (is_draining x.condition) verdict.Closed _ tt (λ takes. body_steps s jar c x f.number.0 f.body))

-- ---- events

module _ (m : Machine) (all : HaveSteps m) where
  module _ (c : ConnNo) (x : Connection) (f : Frame) (here : get m.connections c.0 ≡ Some x) where
    own : HasSteps x
    own = all c.0 x here

    refuse_steps : (why : SpError) (type : Option ℕ) → HaveSteps (refuse m c x f why type).1
    refuse_steps why None = all
    refuse_steps why (Some type) = put_so HasSteps m.connections c.0 _ all own

    attach_steps : (e : Option Entry) → HaveSteps (attach m c x f e).1
    attach_steps None = all
    attach_steps (Some e) = put_so HasSteps m.connections c.0 _ all own

    join_steps : (cookie : Cookie) (u : Option Unused) → HaveSteps (join m c x f cookie u).1
    join_steps cookie None = all
    join_steps cookie (Some u) = put_so HasSteps m.connections c.0 _ all own

    left_steps : (n : Machine) (d : ConnNo) (y : Option Connection) → n.connections ≡ m.connections → get m.connections d.0 ≡ y → HaveSteps (left_at n d y)
    left_steps n d None same there = subst (λ (cs : FinMap nat_cmp Connection). AllValues HasSteps cs) (sym same) all
    left_steps n d (Some y) same there =
        put_so HasSteps n.connections d.0 _ (subst (λ (cs : FinMap nat_cmp Connection). AllValues HasSteps cs) (sym same) all) (all d.0 y there)

    image_steps : (cookie : Cookie) (u : Unused) (e : Option Entry) → HaveSteps (image_by m c x f cookie u e).1
    image_steps cookie u None = all
    image_steps cookie u (Some e) = put_so HasSteps _ c.0 _ (left_steps _ u.maker (get m.connections u.maker.0) refl refl) own

    images_steps : (cookie : Cookie) (u : Option Unused) → HaveSteps (image m c x f cookie u).1
    images_steps cookie None = all
    images_steps cookie (Some u) = image_steps cookie u (next_entry m.journal u.pid (Request c f.number) op.Exec nothing_read)

    forked_steps : (salt : ℕ) (e : Option Entry) → HaveSteps (fork_by m c x f salt e).1
    forked_steps salt None = all
    forked_steps salt (Some e) = put_so HasSteps m.connections c.0 _ all own

    forks_steps : (salt : ℕ) (pid : Option Pid) → HaveSteps (fork m c x f salt pid).1
    forks_steps salt None = all
    forks_steps salt (Some pid) = forked_steps salt (next_entry m.journal pid (Request c f.number) op.Fork nothing_read)

    readies_steps : (salt : ℕ) (pid : Option Pid) → HaveSteps (ready m c x f salt pid).1
    readies_steps salt None = all
    readies_steps salt (Some pid) = put_so HasSteps m.connections c.0 _ all own

    cancels_steps : (cookie : Cookie) (u : Option Unused) → HaveSteps (cancel m c x f cookie u).1
    cancels_steps cookie None = all
    cancels_steps cookie (Some u) = put_so HasSteps m.connections c.0 _ all own

    goes_steps : (next : OpenCall → OpenCall) → ((task : OpenCall) → HasStep task → HasStep (next task)) → (task : Option OpenCall) → get x.calls f.number.0 ≡ task
        → HaveSteps (go_on m c x f next task).1
    goes_steps next keeps None there = all
    goes_steps next keeps (Some task) there =
        put_so HasSteps m.connections c.0 _ all (put_so HasStep x.calls f.number.0 (next task) own (keeps task (own f.number.0 task there)))

    copy_keeps : (bytes : List ℕ) (task : OpenCall) → HasStep task → HasStep (with_copy task bytes)
    copy_keeps bytes (Gathers call got asked) has = has
    copy_keeps bytes (Fails call why) has = has
    copy_keeps bytes Answers has = has

    error_keeps : (why : Errno) (task : OpenCall) → HasStep task → HasStep (with_error task why)
    error_keeps why (Gathers call got asked) has = tt
    error_keeps why (Fails call error) has = has
    error_keeps why Answers has = has

    framed_steps : (v : Verdict) (salt : ℕ) → Steps v → HaveSteps (frame_by v m c x f salt).1
    framed_steps verdict.Closed salt steps = all
    framed_steps verdict.Malformed salt steps = put_so HasSteps m.connections c.0 _ all (none_so HasStep)
    framed_steps (verdict.Refused why) salt steps = refuse_steps why (answered_kind f.body)
    framed_steps verdict.Attach salt steps = attach_steps (next_entry m.journal no_process (Request c f.number) op.Attach nothing_read)
    framed_steps (verdict.Join cookie) salt steps = join_steps cookie (redeemable m.cookies cookie kind.Fork)
    framed_steps (verdict.Image cookie) salt steps = images_steps cookie (redeemable m.cookies cookie kind.Exec)
    framed_steps verdict.Fork salt steps = forks_steps salt (process_in x.condition)
    framed_steps verdict.Ready salt steps = readies_steps salt (process_in x.condition)
    framed_steps (verdict.Cancel cookie) salt steps = cancels_steps cookie (cancellable m.cookies cookie c)
    framed_steps (verdict.Task call) salt steps =
        put_so HasSteps m.connections c.0 _ all (put_so HasStep x.calls f.number.0 (Gathers call [] false) own steps)
    framed_steps verdict.Copy salt steps = goes_steps (λ task. with_copy task (bytes_in f.body)) (copy_keeps (bytes_in f.body)) (get x.calls f.number.0) refl
    framed_steps (verdict.CopyFault why) salt steps = goes_steps (λ task. with_error task why) (error_keeps why) (get x.calls f.number.0) refl

  -- ---- work

  performed_steps : (memory : Bool) (c : ConnNo) (x : Connection) (r : ReqNo) (e : Option Entry) → HasSteps x → HaveSteps (performed memory m c x r e).1
  performed_steps true c x r None has = all
  performed_steps false c x r None has = all
  performed_steps true c x r (Some e) has = put_so HasSteps m.connections c.0 _ all (put_so HasStep x.calls r.0 Answers has tt)
  performed_steps false c x r (Some e) has = put_so HasSteps m.connections c.0 _ all (put_so HasStep x.calls r.0 Answers has tt)

  perform_steps : (memory : Bool) (c : ConnNo) (x : Connection) (r : ReqNo) (call : Call) (i : Ins) (pid : Option Pid) → HasSteps x
      → HaveSteps (perform memory m c x r call i pid).1
  perform_steps memory c x r call i None has = all
  perform_steps memory c x r call i (Some pid) has = performed_steps memory c x r (next_entry m.journal pid (Request c r) (op.Sys call) i) has

  handed_steps : (x : Connection) (f : Frame) (ends : Bool) → HasSteps x → AllValues HasStep (cond ends (remove x.calls f.number.0) x.calls)
  handed_steps x f true has = gone_so HasStep x.calls f.number.0 has
  handed_steps x f false has = has

  leads_steps : Leads m HaveSteps
  leads_steps = record {
    same = all;
    opened = λ c new. put_so HasSteps m.connections c.0 fresh_connection all (none_so HasStep);
    halted = all;
    framed = λ v c x f salt here is. framed_steps c x f here v salt (verdict_steps (state_after m.journal) m.cookies c x f v is);
    asked = λ c x r call got need here there.
        put_so HasSteps m.connections c.0 _ all (put_so HasStep x.calls r.0 (Gathers call got true) (all c.0 x here) (all c.0 x here r.0 (Gathers call got false) there));
    given = λ memory c x r call got here there none. perform_steps memory c x r call (Given got) (process_in x.condition) (all c.0 x here);
    failed = λ memory c x r call why here there. perform_steps memory c x r call (Fault why) (process_in x.condition) (all c.0 x here);
    taken = λ c x f queue here. put_so HasSteps m.connections c.0 _ all (handed_steps x f (is_end f.body) (all c.0 x here));
    drained = λ answer c x f here. put_so HasSteps m.connections c.0 _ all (none_so HasStep);
    closed = λ c x here. gone_so HasSteps m.connections c.0 all;
  }

plays_steps : (m m' : Machine) (happens : ServerEvent) (answer : ServerReply) → HaveSteps m → Plays m happens answer m' → HaveSteps m'
plays_steps m m' happens answer all plays = plays_leads m HaveSteps (leads_steps m all) m' happens answer plays

fresh_steps : (version : Version) → HaveSteps (fresh_machine version)
fresh_steps version = none_so HasSteps

-- in every history, each call that is open at the server is one that its kernel performs by now
pub run_steps : (version : Version) (moves : List Move) → HaveSteps (run (fresh_history version) moves).world.rump
run_steps version moves =
    runs_keep HaveSteps plays_steps (fresh_machine version) _ (run (fresh_history version) moves).exchanges (fresh_steps version) (served version moves)

-- so it is in a world whose log is told
pub steps_of : (t : Told) → IsRun t → HaveSteps t.world.rump
steps_of t is = subst (λ (w : World). HaveSteps w.rump) (sym is.world) (run_steps Four (moves_of t))
