-- What was done where a fork, a join or a next program's handshake is answered Done.
use Rattle.std.proofs.Common.{◌≡◌, ◌≢◌, inl, inr, ℕ, ◌+◌, Bool, true, false, cond, List, [], ◌∷◌, ◌++◌, length, Option, Some, None, IsSome, refl, sym, ap, subst, ◌∙◌}
use Rattle.std.specs.Prelude.{not, is_none, nat_le}
use Rattle.std.specs.FinMap.{get}
use Rattle.sp_base.specs.Table.{at, lowest_unused}
use Rattle.sp_base.specs.declared.limits.TheConstants.{FIRST_PROCESS}
use Rattle.sp_base.specs.declared.names.ConnNo.{ConnNo}
use Rattle.sp_base.specs.declared.names.Cookie.{Cookie}
use Rattle.sp_base.specs.declared.names.Pid.{Pid}
use Rattle.sp_base.specs.declared.names.SpError.{SpError}
use Rattle.sp_base.specs.declared.names.SpError.TheVariants as error
use Rattle.sp_frames.specs.declared.frame.Body.{Body}
use Rattle.sp_frames.specs.declared.frame.Body.TheVariants as body
use Rattle.sp_frames.specs.declared.frame.Frame.{Frame}
use Rattle.kern_model.specs.declared.journal.Entry.{Entry}
use Rattle.kern_model.specs.declared.journal.Who.TheVariants.{Request}
use Rattle.kern_model.specs.declared.operation.Op.TheVariants as op
use Rattle.kern_model.specs.declared.outcome.Outcome.{Outcome}
use Rattle.kern_model.specs.Descriptors.{act_fork}
use Rattle.kern_model.specs.Journal.{next_entry, state_after}
use Rattle.kern_model.specs.Laws.{kept_row}
use Rattle.kern_model.specs.State.{State, directory_of, rows_of, with_process}
use Rattle.kern_model.specs.Step.{answered}
use Rattle.kern_model.proofs.JournalLaws.{journal_tables}
use Rattle.kern_model.proofs.Lemmas.{each_is, fork_makes}
use Rattle.kern_model.proofs.OperationLaws.{exec_leaves, exec_stays}
use Rattle.kern_model.proofs.ProcessLaws.{live_stays}
use Rattle.sp_fork.specs.Jar.{Jar, after, is_full, redeemable, without}
use Rattle.sp_fork.specs.Jar.Operation.{Redeem}
use Rattle.sp_fork.specs.declared.unused.CookieKind.{CookieKind}
use Rattle.sp_fork.specs.declared.unused.CookieKind.TheVariants as kind
use Rattle.sp_fork.specs.declared.unused.Unused.{Unused}
use Rattle.hub_model.specs.Cookies.{handing}
use Rattle.hub_model.specs.Frames.{answered_kind, imaged, joined}
use Rattle.hub_model.specs.Inherit.{ForksInherit, HasForked, HasImaged, HasJoined, ImagesInherit, JoinsInherit}
use Rattle.hub_model.specs.Journal.{nothing_read}
use Rattle.hub_model.specs.Machine.{Plays}
use Rattle.hub_model.specs.Requests.{fork, fork_by, frame_at, frame_by, image, image_by, join, left_at, left_over, redeemed, refuse, speaking}
use Rattle.hub_model.specs.Sound.{IsInExec, IsSound, IsWaitingFor}
use Rattle.hub_model.specs.State.{Connection, Machine, Played, is_draining, is_fresh, is_live, process_in}
use Rattle.hub_model.specs.Verdict.{body_verdict, fork_verdict, request_verdict, takeover_verdict, verdict_of}
use Rattle.hub_model.specs.declared.event.Event.TheVariants as event
use Rattle.hub_model.specs.declared.event.Reply.{Reply}
use Rattle.hub_model.specs.declared.event.Reply.TheVariants as reply
use Rattle.hub_model.specs.declared.handover.Handover.TheVariants as handover
use Rattle.hub_model.specs.declared.state.Condition.TheVariants as condition
use Rattle.hub_model.specs.declared.verdict.Verdict.{Verdict}
use Rattle.hub_model.specs.declared.verdict.Verdict.TheVariants as verdict
use Rattle.hub_model.proofs.Entries.{nexts}
use Rattle.hub_model.proofs.Ledgers.{redeemable_is}
use Rattle.hub_model.proofs.Verdicts.{Forks, tells}
use Rattle.tables.proofs.Maps.{get_gone, get_put, get_put_other}

-- ---- where a frame is answered Done

-- a machine answers Done, and is this one afterwards
abbrev IsDoneBy : Machine → Played → Type 0
IsDoneBy m' p = ◌≡◌ {A = Played} (reply.Done, m') p

-- a frame that was answered Done came over a connection, and did what its verdict says
record FrameDone (m : Machine) (c : ConnNo) (f : Frame) (salt : ℕ) (m' : Machine) : Type 0 where
  connection : Connection
  here : get m.connections c.0 ≡ Some connection
  does : IsDoneBy m' (frame_by (verdict_of (state_after m.journal) m.cookies c connection f) m c connection f salt)

other_reply : {X : Type 0} (m m' : Machine) (answer : Reply) → reply.Done ≢ answer → IsDoneBy m' (answer, m) → X
other_reply m m' answer other e = absurd (other (ap (λ (p : Played). p.0) e))

at_done : (m m' : Machine) (c : ConnNo) (f : Frame) (salt : ℕ) (o : Option Connection) → get m.connections c.0 ≡ o → IsDoneBy m' (frame_at m c f salt o) → FrameDone m c f salt m'
at_done m m' c f salt None here e = other_reply m m' reply.Closed (λ q. cc) e
at_done m m' c f salt (Some x) here e = record { connection = x; here = here; does = e }

running_done : (m m' : Machine) (c : ConnNo) (f : Frame) (salt : ℕ) (halted : Bool) → IsDoneBy m' (cond {A = Played} halted (reply.Closed, m) (frame_at m c f salt (get m.connections c.0)))
    → FrameDone m c f salt m'
running_done m m' c f salt true e = other_reply m m' reply.Closed (λ q. cc) e
running_done m m' c f salt false e = at_done m m' c f salt (get m.connections c.0) refl e

frame_done : (m m' : Machine) (c : ConnNo) (f : Frame) (salt : ℕ) → Plays m (event.Frame c f salt) reply.Done m' → FrameDone m c f salt m'
frame_done m m' c f salt (inl p) = running_done m m' c f salt m.halted p.1
frame_done m m' c f salt (inr stays) = absurd (let q = stays.answers in cc)

-- a frame that is refused isn't answered Done
refuse_not_done : {X : Type 0} (m m' : Machine) (c : ConnNo) (x : Connection) (f : Frame) (why : SpError) (o : Option ℕ) → IsDoneBy m' (refuse m c x f why o) → X
refuse_not_done m m' c x f why None e = absurd (let q = ap (λ (p : Played). p.0) e in cc)
refuse_not_done m m' c x f why (Some number) e = absurd (let q = ap (λ (p : Played). p.0) e in cc)

-- ---- what Done means, by the frame's body

module _ (m m' : Machine) (c : ConnNo) (x : Connection) (f : Frame) (salt : ℕ) (Goal : Type 0) where
  abbrev s : State
  s = state_after m.journal

  -- what Done means where the verdict is this one
  abbrev Means : Verdict → Type 0
  Means v = verdict_of s m.cookies c x f ≡ v → IsDoneBy m' (frame_by v m c x f salt) → Goal

  refused : (why : SpError) → Means (verdict.Refused why)
  refused why v e = refuse_not_done m m' c x f why (answered_kind f.body) e

  bad : Means verdict.Malformed
  bad v e = absurd (let q = ap (λ (p : Played). p.0) e in cc)

  either : (b : Bool) (u v : Verdict) → Means u → Means v → Means (cond b u v)
  either true u v first second = first
  either false u v first second = second

  at_body : (b : Body) → f.body ≡ b → Means (body_verdict s m.cookies c x f.number.0 b) → IsDoneBy m' (frame_by (verdict_of s m.cookies c x f) m c x f salt) → Goal
  at_body b is means = either (is_draining x.condition) verdict.Closed (body_verdict s m.cookies c x f.number.0 f.body) (λ v e. other_reply m m' reply.Closed (λ q. cc) e)
      (subst (λ (d : Body). Means (body_verdict s m.cookies c x f.number.0 d)) (sym is) means) refl

  fork_means : f.body ≡ body.Prefork → Means verdict.Fork → IsDoneBy m' (frame_by (verdict_of s m.cookies c x f) m c x f salt) → Goal
  fork_means is means = at_body body.Prefork is
      (either (nat_le f.number.0 x.last) verdict.Malformed (fork_verdict s m.cookies x) bad
      (either (is_fresh x.condition) verdict.Malformed _ bad
      (either (not (is_live x.condition)) (verdict.Refused error.InExec) _ (refused error.InExec)
      (either (is_full m.cookies) (verdict.Refused error.TryAgain) _ (refused error.TryAgain)
      (either (is_none (lowest_unused s.processes FIRST_PROCESS)) (verdict.Refused error.ProcFull) verdict.Fork (refused error.ProcFull) means)))))

  takeover_means : (cookie : Option Unused) (v : Verdict) → Means v → Means (request_verdict x f.number.0 (takeover_verdict x cookie v))
  takeover_means cookie v means =
      either (nat_le f.number.0 x.last) verdict.Malformed (takeover_verdict x cookie v) bad
      (either (not (is_fresh x.condition)) verdict.Malformed _ bad
      (either (is_none cookie) (verdict.Refused error.BadCookie) v (refused error.BadCookie) means))

-- ---- forks

-- a fork is no error where a number is unused
fork_succeeds : (s : State) (pid n : ℕ) (outcome : Outcome) (t : State) → lowest_unused s.processes FIRST_PROCESS ≡ Some n → act_fork s pid ≡ Some (outcome, t) → outcome.err ≡ 0
fork_succeeds s pid n outcome t low h =
    let g : answered n (with_process s n (at s.processes pid)) ≡ Some (outcome, t) = rw low at h in
    each_is (λ o u. o.err ≡ 0) (answered n (with_process s n (at s.processes pid))) outcome t refl g

forked : (m m' : Machine) (c : ConnNo) (x : Connection) (f : Frame) (salt : ℕ) (pid : Pid) (next : Option Entry) → IsSound m → get m.connections c.0 ≡ Some x
    → Forks (state_after m.journal) m.cookies x f.number.0 → process_in x.condition ≡ Some pid → next_entry m.journal pid (Request c f.number) op.Fork nothing_read ≡ next
    → IsDoneBy m' (fork_by m c x f salt next) → HasForked m c m'
forked m m' c x f salt pid None sound here t own h e = other_reply m m' reply.NotReady (λ q. cc) e
forked m m' c x f salt pid (Some entry) sound here t own h e =
    let s = state_after m.journal in
    let n = nexts m.journal pid (Request c f.number) op.Fork nothing_read entry h in
    let makes = fork_makes s pid.0 entry.outcome n.next n.acts in
    let succeeds = fork_succeeds s pid.0 t.pid entry.outcome n.next t.lowest n.acts in
    let live : IsSome (at s.processes pid.0) = (sound.each c.0 x here).process pid own in
    let child = handing (record { 0 = entry.outcome.ret0 }) c salt kind.Fork in
    let same : m' ≡ (fork_by m c x f salt (Some entry)).1 = ap (λ (p : Played). p.1) e in
    subst (λ (k : Machine). HasForked m c k) (sym same) (record {
      parent = pid;
      child = child;
      speaks = (x, here, own);
      there = live;
      cookie = get_put m.cookies.unused (m.cookies.given + 1) child;
      is_fork = refl;
      is_maker = refl;
      is_new = (makes.new succeeds).unused;
      takes = subst (λ (k : State). at k.processes entry.outcome.ret0 ≡ at s.processes pid.0) (sym n.state) (makes.new succeeds).made;
      keeps = subst (λ (k : State). at k.processes pid.0 ≡ at s.processes pid.0) (sym n.state) (live_stays pid.0 makes succeeds live);
    })

fork_done : (m m' : Machine) (c : ConnNo) (x : Connection) (f : Frame) (salt : ℕ) (process : Option Pid) → IsSound m → get m.connections c.0 ≡ Some x
    → Forks (state_after m.journal) m.cookies x f.number.0 → process_in x.condition ≡ process → IsDoneBy m' (fork m c x f salt process) → HasForked m c m'
fork_done m m' c x f salt None sound here t own e = other_reply m m' reply.Nothing (λ q. cc) e
fork_done m m' c x f salt (Some pid) sound here t own e = forked m m' c x f salt pid (next_entry m.journal pid (Request c f.number) op.Fork nothing_read) sound here t own refl e

pub forks_inherit : ForksInherit
forks_inherit m m' c f salt sound is plays =
    let done = frame_done m m' c f salt plays in
    let x = done.connection in
    fork_means m m' c x f salt (HasForked m c m') is
    (λ v e. fork_done m m' c x f salt (process_in x.condition) sound done.here (tells (state_after m.journal) m.cookies c x f verdict.Fork v) refl e)
    done.does

-- ---- joins

-- a cookie that was redeemed is used up
used_up : (jar : Jar) (cookie : Cookie) (k : CookieKind) (u : Unused) → redeemable jar cookie k ≡ Some u → get (after jar (Redeem cookie k)).unused cookie.number ≡ None
used_up jar cookie k u is = ap (λ (o : Option Unused). get (without jar cookie.number o).unused cookie.number) is ∙ get_gone jar.unused cookie.number

join_done : (m m' : Machine) (c : ConnNo) (x : Connection) (f : Frame) (cookie : Cookie) (o : Option Unused) → redeemable m.cookies cookie kind.Fork ≡ o → IsDoneBy m' (join m c x f cookie o)
    → HasJoined m c cookie m'
join_done m m' c x f cookie None is e = other_reply m m' reply.Nothing (λ q. cc) e
join_done m m' c x f cookie (Some u) is e =
    let same : m' ≡ (join m c x f cookie (Some u)).1 = ap (λ (p : Played). p.1) e in
    let x' = speaking x f u.pid (joined f.number u.pid) in
    subst (λ (k : Machine). HasJoined m c cookie k) (sym same) (record {
      child = u;
      unused = is;
      used = used_up m.cookies cookie kind.Fork u is;
      speaks = (x', get_put m.connections c.0 x', refl);
      journal = refl;
    })

pub joins_inherit : JoinsInherit
joins_inherit m m' c f salt cookie name is plays =
    let done = frame_done m m' c f salt plays in
    let x = done.connection in
    let unused = redeemable m.cookies cookie kind.Fork in
    at_body m m' c x f salt (HasJoined m c cookie m') (body.Join cookie name) is
    (takeover_means m m' c x f salt (HasJoined m c cookie m') unused (verdict.Join cookie) (λ v e. join_done m m' c x f cookie unused refl e))
    done.does

-- ---- next programs

module _ (m m' : Machine) (c : ConnNo) (x : Connection) (f : Frame) (cookie : Cookie) (u : Unused) (sound : IsSound m) (here : get m.connections c.0 ≡ Some x)
    (found : redeemable m.cookies cookie kind.Exec ≡ Some u) (fresh : x.condition ≡ condition.Fresh) where
  there : (get m.cookies.unused cookie.number ≡ Some u) × (u.kind ≡ kind.Exec)
  there = redeemable_is m.cookies cookie kind.Exec u found

  live : IsSome (at (state_after m.journal).processes u.pid.0)
  live = (sound.cookies cookie.number u there.0).process

  maker : IsInExec m u.maker u.pid
  maker = subst (λ (k : CookieKind). IsWaitingFor m u k) there.1 (sound.cookies cookie.number u there.0).waits

  other : u.maker.0 ≢ c.0
  other same =
      let one : Some maker.0 ≡ Some x = sym maker.1 ∙ (ap (λ (n : ℕ). get m.connections n) same ∙ here) in
      let is : maker.0 ≡ x = cc in
      let clash : condition.InExec u.pid ≡ condition.Fresh = sym maker.2 ∙ (ap (λ (y : Connection). y.condition) is ∙ fresh) in cc

  imaged_as : (next : Option Entry) → next_entry m.journal u.pid (Request c f.number) op.Exec nothing_read ≡ next → IsDoneBy m' (image_by m c x f cookie u next) → HasImaged m c cookie m'
  imaged_as None h e = other_reply m m' reply.NotReady (λ q. cc) e
  imaged_as (Some entry) h e =
      let s = state_after m.journal in
      let n = nexts m.journal u.pid (Request c f.number) op.Exec nothing_read entry h in
      let x' = speaking x f u.pid (imaged f.number u.pid (length m.journal)) in
      let m1 = record (redeemed m cookie kind.Exec) { journal = m.journal ++ entry ∷ []; handovers = handover.Imaged c cookie.number ∷ m.handovers } in
      let gone = left_at m1 u.maker (get m.connections u.maker.0) in
      let same : m' ≡ (image_by m c x f cookie u (Some entry)).1 = ap (λ (p : Played). p.1) e in
      let left : get gone.connections u.maker.0 ≡ Some (left_over maker.0) =
      ap (λ (o : Option Connection). get (left_at m1 u.maker o).connections u.maker.0) maker.1 ∙ get_put m.connections u.maker.0 (left_over maker.0) in
      let grown : gone.journal ≡ m.journal ++ entry ∷ [] = ap (λ (o : Option Connection). (left_at m1 u.maker o).journal) maker.1 in
      let jar : gone.cookies ≡ m1.cookies = ap (λ (o : Option Connection). (left_at m1 u.maker o).cookies) maker.1 in
      let state : state_after gone.journal ≡ n.next = ap (λ (j : List Entry). state_after j) grown ∙ n.state in
      subst (λ (k : Machine). HasImaged m c cookie k) (sym same) (record {
        handed = u;
        unused = found;
        used = ap (λ (j : Jar). get j.unused cookie.number) jar ∙ used_up m.cookies cookie kind.Exec u found;
        spoke = maker;
        speaks = (x', get_put gone.connections c.0 x', refl);
        left = (left_over maker.0, get_put_other gone.connections c.0 x' u.maker.0 other ∙ left, refl);
        rows = λ fd. subst (λ (t : State). at (rows_of t u.pid.0) fd ≡ kept_row (at (rows_of s u.pid.0) fd)) (sym state)
            (exec_leaves s u.pid.0 entry.outcome n.next fd n.acts ((journal_tables m.journal).descriptors u.pid.0 live));
        directory = subst (λ (t : State). directory_of t u.pid.0 ≡ directory_of s u.pid.0) (sym state) (exec_stays s u.pid.0 entry.outcome n.next n.acts);
      })

image_done : (m m' : Machine) (c : ConnNo) (x : Connection) (f : Frame) (cookie : Cookie) (o : Option Unused) → IsSound m → get m.connections c.0 ≡ Some x → redeemable m.cookies cookie kind.Exec ≡ o
    → x.condition ≡ condition.Fresh → IsDoneBy m' (image m c x f cookie o) → HasImaged m c cookie m'
image_done m m' c x f cookie None sound here is fresh e = other_reply m m' reply.Nothing (λ q. cc) e
image_done m m' c x f cookie (Some u) sound here is fresh e =
    imaged_as m m' c x f cookie u sound here is fresh (next_entry m.journal u.pid (Request c f.number) op.Exec nothing_read) refl e

pub images_inherit : ImagesInherit
images_inherit m m' c f salt cookie name sound is plays =
    let done = frame_done m m' c f salt plays in
    let x = done.connection in
    let unused = redeemable m.cookies cookie kind.Exec in
    at_body m m' c x f salt (HasImaged m c cookie m') (body.Image cookie name) is
    (takeover_means m m' c x f salt (HasImaged m c cookie m') unused (verdict.Image cookie)
    (λ v e. image_done m m' c x f cookie unused sound done.here refl (tells (state_after m.journal) m.cookies c x f (verdict.Image cookie) v).fresh e))
    done.does
