-- A frame comes: a request that is answered at once, a call, or a copy for one.
use Rattle.std.proofs.Common.{◌≡◌, ◌≢◌, inl, inr, ℕ, ◌<◌, ◌≤◌, Bool, true, false, List, [], ◌∷◌, ◌++◌, length, Option, Some, None, refl, sym, ap, ◌∙◌, subst, arith, append-nil, append_assoc}
use Rattle.std.proofs.lemmas.Bool.{cases_lt}
use Rattle.std.specs.FinMap.{get, insert}
use Rattle.sp_base.specs.declared.call.Call.{Call}
use Rattle.sp_base.specs.declared.errno.Errno.{Errno}
use Rattle.sp_base.specs.declared.names.ConnNo.{ConnNo}
use Rattle.sp_base.specs.declared.names.Cookie.{Cookie}
use Rattle.sp_base.specs.declared.names.Pid.{Pid}
use Rattle.sp_base.specs.declared.names.ReqNo.{ReqNo}
use Rattle.sp_base.specs.declared.names.SpError.{SpError}
use Rattle.sp_base.specs.declared.names.SpError.TheVariants as error
use Rattle.sp_frames.specs.declared.frame.Body.{Body}
use Rattle.sp_frames.specs.declared.frame.Body.TheVariants as body
use Rattle.sp_frames.specs.declared.frame.Frame.{Frame}
use Rattle.kern_model.specs.Journal.{next_entry}
use Rattle.kern_model.specs.declared.journal.Entry.{Entry}
use Rattle.kern_model.specs.declared.journal.Who.TheVariants.{Request}
use Rattle.kern_model.specs.declared.operation.Op.{Op}
use Rattle.kern_model.specs.declared.operation.Op.TheVariants as op
use Rattle.sp_fork.specs.Jar.{after, cancellable, redeemable, with_next}
use Rattle.sp_fork.specs.Jar.Operation.{Redeem}
use Rattle.sp_fork.specs.declared.unused.CookieKind.{CookieKind}
use Rattle.sp_fork.specs.declared.unused.CookieKind.TheVariants as kind
use Rattle.sp_fork.specs.declared.unused.Unused.{Unused}
use Rattle.hub_model.specs.Cookies.{handing, ledger_of, next_cookie, take_back_by}
use Rattle.hub_model.specs.Frames.{answered_kind, cancelled, exec_ready, forked, hello, imaged, joined, refusal}
use Rattle.hub_model.specs.Journal.{nothing_read}
use Rattle.hub_model.specs.Requests.{after_cancel, attach, bytes_in, cancel, fork, fork_by, go_on, image, image_by, join, left_at, left_over, no_process, open_task, ready, redeemed, refuse, speaking, with_copy, with_error}
use Rattle.hub_model.specs.Sound.{IsAnswered, IsInExec, IsOpened, IsSound}
use Rattle.hub_model.specs.State.{Connection, Machine, is_draining, is_live, process_in, with_connection}
use Rattle.hub_model.specs.Verdict.{copy_by_error, error_in}
use Rattle.hub_model.specs.declared.event.Event.TheVariants as event
use Rattle.hub_model.specs.declared.event.Reply.{Reply}
use Rattle.hub_model.specs.declared.event.Reply.TheVariants as reply
use Rattle.hub_model.specs.declared.handover.Handover.TheVariants as handover
use Rattle.hub_model.specs.declared.state.Condition.{Condition}
use Rattle.hub_model.specs.declared.state.Condition.TheVariants as condition
use Rattle.hub_model.specs.declared.state.OpenCall.{OpenCall}
use Rattle.hub_model.specs.declared.state.OpenCall.TheVariants.{Gathers, Fails}
use Rattle.hub_model.specs.declared.verdict.Verdict.TheVariants.{CopyFault}
use Rattle.hub_model.proofs.Keeps.{exec_waits}
use Rattle.hub_model.proofs.Ledgers.{redeemable_is}
use Rattle.tables.proofs.Maps.{get_put, get_put_other, same_or_not}
use Rattle.hub_law.specs.Frames.{answers_to, is_last_error, is_taken, numbered}
use Rattle.hub_law.specs.Serves.{AnswersHandover, AsksFor, IsForked, Tells}
use Rattle.hub_law.specs.Serves as serves
use Rattle.hub_law.proofs.Frames.{numbered_here, numbered_other}
use Rattle.hub_law.proofs.Keys.{Grows, IsBy, attach_nexts, exec_nexts, fork_nexts, grows_push, grows_same, next_is, stays_push}
use Rattle.hub_law.proofs.Lists.{get_end}
use Rattle.hub_law.proofs.Kept.{Frames, Happens, Kept, Moves, frame_kept, put_moves}
use Rattle.hub_law.proofs.Lanes.{AreNumbered, GrowsPast, Speaks, touched}
use Rattle.hub_law.proofs.Lanes.Aside.{LeftOver, Same}
use Rattle.hub_law.proofs.Lanes.Lane.{Alive}
use Rattle.hub_law.proofs.Ledgers.{forks_fewer, forks_next, take_back_lodges, without_fewer}
use Rattle.hub_law.proofs.Means.{IsCancel, IsCopy, IsJoin, IsPreexec, IsRefused}
use Rattle.hub_law.proofs.Stages.{Final, IsGathering, IsUntouched, StageOf, final_later, stage_quiet}
use Rattle.hub_law.proofs.Steps.{answered_at_once, copied, faulted, opens, performed_at_once}

-- ---- keys

-- an entry of a request is none of another connection
pub apart_conn : (e : Entry) (c d : ConnNo) (r q : ReqNo) → e.who ≡ Request c r → d.0 ≢ c.0 → e.who ≡ Request d q → ⊥
apart_conn e c d r q is ne h = let same : c ≡ d = (let k : Request c r ≡ Request d q = sym is ∙ h in cc) in ne (sym (ap (λ (c : ConnNo). c.0) same))

-- nor of another request
pub apart_number : (e : Entry) (c : ConnNo) (r q : ReqNo) → e.who ≡ Request c r → q.0 ≢ r.0 → e.who ≡ Request c q → ⊥
apart_number e c r q is ne h = let same : r ≡ q = (let k : Request c r ≡ Request c q = sym is ∙ h in cc) in ne (sym (ap (λ (r : ReqNo). r.0) same))

pub one_numbered : (f : Frame) → AreNumbered f.number (f ∷ [])
one_numbered f = record { here = numbered_here f.number.0 f refl; other = λ n ne. numbered_other n f (λ e. ne (sym e)) }

pub none_numbered : (r : ReqNo) → AreNumbered r []
none_numbered r = record { here = refl; other = λ n ne. refl }

-- ---- what answers a handover

answers_join : (journal : List Entry) (r : ReqNo) (b : Body) (pid : Pid) → IsJoin b → IsForked journal pid → AnswersHandover journal r b (joined r pid)
answers_join journal r (body.Join cookie name) pid is forked = (pid, forked, refl)
answers_join journal r _ pid is forked = absurd is

answers_ready : (journal : List Entry) (r : ReqNo) (b : Body) (cookie : Cookie) → IsPreexec b → AnswersHandover journal r b (exec_ready r cookie)
answers_ready journal r body.Preexec cookie is = (cookie, refl)
answers_ready journal r _ cookie is = absurd is

answers_cancel : (journal : List Entry) (r : ReqNo) (b : Body) → IsCancel b → AnswersHandover journal r b (cancelled r)
answers_cancel journal r (body.Cancel cookie) is = refl
answers_cancel journal r _ is = absurd is

plain_error : (why : SpError) (r : ReqNo) (kind : ℕ) → (why ≡ error.Malformed → ⊥) → is_last_error (refusal r kind why).body ≡ false
plain_error error.TryAgain r kind plain = refl
plain_error error.Auth r kind plain = refl
plain_error error.BadCookie r kind plain = refl
plain_error error.ProcFull r kind plain = refl
plain_error error.InExec r kind plain = refl
plain_error error.Memory r kind plain = refl
plain_error error.Malformed r kind plain = absurd (plain refl)

-- where a connection goes on that its exec cookie was taken back of
still_speaks : (k : CookieKind) (s : Condition) → is_draining s ≡ false → is_draining (after_cancel k s) ≡ false
still_speaks kind.Exec (condition.InExec pid) live = refl
still_speaks kind.Exec condition.Fresh live = refl
still_speaks kind.Exec (condition.Live pid) live = refl
still_speaks kind.Exec condition.Left live = refl
still_speaks kind.Exec condition.Draining live = live
still_speaks kind.Fork s live = live

speaks_for : (s : Condition) → is_live s ≡ true → process_in s ≡ None → ⊥
speaks_for (condition.Live pid) live none = cc
speaks_for _ live none = cc

-- ---- a frame comes over a connection that takes frames

module _ (m : Machine) (came sent : Frames) (kept : Kept m came sent) (c : ConnNo) (x : Connection) (live : is_draining x.condition ≡ false) (opened : IsOpened m.opened c.0)
    (speaks : Speaks c x.last x.calls (came c) (sent c ++ x.queue) m.journal) (f : Frame) (salt : ℕ) where
  -- what the frame's request had done before
  before : x.last < f.number.0 → IsUntouched m.journal c f.number (numbered f.number.0 (came c)) (answers_to f.number.0 (sent c ++ x.queue)) (get x.calls f.number.0)
  before later = speaks.above f.number later

  -- the frame is answered at once
  at_once : (m' : Machine) (s : Condition) (answer : Reply) (response : Frame) → is_taken answer ≡ true → is_draining s ≡ false → x.last < f.number.0
      → Moves m m' c (Some (record { condition = s; last = f.number.0; calls = x.calls; queue = x.queue ++ response ∷ [] }))
      → (response.number.0 ≡ f.number.0) → is_last_error response.body ≡ false
      → ((q : ReqNo) → q.0 ≢ f.number.0 → Grows c q m.journal m'.journal)
      → Final m'.journal c f.number (numbered f.number.0 (came c) ++ f ∷ []) (answers_to f.number.0 (sent c ++ x.queue) ++ response ∷ [])
      → Happens (event.Frame c f salt) came sent (answer, m')
  at_once m' s answer response taken still later moves number plain grows final =
      let x' : Connection = record { condition = s; last = f.number.0; calls = x.calls; queue = x.queue ++ response ∷ [] } in
      frame_kept m m' c (Some x') came sent f salt answer kept taken moves
      (Alive x' refl still (moves.opened c.0 opened)
      (subst (λ (fs : List Frame). Speaks c f.number.0 x.calls (came c ++ f ∷ []) fs m'.journal) (append_assoc (sent c) x.queue (response ∷ []))
      (touched c f.number x.last f.number.0 x.calls x.calls (came c) (f ∷ []) (sent c ++ x.queue) (response ∷ []) m.journal m'.journal
      speaks (omega arith) (omega arith) (one_numbered f) ((number, plain), tt) grows (λ n ne. refl)
      (stage_quiet m'.journal c f.number _ _ (get x.calls f.number.0) (before later).quiet final))))

  -- an open call changes, and nothing is said
  task_changes : (last : ℕ) (task : OpenCall) → x.last ≤ last → f.number.0 ≤ last
      → StageOf m.journal c f.number (numbered f.number.0 (came c) ++ f ∷ []) (answers_to f.number.0 (sent c ++ x.queue)) (Some task)
      → Happens (event.Frame c f salt) came sent (
        reply.Task f.number,
        record m { connections = insert m.connections c.0 (record { condition = x.condition; last = last; calls = insert x.calls f.number.0 task; queue = x.queue }) },
      )
  task_changes last task rises within stage =
      let x' : Connection = record { condition = x.condition; last = last; calls = insert x.calls f.number.0 task; queue = x.queue } in
      let m' : Machine = record m { connections = insert m.connections c.0 x' } in
      frame_kept m m' c (Some x') came sent f salt (reply.Task f.number) kept refl
      (put_moves m c x' m.journal m.cookies m.handovers (λ d ne r. grows_same d r m.journal) kept.forks)
      (Alive x' refl live opened
      (subst (λ (fs : List Frame). Speaks c last x'.calls (came c ++ f ∷ []) fs m.journal) (append-nil (sent c ++ x.queue))
      (touched c f.number x.last last x.calls x'.calls (came c) (f ∷ []) (sent c ++ x.queue) [] m.journal m.journal
      speaks rises within (one_numbered f) tt (λ q ne. grows_same c q m.journal) (λ n ne. get_put_other x.calls f.number.0 task n ne)
      (subst (λ (fs : List Frame). StageOf m.journal c f.number (numbered f.number.0 (came c) ++ f ∷ []) fs (get x'.calls f.number.0)) (sym (append-nil (answers_to f.number.0 (sent c ++ x.queue))))
      (subst (λ (t : Option OpenCall). StageOf m.journal c f.number (numbered f.number.0 (came c) ++ f ∷ []) (answers_to f.number.0 (sent c ++ x.queue)) t) (sym (get_put x.calls f.number.0 task)) stage)))))

  -- ---- with an entry

  -- the journal gets the entry of this request
  grown : (e : Entry) → e.who ≡ Request c f.number → (d : ConnNo) → d.0 ≢ c.0 → GrowsPast d m.journal (m.journal ++ e ∷ [])
  grown e who d ne r = grows_push d r m.journal e (apart_conn e c d f.number r who ne)

  grown_past : (e : Entry) → e.who ≡ Request c f.number → (q : ReqNo) → q.0 ≢ f.number.0 → Grows c q m.journal (m.journal ++ e ∷ [])
  grown_past e who q ne = grows_push c q m.journal e (apart_number e c f.number q who ne)

  -- its operation is performed at once
  performs : (m' : Machine) (s : Condition) (pid : Pid) (operation : Op) (e : Entry) (response : Frame) → is_draining s ≡ false → x.last < f.number.0
      → m'.journal ≡ m.journal ++ e ∷ []
      → Moves m m' c (Some (record { condition = s; last = f.number.0; calls = x.calls; queue = x.queue ++ response ∷ [] }))
      → (response.number.0 ≡ f.number.0) → is_last_error response.body ≡ false
      → IsBy pid (Request c f.number) operation nothing_read e → AsksFor f.body operation → Tells f.number (length m.journal) e operation (response ∷ [])
      → Happens (event.Frame c f salt) came sent (reply.Done, m')
  performs m' s pid operation e response still later journal moves number plain by asks tells =
      at_once m' s reply.Done response refl still later moves number plain
      (λ q ne. subst (λ (j : List Entry). Grows c q m.journal j) (sym journal) (grown_past e by.who_is q ne))
      (subst (λ (j : List Entry). Final j c f.number (numbered f.number.0 (came c) ++ f ∷ []) (answers_to f.number.0 (sent c ++ x.queue) ++ response ∷ [])) (sym journal)
      (performed_at_once m.journal c f.number _ _ _ f pid operation e (response ∷ []) (before later) asks by tells))

  pub attach_kept : (next : Option Entry) → next_entry m.journal no_process (Request c f.number) op.Attach nothing_read ≡ next → (x.last < f.number.0) × AsksFor f.body op.Attach
      → Happens (event.Frame c f salt) came sent (attach m c x f next)
  attach_kept None h means = absurd (attach_nexts m.journal no_process (Request c f.number) h)
  attach_kept (Some e) h means =
      let by = next_is m.journal no_process (Request c f.number) op.Attach nothing_read e h in
      performs _ (condition.Live (record { 0 = e.outcome.ret0 })) no_process op.Attach e (hello f.number e.outcome.ret0) refl means.0 refl
      (put_moves m c _ (m.journal ++ e ∷ []) m.cookies _ (grown e by.who_is) (forks_fewer m.journal (m.journal ++ e ∷ []) m.cookies m.cookies (stays_push m.journal e) (λ n u there. there) kept.forks))
      refl refl by means.1 refl

  fork_by_kept : (pid : Pid) (next : Option Entry) → next_entry m.journal pid (Request c f.number) op.Fork nothing_read ≡ next → x.last < f.number.0 → AsksFor f.body op.Fork
      → Happens (event.Frame c f salt) came sent (fork_by m c x f salt next)
  fork_by_kept pid None h later asks = absurd (fork_nexts m.journal pid (Request c f.number) h)
  fork_by_kept pid (Some e) h later asks =
      let by = next_is m.journal pid (Request c f.number) op.Fork nothing_read e h in
      let child : Pid = record { 0 = e.outcome.ret0 } in
      performs _ x.condition pid op.Fork e (forked f.number (next_cookie m.cookies salt) (length m.journal) child) live later refl
      (put_moves m c _ (m.journal ++ e ∷ []) (with_next m.cookies (handing child c salt kind.Fork)) _ (grown e by.who_is)
      (forks_next m.journal (m.journal ++ e ∷ []) m.cookies (handing child c salt kind.Fork) (stays_push m.journal e)
      (λ k. (length m.journal, e, get_end m.journal e, by.op_is, refl)) kept.forks))
      refl refl by asks (next_cookie m.cookies salt, refl)

  pub fork_kept : (process : Option Pid) → process_in x.condition ≡ process → (x.last < f.number.0) × AsksFor f.body op.Fork × (is_live x.condition ≡ true)
      → Happens (event.Frame c f salt) came sent (fork m c x f salt process)
  fork_kept None h means = absurd (speaks_for x.condition means.2 h)
  fork_kept (Some pid) h means = fork_by_kept pid _ refl means.0 means.1

  -- ---- with none

  -- the request is answered without an entry
  replies : (m' : Machine) (s : Condition) (answer : Reply) (response : Frame) → is_taken answer ≡ true → is_draining s ≡ false → x.last < f.number.0
      → Moves m m' c (Some (record { condition = s; last = f.number.0; calls = x.calls; queue = x.queue ++ response ∷ [] }))
      → (response.number.0 ≡ f.number.0) → is_last_error response.body ≡ false → ((r : ReqNo) → Grows c r m.journal m'.journal)
      → serves.Answers m.journal f.number f.body response → Happens (event.Frame c f salt) came sent (answer, m')
  replies m' s answer response taken still later moves number plain grows said =
      at_once m' s answer response taken still later moves number plain (λ q ne. grows q)
      (final_later m.journal m'.journal c f.number _ _ _ _ [] [] (grows f.number) (sym (append-nil _)) (sym (append-nil _))
      (answered_at_once m.journal c f.number _ _ _ f response (before later) said))

  pub refuse_kept : (why : SpError) (type : Option ℕ) → answered_kind f.body ≡ type → (x.last < f.number.0) × IsRefused f.body why
      → Happens (event.Frame c f salt) came sent (refuse m c x f why type)
  refuse_kept why None h means = absurd (let k : None ≡ Some means.1.type = sym h ∙ means.1.kind in cc)
  refuse_kept why (Some kind) h means =
      replies _ x.condition (reply.Refused why) (refusal f.number kind why) refl live means.0
      (put_moves m c _ m.journal m.cookies m.handovers (λ d ne r. grows_same d r m.journal) kept.forks)
      refl (plain_error why f.number kind means.1.plain) (λ r. grows_same c r m.journal) (inl (kind, why, h, means.1.plain, refl))

  pub join_kept : (cookie : Cookie) (o : Option Unused) → redeemable m.cookies cookie kind.Fork ≡ o
      → (x.last < f.number.0) × IsJoin f.body × (redeemable m.cookies cookie kind.Fork ≡ None → ⊥) → Happens (event.Frame c f salt) came sent (join m c x f cookie o)
  join_kept cookie None h means = absurd (means.2 h)
  join_kept cookie (Some u) h means =
      let is = redeemable_is m.cookies cookie kind.Fork u h in
      replies _ (condition.Live u.pid) reply.Done (joined f.number u.pid) refl refl means.0
      (put_moves m c _ m.journal (after m.cookies (Redeem cookie kind.Fork)) _ (λ d ne r. grows_same d r m.journal)
      (forks_fewer m.journal m.journal m.cookies (after m.cookies (Redeem cookie kind.Fork)) (λ p e s. s) (without_fewer m.cookies cookie.number (redeemable m.cookies cookie kind.Fork)) kept.forks))
      refl refl (λ r. grows_same c r m.journal) (inr (answers_join m.journal f.number f.body u.pid means.1 (kept.forks cookie.number u is.0 is.1)))

  pub ready_kept : (process : Option Pid) → process_in x.condition ≡ process → (x.last < f.number.0) × IsPreexec f.body × (is_live x.condition ≡ true)
      → Happens (event.Frame c f salt) came sent (ready m c x f salt process)
  ready_kept None h means = absurd (speaks_for x.condition means.2 h)
  ready_kept (Some pid) h means =
      replies _ (condition.InExec pid) reply.Done (exec_ready f.number (next_cookie m.cookies salt)) refl refl means.0
      (put_moves m c _ m.journal (with_next m.cookies (handing pid c salt kind.Exec)) _ (λ d ne r. grows_same d r m.journal)
      (forks_next m.journal m.journal m.cookies (handing pid c salt kind.Exec) (λ p e s. s) (λ k. absurd (cc)) kept.forks))
      refl refl (λ r. grows_same c r m.journal) (inr (answers_ready m.journal f.number f.body (next_cookie m.cookies salt) means.1))

  pub cancel_kept : (cookie : Cookie) (o : Option Unused) → cancellable m.cookies cookie c ≡ o
      → (x.last < f.number.0) × IsCancel f.body × (cancellable m.cookies cookie c ≡ None → ⊥) → Happens (event.Frame c f salt) came sent (cancel m c x f cookie o)
  cancel_kept cookie None h means = absurd (means.2 h)
  cancel_kept cookie (Some u) h means =
      let l = take_back_by (ledger_of m) c cookie (Some u) in
      let lodges = take_back_lodges (ledger_of m) c cookie (Some u) in
      replies _ (after_cancel u.kind x.condition) reply.Done (cancelled f.number) refl (still_speaks u.kind x.condition live) means.0
      (put_moves m c _ l.journal l.cookies l.handovers (λ d ne r. lodges.grows d r)
      (forks_fewer m.journal l.journal m.cookies l.cookies (lodges.grows c f.number).stays lodges.fewer kept.forks))
      refl refl (λ r. lodges.grows c r) (inr (answers_cancel m.journal f.number f.body means.1))

  -- ---- calls

  pub open_kept : (call : Call) → (x.last < f.number.0) × AsksFor f.body (op.Sys call) → Happens (event.Frame c f salt) came sent (open_task m c x f call)
  open_kept call means = task_changes f.number.0 (Gathers call [] false) (omega (arith, means.0)) (omega arith)
      (opens m.journal c f.number _ _ _ f call (before means.0) means.1)

  -- a number with an open call isn't above the last one
  within : (call : Call) (got : List (List ℕ)) (asked : Bool) → get x.calls f.number.0 ≡ Some (Gathers call got asked) → f.number.0 ≤ x.last
  within call got asked task = elim (cases_lt x.last f.number.0) [
    | inl later ↦ absurd (let k : true ≡ false = subst IsAnswered task (before later).quiet in cc)
    | inr le ↦ le
  ]

  -- the stage of the call that a copy comes for
  stage_at : (call : Call) (got : List (List ℕ)) (asked : Bool) → get x.calls f.number.0 ≡ Some (Gathers call got asked)
      → IsGathering m.journal c f.number (numbered f.number.0 (came c)) (answers_to f.number.0 (sent c ++ x.queue)) call got asked
  stage_at call got asked task = subst (λ (t : Option OpenCall). StageOf m.journal c f.number (numbered f.number.0 (came c)) (answers_to f.number.0 (sent c ++ x.queue)) t) task (speaks.each f.number)

  pub copy_kept : IsCopy x f.number.0 f.body → error_in f.body ≡ 0
      → Happens (event.Frame c f salt) came sent (go_on m c x f (λ task. with_copy task (bytes_in f.body)) (get x.calls f.number.0))
  copy_kept copy fine = subst (λ (o : Option OpenCall). Happens (event.Frame c f salt) came sent (go_on m c x f (λ task. with_copy task (bytes_in f.body)) o)) (sym copy.task)
      (task_changes x.last (Gathers copy.call (copy.got ++ bytes_in f.body ∷ []) false) (omega arith) (within copy.call copy.got true copy.task)
      (copied m.journal c f.number _ _ copy.call copy.got f (bytes_in f.body) (stage_at copy.call copy.got true copy.task) (record { of = copy.index; fine = fine; bytes_are = refl })))

  pub fault_kept : (why : Errno) → IsCopy x f.number.0 f.body → copy_by_error (error_in f.body) ≡ CopyFault why
      → Happens (event.Frame c f salt) came sent (go_on m c x f (λ task. with_error task why) (get x.calls f.number.0))
  fault_kept why copy wrong = subst (λ (o : Option OpenCall). Happens (event.Frame c f salt) came sent (go_on m c x f (λ task. with_error task why) o)) (sym copy.task)
      (task_changes x.last (Fails copy.call why) (omega arith) (within copy.call copy.got true copy.task)
      (faulted m.journal c f.number _ _ copy.call copy.got f why (stage_at copy.call copy.got true copy.task) copy.index wrong))

  -- ---- the next program

  -- the connection that made an exec cookie waits for its process to go on
  maker_at : IsSound m → (cookie : Cookie) (u : Unused) → redeemable m.cookies cookie kind.Exec ≡ Some u → IsInExec m u.maker u.pid
  maker_at sound cookie u h =
      let is = redeemable_is m.cookies cookie kind.Exec u h in
      exec_waits m u u.kind is.1 (sound.cookies cookie.number u is.0).waits

  image_at : (cookie : Cookie) (u : Unused) (e : Entry) (o : Option Connection) → get m.connections u.maker.0 ≡ o → IsInExec m u.maker u.pid → x.last < f.number.0 → AsksFor f.body op.Exec
      → IsBy u.pid (Request c f.number) op.Exec nothing_read e
      → Happens (event.Frame c f salt) came sent (
        reply.Done,
        with_connection (left_at (record (redeemed m cookie kind.Exec) { journal = m.journal ++ e ∷ []; handovers = handover.Imaged c cookie.number ∷ m.handovers }) u.maker o)
            c (speaking x f u.pid (imaged f.number u.pid (length m.journal))),
      )
  image_at cookie u e None h maker later asks by = absurd (let k : None ≡ Some maker.0 = sym h ∙ maker.1 in cc)
  image_at cookie u e (Some y) h maker later asks by =
      let x' : Connection = record { condition = condition.Live u.pid; last = f.number.0; calls = x.calls; queue = x.queue ++ imaged f.number u.pid (length m.journal) ∷ [] } in
      let is_y : maker.0 ≡ y = (let k : Some maker.0 ≡ Some y = sym maker.1 ∙ h in cc) in
      let waits : is_draining y.condition ≡ false = sym (ap (λ (z : Connection). is_draining z.condition) is_y) ∙ ap is_draining maker.2 in
      let left = insert m.connections u.maker.0 (left_over y) in
      performs _ (condition.Live u.pid) u.pid op.Exec e (imaged f.number u.pid (length m.journal)) refl later refl
      (record {
        here = get_put left c.0 x';
        others = λ d ne. elim (same_or_not d.0 u.maker.0) [
          | inl same ↦ LeftOver y (ap (λ (n : ℕ). get m.connections n) same ∙ h) waits
              (get_put_other left c.0 x' d.0 ne ∙ (ap (λ (n : ℕ). get left n) same ∙ get_put m.connections u.maker.0 (left_over y)))
          | inr other ↦ Same (get_put_other left c.0 x' d.0 ne ∙ get_put_other m.connections u.maker.0 (left_over y) d.0 other)
        ];
        opened = λ n o. o;
        grows = grown e by.who_is;
        forks = forks_fewer m.journal (m.journal ++ e ∷ []) m.cookies (after m.cookies (Redeem cookie kind.Exec)) (stays_push m.journal e) (without_fewer m.cookies cookie.number (redeemable m.cookies cookie kind.Exec)) kept.forks;
      })
      refl refl by asks (ap (λ (pid : Pid). imaged f.number pid (length m.journal) ∷ []) (sym by.pid_is))

  image_by_kept : IsSound m → (cookie : Cookie) (u : Unused) (next : Option Entry) → redeemable m.cookies cookie kind.Exec ≡ Some u
      → next_entry m.journal u.pid (Request c f.number) op.Exec nothing_read ≡ next → x.last < f.number.0 → AsksFor f.body op.Exec
      → Happens (event.Frame c f salt) came sent (image_by m c x f cookie u next)
  image_by_kept sound cookie u None there h later asks = absurd (exec_nexts m.journal u.pid (Request c f.number) h)
  image_by_kept sound cookie u (Some e) there h later asks =
      image_at cookie u e (get m.connections u.maker.0) refl (maker_at sound cookie u there) later asks (next_is m.journal u.pid (Request c f.number) op.Exec nothing_read e h)

  pub image_kept : IsSound m → (cookie : Cookie) (o : Option Unused) → redeemable m.cookies cookie kind.Exec ≡ o
      → (x.last < f.number.0) × AsksFor f.body op.Exec × (redeemable m.cookies cookie kind.Exec ≡ None → ⊥) → Happens (event.Frame c f salt) came sent (image m c x f cookie o)
  image_kept sound cookie None h means = absurd (means.2 h)
  image_kept sound cookie (Some u) h means = image_by_kept sound cookie u _ h refl means.0 means.1
