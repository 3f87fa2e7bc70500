-- A request comes to the server that is answered at once.
use Rattle.std.proofs.Common.{◌≡◌, ◌≢◌, ℕ, ◌<◌, Bool, true, false, List, [], ◌∷◌, ◌++◌, length, Option, Some, None, refl, sym, ap, ◌∙◌, subst, arith}
use Rattle.sp_base.specs.declared.names.ConnNo.{ConnNo}
use Rattle.sp_base.specs.declared.names.Cookie.{Cookie}
use Rattle.sp_base.specs.declared.names.Pid.{Pid}
use Rattle.sp_base.specs.declared.names.ReqNo.{ReqNo}
use Rattle.sp_base.specs.declared.names.SpError.{SpError}
use Rattle.sp_copy.proofs.Places.{all_stay}
use Rattle.sp_frames.specs.declared.frame.Body.{Body}
use Rattle.sp_frames.specs.declared.frame.Body.TheVariants as body
use Rattle.sp_frames.specs.declared.frame.Frame.{Frame}
use Rattle.kern_model.specs.Journal.{next_entry}
use Rattle.kern_model.specs.declared.journal.Entry.{Entry}
use Rattle.kern_model.specs.declared.journal.Who.TheVariants.{Request}
use Rattle.kern_model.specs.declared.operation.Op.{Op}
use Rattle.kern_model.specs.declared.operation.Op.TheVariants as op
use Rattle.sp_fork.specs.Jar.{after, cancellable, redeemable, with_next}
use Rattle.sp_fork.specs.Jar.Operation.{Redeem}
use Rattle.sp_fork.specs.declared.unused.CookieKind.{CookieKind}
use Rattle.sp_fork.specs.declared.unused.CookieKind.TheVariants as kind
use Rattle.sp_fork.specs.declared.unused.Unused.{Unused}
use Rattle.hub_model.specs.Cookies.{handing, ledger_of, next_cookie, take_back_by}
use Rattle.hub_model.specs.Frames.{answered_kind}
use Rattle.hub_model.specs.Journal.{nothing_read}
use Rattle.hub_model.specs.Requests.{after_cancel, attach, cancel, fork, fork_by, join, no_process, ready, refuse}
use Rattle.hub_model.specs.State.{Connection, Machine, is_draining, is_fresh, is_live, process_in}
use Rattle.hub_model.specs.declared.event.Reply.{Reply}
use Rattle.hub_model.specs.declared.event.Reply.TheVariants as server_reply
use Rattle.hub_model.specs.declared.state.Condition.{Condition}
use Rattle.hub_model.specs.declared.state.Condition.TheVariants as condition
use Rattle.hub_law.specs.Frames.{numbered}
use Rattle.hub_law.specs.Serves.{AsksFor}
use Rattle.hub_law.proofs.Frames.{numbered_here, numbered_other}
use Rattle.hub_law.proofs.Keys.{Grows, HasNone, IsBy, attach_nexts, fork_nexts, grows_push, grows_same, next_is, only_push, stays_push}
use Rattle.hub_law.proofs.Lanes.{AreNumbered, GrowsPast}
use Rattle.hub_law.proofs.Ledgers.{take_back_lodges}
use Rattle.hub_law.proofs.Lists.{get_end}
use Rattle.hub_law.proofs.Means.{IsCancel, IsJoin, IsPreexec, IsRefused}
use Rattle.hub_law.proofs.Requests.{apart_conn, apart_number}
use Rattle.client_model.specs.State.{Client}
use Rattle.client_model.specs.declared.request.Request.{Request as What}
use Rattle.client_model.specs.declared.request.Response.{Response}
use Rattle.client_model.specs.declared.request.Response.TheVariants as response
use Rattle.world_model.specs.Host.{read_for}
use Rattle.world_model.specs.Log.{Ask}
use Rattle.world_model.specs.Once.{IsFine, IsOpOf, may_change}
use Rattle.world_model.specs.Run.{Item}
use Rattle.world_model.specs.State.{Link}
use Rattle.world_model.specs.declared.event.Reply.TheVariants as reply
use Rattle.world_model.proofs.Grown.{none_grows}
use Rattle.world_model.proofs.Requested.{asked_attach, asked_cancel, asked_fork, asked_join, asked_preexec, asks_no_copy, refused_kind}
use Rattle.world_model.proofs.Lane.{Rises, RisesBy, Speaks, is_welcome, slice_of}
use Rattle.world_model.proofs.Slice.{frame_of, number}
use Rattle.world_model.proofs.Stage.{At, Entered, IsAnswerTo, IsBodyOf, IsEntryOf, IsJoined, IsRight, NotYet, Once, Sent, Telling, response_in, untouched}
use Rattle.world_model.proofs.Taken.{Changed, Taken, Turns, put_changed, rest_of, rises_is, says_here, speaks_on}

-- a frame is of its own number
pub own_numbered : (f : Frame) → AreNumbered f.number (f ∷ [])
own_numbered f = record { here = numbered_here f.number.0 f refl; other = λ n ne. numbered_other n f (λ e. ne (sym e)) }

-- a connection whose cookie was taken back goes on
still_takes : (k : CookieKind) (s : Condition) → is_draining s ≡ false → is_draining (after_cancel k s) ≡ false
still_takes kind.Exec (condition.InExec pid) takes = refl
still_takes kind.Exec condition.Fresh takes = refl
still_takes kind.Exec (condition.Live pid) takes = refl
still_takes kind.Exec condition.Left takes = refl
still_takes kind.Exec condition.Draining takes = takes
still_takes kind.Fork s takes = takes

still_spoke : (k : CookieKind) (s : Condition) → is_fresh s ≡ false → is_fresh (after_cancel k s) ≡ false
still_spoke kind.Exec (condition.InExec pid) spoke = refl
still_spoke kind.Exec condition.Fresh spoke = spoke
still_spoke kind.Exec (condition.Live pid) spoke = refl
still_spoke kind.Exec condition.Left spoke = refl
still_spoke kind.Exec condition.Draining spoke = refl
still_spoke kind.Fork s spoke = spoke

live_has : (s : Condition) → is_live s ≡ true → process_in s ≡ None → ⊥
live_has (condition.Live pid) live none = cc
live_has _ live none = cc

module _ (m : Machine) (c : ConnNo) (k : Client) (l : Link) (x : Connection) (f : Frame) (frames : List Frame) (log : List Item) (up : l.up ≡ f ∷ frames)
    (speaks : Speaks c k l x log m.journal) (ask : Ask) (says : Body)
    (at : At m.journal c f.number.0 (slice_of c f.number.0 k l x log) (Sent ask says)) (comes : f ≡ frame_of f.number.0 says)
    (alone : numbered f.number.0 (frames ++ k.queue) ≡ []) where
  -- the frame says what was asked
  pub asks : IsBodyOf ask.what f.body
  asks = subst (λ (b : Body). IsBodyOf ask.what b) (sym (ap (λ (f : Frame). f.body) comes)) at.fact.0

  -- its number is above the last one, and those of the others above it
  pub risen : (x.last < f.number.0) × Rises f.number.0 (frames ++ k.queue) k.last
  risen = subst (λ (copy : Bool). RisesBy copy x.last f (λ n. Rises n (frames ++ k.queue) k.last)) (asks_no_copy ask.what f.body asks)
      (rises_is c k l x f frames log up speaks.rises)

  -- it has no entry
  pub none : HasNone m.journal c f.number
  none = at.fact.2

  -- the connection once it was answered
  abbrev spoken : Condition → Body → Connection
  spoken s b = record { condition = s; last = f.number.0; calls = x.calls; queue = x.queue ++ frame_of f.number.0 b ∷ [] }

  turns : (s : Condition) (b : Body) → is_draining s ≡ false → (is_fresh x.condition ≡ false → is_fresh s ≡ false)
      → (is_welcome b ≡ true → is_fresh s ≡ false)
      → Turns c k l x f frames log up (spoken s b) (frame_of f.number.0 b ∷ [])
  turns s b takes spoke welcome = record {
    queue = refl;
    numbers = own_numbered (frame_of f.number.0 b);
    calls = λ q ne. refl;
    rises = risen.1;
    takes = takes;
    begins = λ e. absurd (let lt = risen.0 in omega (arith, lt, e));
    spoke = spoke;
    welcome = (welcome, tt);
  }

  -- it is answered at once
  pub answers : (m' : Machine) (answer : Reply) (s : Condition) (b : Body) (what : Response) → Changed m m' c (spoken s b)
      → ((q : ReqNo) → q.0 ≢ f.number.0 → Grows c q m.journal m'.journal) → IsFine (reply.Server answer)
      → is_draining s ≡ false → (is_fresh x.condition ≡ false → is_fresh s ≡ false) → (is_welcome b ≡ true → is_fresh s ≡ false)
      → Entered m'.journal c f.number.0 ask → IsAnswerTo ask.what b → response_in b ≡ Some what → IsRight m'.journal c f.number.0 ask (untouched ask.mem) what
      → Taken m c k (rest_of l frames) f log (answer, m')
  answers m' answer s b what changed past fine takes spoke welcome entered kind brings right =
      let turn = turns s b takes spoke welcome in
      record {
        now = spoken s b;
        changed = changed;
        past = past;
        fine = fine;
        speaks = speaks_on c k l x f frames log up (spoken s b) (frame_of f.number.0 b ∷ []) m.journal m'.journal turn speaks past (
          Telling ask [] (untouched ask.mem) 0 [] b,
          record {
            asked = at.asked;
            told = at.told;
            request = at.request;
            up = alone;
            task = at.task;
            down = says_here c k l x f frames log up (spoken s b) (frame_of f.number.0 b ∷ []) m.journal m'.journal turn speaks past at.down;
            fact = record {
              number = at.fact.1;
              entered = entered;
              kind = kind;
              inside = tt;
              changes = all_stay (may_change ask.what) ask.mem;
              what = what;
              brings = brings;
              right = right;
            };
          },
        );
      }

  -- ---- with an entry

  -- the journal grows by the request's entry, and so past all others
  pub grown : (e : Entry) → e.who ≡ Request c f.number → (d : ConnNo) → d.0 ≢ c.0 → GrowsPast d m.journal (m.journal ++ e ∷ [])
  grown e who d ne r = grows_push d r m.journal e (apart_conn e c d f.number r who ne)

  pub grown_past : (e : Entry) → e.who ≡ Request c f.number → (q : ReqNo) → q.0 ≢ f.number.0 → Grows c q m.journal (m.journal ++ e ∷ [])
  grown_past e who q ne = grows_push c q m.journal e (apart_number e c f.number q who ne)

  -- the request's own entry
  pub own_entry : (pid : Pid) (operation : Op) (e : Entry) → IsBy pid (Request c f.number) operation nothing_read e → IsOpOf ask.what operation
      → read_for operation ask.mem ≡ nothing_read → IsEntryOf (m.journal ++ e ∷ []) c f.number.0 ask (length m.journal) e
  own_entry pid operation e by is reads = record {
    stands = (get_end m.journal e, by.who_is);
    only = only_push c f.number m.journal e none;
    operation = subst (λ (o : Op). IsOpOf ask.what o) (sym by.op_is) is;
    reads = by.ins_are ∙ (sym reads ∙ ap (λ (o : Op). read_for o ask.mem) (sym by.op_is));
  }

  -- a guest's handshake
  pub attach_taken : (next : Option Entry) → next_entry m.journal no_process (Request c f.number) op.Attach nothing_read ≡ next → AsksFor f.body op.Attach
      → Taken m c k (rest_of l frames) f log (attach m c x f next)
  attach_taken None h means = absurd (attach_nexts m.journal no_process (Request c f.number) h)
  attach_taken (Some e) h means =
      let by = next_is m.journal no_process (Request c f.number) op.Attach nothing_read e h in
      let is = asked_attach ask.what f.body asks means in
      let pid : Pid = record { 0 = e.outcome.ret0 } in
      answers _ server_reply.Done (condition.Live pid) (body.Hello pid) (response.Joined pid)
      (put_changed m c _ (m.journal ++ e ∷ []) m.cookies _ (stays_push m.journal e) (grown e by.who_is)) (grown_past e by.who_is) tt refl
      (λ spoke. refl) (λ spoke. refl)
      (Once (length m.journal) e (own_entry no_process op.Attach e by (subst (λ (w : What). IsOpOf w op.Attach) (sym is) tt) refl))
      (subst (λ (w : What). IsAnswerTo w (body.Hello pid)) (sym is) tt) refl
      (subst (λ (w : What). IsJoined w (m.journal ++ e ∷ []) c f.number.0 pid) (sym is)
      (record { entry = e; place = length m.journal; stands = (get_end m.journal e, by.who_is); operation = by.op_is; process = refl }))

  fork_by_taken : (salt : ℕ) (pid : Pid) (next : Option Entry) → next_entry m.journal pid (Request c f.number) op.Fork nothing_read ≡ next
      → AsksFor f.body op.Fork
      → Taken m c k (rest_of l frames) f log (fork_by m c x f salt next)
  fork_by_taken salt pid None h means = absurd (fork_nexts m.journal pid (Request c f.number) h)
  fork_by_taken salt pid (Some e) h means =
      let by = next_is m.journal pid (Request c f.number) op.Fork nothing_read e h in
      let is = asked_fork ask.what f.body asks means in
      let child : Pid = record { 0 = e.outcome.ret0 } in
      let says = body.Forked (next_cookie m.cookies salt) (record { 0 = length m.journal }) child in
      answers _ server_reply.Done x.condition says (response.Forked (next_cookie m.cookies salt) (record { 0 = length m.journal }) child)
      (put_changed m c _ (m.journal ++ e ∷ []) (with_next m.cookies (handing child c salt kind.Fork)) _ (stays_push m.journal e) (grown e by.who_is))
      (grown_past e by.who_is)
      tt speaks.takes (λ spoke. spoke) (λ welcome. absurd (cc))
      (Once (length m.journal) e (own_entry pid op.Fork e by (subst (λ (w : What). IsOpOf w op.Fork) (sym is) tt) refl))
      (subst (λ (w : What). IsAnswerTo w says) (sym is) tt) refl
      (record { entry = e; stands = (get_end m.journal e, by.who_is); operation = by.op_is; child = refl })

  -- a fork
  pub fork_taken : (salt : ℕ) (process : Option Pid) → process_in x.condition ≡ process → AsksFor f.body op.Fork → is_live x.condition ≡ true
      → Taken m c k (rest_of l frames) f log (fork m c x f salt process)
  fork_taken salt None h means live = absurd (live_has x.condition live h)
  fork_taken salt (Some pid) h means live = fork_by_taken salt pid _ refl means

  -- ---- with none

  -- a request is refused
  pub refuse_taken : (why : SpError) (type : Option ℕ) → answered_kind f.body ≡ type → IsRefused f.body why
      → Taken m c k (rest_of l frames) f log (refuse m c x f why type)
  refuse_taken why None h means = absurd (let k : None ≡ Some means.type = sym h ∙ means.kind in cc)
  refuse_taken why (Some type) h means =
      answers _ (server_reply.Refused why) x.condition (body.Refused type why) (response.Refused why)
      (put_changed m c _ m.journal m.cookies m.handovers (λ p e s. s) (λ d ne r. grows_same d r m.journal)) (λ q ne. grows_same c q m.journal)
      means.plain speaks.takes (λ spoke. spoke) (λ welcome. absurd (cc)) (NotYet none) (refused_kind ask.what f.body type why asks h) refl
      (record { none = none; same = refl })

  -- a child's handshake
  pub join_taken : (cookie : Cookie) (o : Option Unused) → redeemable m.cookies cookie kind.Fork ≡ o → IsJoin f.body
      → (redeemable m.cookies cookie kind.Fork ≡ None → ⊥)
      → Taken m c k (rest_of l frames) f log (join m c x f cookie o)
  join_taken cookie None h means there = absurd (there h)
  join_taken cookie (Some u) h means there =
      let is = asked_join ask.what f.body asks means in
      answers _ server_reply.Done (condition.Live u.pid) (body.Joined u.pid) (response.Joined u.pid)
      (put_changed m c _ m.journal (after m.cookies (Redeem cookie kind.Fork)) _ (λ p e s. s) (λ d ne r. grows_same d r m.journal))
      (λ q ne. grows_same c q m.journal)
      tt refl (λ spoke. refl) (λ spoke. refl) (NotYet none) (subst (λ (w : What). IsAnswerTo w (body.Joined u.pid)) (sym is) tt) refl
      (subst (λ (w : What). IsJoined w m.journal c f.number.0 u.pid) (sym is) none)

  -- a process is to go on as its next program
  pub ready_taken : (salt : ℕ) (process : Option Pid) → process_in x.condition ≡ process → IsPreexec f.body → is_live x.condition ≡ true
      → Taken m c k (rest_of l frames) f log (ready m c x f salt process)
  ready_taken salt None h means live = absurd (live_has x.condition live h)
  ready_taken salt (Some pid) h means live =
      let is = asked_preexec ask.what f.body asks means in
      let says = body.ExecReady (next_cookie m.cookies salt) in
      answers _ server_reply.Done (condition.InExec pid) says (response.ExecReady (next_cookie m.cookies salt))
      (put_changed m c _ m.journal (with_next m.cookies (handing pid c salt kind.Exec)) _ (λ p e s. s) (λ d ne r. grows_same d r m.journal))
      (λ q ne. grows_same c q m.journal)
      tt refl (λ spoke. refl) (λ welcome. absurd (cc)) (NotYet none) (subst (λ (w : What). IsAnswerTo w says) (sym is) tt) refl none

  -- a cookie is taken back
  pub cancel_taken : (cookie : Cookie) (o : Option Unused) → cancellable m.cookies cookie c ≡ o → IsCancel f.body
      → (cancellable m.cookies cookie c ≡ None → ⊥)
      → Taken m c k (rest_of l frames) f log (cancel m c x f cookie o)
  cancel_taken cookie None h means there = absurd (there h)
  cancel_taken cookie (Some u) h means there =
      let is = asked_cancel ask.what f.body asks means in
      let after = take_back_by (ledger_of m) c cookie (Some u) in
      let lodges = take_back_lodges (ledger_of m) c cookie (Some u) in
      let unasked = none_grows c f.number.0 m.journal after.journal (lodges.grows c f.number) none in
      answers _ server_reply.Done (after_cancel u.kind x.condition) body.Cancelled response.Cancelled
      (put_changed m c _ after.journal after.cookies after.handovers (lodges.grows c f.number).stays (λ d ne r. lodges.grows d r)) (λ q ne. lodges.grows c q)
      tt (still_takes u.kind x.condition speaks.takes) (λ spoke. still_spoke u.kind x.condition spoke) (λ welcome. absurd (cc)) (NotYet unasked)
      (subst (λ (w : What). IsAnswerTo w body.Cancelled) (sym is) tt) refl unasked
