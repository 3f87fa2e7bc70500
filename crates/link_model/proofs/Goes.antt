-- A process that goes on as its next program has a whole link.
use Rattle.std.proofs.Common.{◌≡◌, ◌≢◌, ℕ, ◌+◌, ◌==◌, Bool, true, false, List, [], ◌∷◌, ◌++◌, length, map, filter, Option, Some, None, refl, sym, ap, subst, ◌∙◌, cond, arith}
use Rattle.std.specs.Prelude.{if◌then◌else◌, nat_le}
use Rattle.std.specs.Ordering.{nat_cmp, eq_by_cmp}
use Rattle.std.specs.Cmp.{nat_cmp_total}
use Rattle.std.specs.FinMap.{FinMap, get, insert, remove, empty, entries, len, get-empty, get-insert, get-remove, len-empty, len-entries, same_map, nat_cmp-IsAntisymmetric}
use Rattle.std.proofs.lemmas.Bool.Decides.{nat_tests}
use Rattle.sp_base.specs.declared.names.Caller.{Caller}
use Rattle.sp_base.specs.declared.names.ConnNo.{ConnNo}
use Rattle.sp_base.specs.declared.names.Cookie.{Cookie}
use Rattle.sp_base.specs.declared.names.Pid.{Pid}
use Rattle.sp_base.specs.declared.names.ReqNo.{ReqNo}
use Rattle.sp_fork.specs.Jar.{Jar, cookie_of, is_full, made_by, only, redeemable, is_kind, with_next, without}
use Rattle.sp_fork.specs.declared.unused.CookieKind.TheVariants as kind
use Rattle.sp_fork.specs.declared.unused.Unused.{Unused}
use Rattle.sp_frames.specs.declared.frame.Body.TheVariants as body
use Rattle.sp_frames.specs.declared.frame.Frame.{Frame}
use Rattle.sp_frames.specs.declared.version.Version.{Version}
use Rattle.kern_model.specs.Journal.{state_after}
use Rattle.kern_model.specs.Outcome.{success}
use Rattle.kern_model.specs.declared.journal.Entry.{Entry}
use Rattle.kern_model.specs.declared.journal.Who.TheVariants.{Request}
use Rattle.kern_model.specs.declared.operation.Op.TheVariants.{Exec}
use Rattle.hub_model.specs.Cookies.{Ledger, handing, ledger_of, next_cookie, take_all_back, take_back_each, with_ledger}
use Rattle.hub_model.specs.Ends.{end_at, exited}
use Rattle.hub_model.specs.Frames.{exec_ready, imaged}
use Rattle.hub_model.specs.Journal.{nothing_read}
use Rattle.hub_model.specs.Machine.{played, is_new}
use Rattle.hub_model.specs.Requests.{frame_at, frame_by, image, left_at, left_over}
use Rattle.hub_model.specs.State.{Connection, Machine, Played, fresh_connection, with_connection}
use Rattle.hub_model.specs.Verdict.{verdict_of}
use Rattle.hub_model.specs.Work.{take_at}
use Rattle.hub_model.specs.declared.event.Event.TheVariants as event
use Rattle.hub_model.specs.declared.event.Finish.TheVariants.{Clean}
use Rattle.hub_model.specs.declared.event.Reply.TheVariants as reply
use Rattle.hub_model.specs.declared.handover.Handover.{Handover}
use Rattle.hub_model.specs.declared.handover.Handover.TheVariants.{Imaged, Readied}
use Rattle.hub_model.specs.declared.state.Condition.TheVariants.{InExec, Live}
use Rattle.hub_model.specs.declared.state.OpenCall.{OpenCall}
use Rattle.hub_model.specs.declared.verdict.Verdict.{Verdict}
use Rattle.hub_model.specs.declared.verdict.Verdict.TheVariants as verdict
use Rattle.tables.proofs.Entries.{again}
use Rattle.tables.proofs.Maps.{get_gone, get_gone_other, get_put, get_put_other}
use Rattle.client_model.specs.Fitness.{may_come}
use Rattle.client_model.specs.Machine.{frame_if, take_in, played as client_played}
use Rattle.client_model.specs.Requests.{collect_at, is_busy, start_by}
use Rattle.client_model.specs.State as client_state
use Rattle.client_model.specs.State.{Open, Client, fresh_client, fresh_request, hello_frame, request_frame}
use Rattle.client_model.specs.declared.event.Event.TheVariants as client_event
use Rattle.client_model.specs.declared.event.Hello.TheVariants.{Image}
use Rattle.client_model.specs.declared.event.Reply.TheVariants as client_reply
use Rattle.client_model.specs.declared.request.Ending.{Ending}
use Rattle.client_model.specs.declared.request.Request.{Request as Asks}
use Rattle.client_model.specs.declared.request.Request.TheVariants as request
use Rattle.client_model.specs.declared.request.Response.{Response}
use Rattle.client_model.specs.declared.request.Response.TheVariants as response
use Rattle.link_model.specs.Asked.{IsWhole, idle}
use Rattle.link_model.specs.Going.{Going, HasGoneOn, asking, asking_number, collecting_cookie, collecting_process, first_number, gone_on, greeted, opened, readied}
use Rattle.link_model.specs.Link.{Link, made, carried, sent, server_plays, server_hands, client_plays}
use Rattle.link_model.specs.declared.moves.Move.TheVariants.{ToServer, ToClient}

-- ---- maps and cookies

same : (n : ℕ) → (n == n) ≡ true
same n = grind (arith, nat_tests)

above : (n : ℕ) → nat_le (n + 1) n ≡ false
above n = grind (arith, nat_tests)

taken_at : {X : Type 0} (b : Bool) (v : X) (o gone : Option X) → o ≡ gone → None ≡ gone → cond b None (cond b (Some v) o) ≡ gone
taken_at true v o gone there absent = absent
taken_at false v o gone there absent = there

-- what is put into an empty map and taken away leaves it empty
pub taken : {X : Type 0} (m : FinMap nat_cmp X) (k : ℕ) (v : X) → m ≡ empty → remove (insert m k v) k ≡ empty
taken {X = X} m k v none = same_map nat_cmp_total nat_cmp-IsAntisymmetric _ _ (λ q.
    get-remove nat_cmp_total (insert m k v) k q
    ∙ ap (λ o. cond (eq_by_cmp nat_cmp q k) None o) (get-insert nat_cmp_total m k v q)
    ∙ taken_at (eq_by_cmp nat_cmp q k) v (get m q) (get (empty {X = X} {R = nat_cmp}) q)
    (ap (λ (n : FinMap nat_cmp X). get n q) none) (sym (get-empty nat_cmp q)))

no_length : {X : Type 0} (xs : List X) → length xs ≡ 0 → xs ≡ []
no_length [] e = refl
no_length (x ∷ xs) e = absurd (omega arith)

-- no connection made a cookie where none is unused
none_made : (jar : Jar) (c : ConnNo) → jar.unused ≡ empty → made_by jar c ≡ []
none_made jar c none =
    ap (λ (unused : FinMap nat_cmp Unused). map cookie_of (filter (λ e. e.1.maker.0 == c.0) (entries unused))) none
    ∙ ap (λ (es : List (ℕ × Unused)). map cookie_of (filter (λ e. e.1.maker.0 == c.0) es))
    (no_length (entries empty) (sym (len-entries empty) ∙ len-empty nat_cmp Unused))

-- then a connection takes none back
pub none_back : (l : Ledger) (c : ConnNo) → l.cookies.unused ≡ empty → take_all_back l c ≡ l
none_back l c none = ap (λ (cookies : List Cookie). take_back_each l c cookies) (none_made l.cookies c none)

-- ---- the server

-- a server that goes on, with these parts
abbrev server_with : Machine → List Entry → FinMap nat_cmp Connection → Jar → List Handover → Option ℕ → Machine
server_with m journal connections cookies handovers highest = record {
  version = m.version;
  journal = journal;
  connections = connections;
  cookies = cookies;
  handovers = handovers;
  opened = highest;
  halted = false;
}

-- a connection in exec
abbrev in_exec : Pid → ℕ → List Frame → Connection
in_exec pid last queue = record { condition = InExec pid; last = last + 1; calls = empty; queue = queue }

-- a connection that greeted as the process's next program
abbrev going_on : Pid → ℕ → Connection
going_on pid place = record { condition = Live pid; last = 1; calls = empty; queue = imaged first_number pid place ∷ [] }

-- the entry of the exec
abbrev entry_with : Pid → ConnNo → Entry
entry_with pid d = record { pid = pid; who = Request d first_number; op = Exec; ins = nothing_read; outcome = success 0 }

module _ (m : Machine) (c d : ConnNo) (pid : Pid) (last salt : ℕ) (name : List ℕ) where
  abbrev offered : Unused
  offered = handing pid c salt kind.Exec

  abbrev cookie : Cookie
  cookie = next_cookie m.cookies salt

  abbrev jar : Jar
  jar = with_next m.cookies offered

  abbrev spent : Jar
  spent = record { unused = remove (insert m.cookies.unused (m.cookies.given + 1) offered) (m.cookies.given + 1); given = m.cookies.given + 1 }

  abbrev noted : List Handover
  noted = Readied (m.cookies.given + 1) c ∷ m.handovers

  abbrev cookie_frame : Frame
  cookie_frame = exec_ready (record { 0 = last + 1 }) cookie

  abbrev before : Machine
  before = server_with m m.journal m.connections m.cookies m.handovers m.opened

  abbrev answering : Machine
  answering = server_with m m.journal (insert m.connections c.0 (in_exec pid last (cookie_frame ∷ []))) jar noted m.opened

  abbrev waiting : Machine
  waiting = server_with m m.journal (insert m.connections c.0 (in_exec pid last [])) jar noted m.opened

  abbrev both : FinMap nat_cmp Connection
  both = insert (insert m.connections c.0 (in_exec pid last [])) d.0 fresh_connection

  abbrev opening : Machine
  opening = server_with m m.journal both jar noted (Some d.0)

  abbrev left : Connection
  left = left_over (in_exec pid last [])

  abbrev moved_to : Connection → Machine
  moved_to x = server_with m (m.journal ++ entry_with pid d ∷ []) (insert (insert both c.0 left) d.0 x) spent (Imaged d (m.cookies.given + 1) ∷ noted) (Some d.0)

  abbrev alone : Machine
  alone = server_with m (m.journal ++ entry_with pid d ∷ []) (remove (insert (insert both c.0 left) d.0 (idle pid 1)) c.0) spent
      (Imaged d (m.cookies.given + 1) ∷ noted) (Some d.0)

  abbrev asks : Frame
  asks = request_frame (last + 1) body.Preexec

  abbrev greets : Frame
  greets = hello_frame (Image cookie name)

  ready_verdict : is_full m.cookies ≡ false → verdict_of (state_after m.journal) m.cookies c (idle pid last) asks ≡ verdict.Ready
  ready_verdict room = rw (above last, len-empty nat_cmp OpenCall, room) refl

  readies : get m.connections c.0 ≡ Some (idle pid last) → is_full m.cookies ≡ false → played true before (event.Frame c asks salt) ≡ (reply.Done, answering)
  readies speaks room =
      ap (λ (o : Option Connection). frame_at before c asks salt o) speaks
      ∙ ap (λ (v : Verdict). frame_by v before c (idle pid last) asks salt) (ready_verdict room)

  gives_cookie : played true answering (event.Take c) ≡ (reply.Out cookie_frame, waiting)
  gives_cookie =
      let x = in_exec pid last (cookie_frame ∷ []) in
      ap (λ (o : Option Connection). take_at answering c o) (get_put m.connections c.0 x)
      ∙ ap (λ (cs : FinMap nat_cmp Connection). (reply.Out cookie_frame, record waiting { connections = cs }))
      (again m.connections (insert m.connections c.0 x) c.0 x (in_exec pid last []) refl)

  opens : is_new m.opened d.0 ≡ true → played true waiting (event.Opened d) ≡ (reply.Nothing, opening)
  opens new = rw new refl

  redeems : redeemable jar cookie kind.Exec ≡ Some offered
  redeems =
      ap (λ (o : Option Unused). only (λ x. is_kind x.kind kind.Exec) (only (λ x. x.salt == salt) o)) (get_put m.cookies.unused (m.cookies.given + 1) offered)
      ∙ ap (λ (b : Bool). only (λ x. is_kind x.kind kind.Exec) (if b then Some offered else None)) (same salt)

  image_verdict : verdict_of (state_after m.journal) jar d fresh_connection greets ≡ verdict.Image cookie
  image_verdict = rw redeems refl

  -- the maker of the cookie is there
  maker_there : c.0 ≢ d.0 → get both c.0 ≡ Some (in_exec pid last [])
  maker_there apart =
      get_put_other (insert m.connections c.0 (in_exec pid last [])) d.0 fresh_connection c.0 apart ∙ get_put m.connections c.0 (in_exec pid last [])

  -- the server once the process moved, by what stands of the cookie and of its maker
  abbrev moved_by : Option Unused → Option Connection → Machine
  moved_by unused maker =
      with_connection (left_at (record opening {
        journal = m.journal ++ entry_with pid d ∷ [];
        cookies = without jar cookie.number unused;
        handovers = Imaged d (m.cookies.given + 1) ∷ noted;
      }) c maker) d (going_on pid (length m.journal))

  moves : c.0 ≢ d.0 → played true opening (event.Frame d greets 0) ≡ (reply.Done, moved_to (going_on pid (length m.journal)))
  moves apart =
      ap (λ (o : Option Connection). frame_at opening d greets 0 o) (get_put (insert m.connections c.0 (in_exec pid last [])) d.0 fresh_connection)
      ∙ ap (λ (v : Verdict). frame_by v opening d fresh_connection greets 0) image_verdict
      ∙ ap (λ (o : Option Unused). image opening d fresh_connection greets cookie o) redeems
      ∙ ap (λ (o : Option Unused). (reply.Done, moved_by o (get both c.0))) redeems
      ∙ ap (λ (o : Option Connection). (reply.Done, moved_by (Some offered) o)) (maker_there apart)

  tells : played true (moved_to (going_on pid (length m.journal))) (event.Take d) ≡ (reply.Out (imaged first_number pid (length m.journal)), moved_to (idle pid 1))
  tells =
      let x = going_on pid (length m.journal) in
      let others = insert both c.0 left in
      ap (λ (o : Option Connection). take_at (moved_to x) d o) (get_put others d.0 x)
      ∙ ap (λ (cs : FinMap nat_cmp Connection). (reply.Out (imaged first_number pid (length m.journal)), record (moved_to x) { connections = cs }))
      (again others (insert others d.0 x) d.0 x (idle pid 1) refl)

  none_unused : m.cookies.unused ≡ empty → spent.unused ≡ empty
  none_unused none = taken m.cookies.unused (m.cookies.given + 1) offered none

  ends : c.0 ≢ d.0 → m.cookies.unused ≡ empty → played true (moved_to (idle pid 1)) (event.Ended c Clean) ≡ (reply.Nothing, alone)
  ends apart none =
      let now = moved_to (idle pid 1) in
      ap (λ (o : Option Connection). end_at now c Clean o)
      (get_put_other (insert both c.0 left) d.0 (idle pid 1) c.0 apart ∙ get_put both c.0 left)
      ∙ ap (λ (l : Ledger). (reply.Nothing, record (with_ledger now (exited l c None)) { connections = remove now.connections c.0 }))
      (none_back (ledger_of now) c (none_unused none))

  speaks_on : c.0 ≢ d.0 → get alone.connections d.0 ≡ Some (idle pid 1)
  speaks_on apart =
      get_gone_other (insert (insert both c.0 left) d.0 (idle pid 1)) c.0 d.0 (λ e. apart (sym e)) ∙ get_put (insert both c.0 left) d.0 (idle pid 1)

-- ---- the clients

-- a request that was sent, with its response
abbrev answered_by : Asks → Response → Open
answered_by asks what = record (fresh_request asks []) { response = Some what }

module _ (k : Client) (cookie : Cookie) where
  abbrev sender : List Frame → Client
  sender queue = record {
    version = k.version;
    ready = true;
    last = k.last + 1;
    requests = insert k.requests (k.last + 1) (fresh_request request.Preexec []);
    queue = queue;
    ending = None;
  }

  abbrev holder : Client
  holder = record (sender []) { requests = insert (sender []).requests (k.last + 1) (answered_by request.Preexec (response.ExecReady cookie)) }

  starts : k.ready ≡ true → k.ending ≡ None → is_busy k ≡ false → k.queue ≡ [] → (caller : Caller)
      → client_played k (client_event.Preexec caller) ≡ (client_reply.Started (record { 0 = k.last + 1 }), sender (request_frame (k.last + 1) body.Preexec ∷ []))
  starts ready goes_on free sent caller =
      ap (λ (o : Option Ending). start_by k request.Preexec body.Preexec [] o) goes_on ∙ rw (ready, free, sent, goes_on) refl

  cookie_comes : client_played (sender []) (client_event.Frame (exec_ready (record { 0 = k.last + 1 }) cookie)) ≡ (client_reply.Nothing, holder)
  cookie_comes =
      let f = exec_ready (record { 0 = k.last + 1 }) cookie in
      let there = get_put k.requests (k.last + 1) (fresh_request request.Preexec []) in
      ap (λ (o : Option Open). frame_if (sender []) f (may_come o f.body)) there ∙ ap (λ (o : Option Open). take_in (sender []) f o) there

  cookie_collected : (client_played holder (client_event.Collect (record { 0 = k.last + 1 }))).0 ≡ client_reply.ExecReady cookie
  cookie_collected =
      ap (λ (o : Option Open). (collect_at holder (record { 0 = k.last + 1 }) o).0)
      (get_put (sender []).requests (k.last + 1) (answered_by request.Preexec (response.ExecReady cookie)))

module _ (version : Version) (pid : Pid) (place : ℕ) where
  abbrev requests_with : FinMap nat_cmp Open
  requests_with = insert empty 1 (fresh_request request.Image [])

  abbrev greeter : Client
  greeter = record { version = version; ready = false; last = 1; requests = requests_with; queue = []; ending = None }

  abbrev welcomed : Open
  welcomed = answered_by request.Image (response.Imaged pid (record { 0 = place }))

  abbrev joined : FinMap nat_cmp Open → Client
  joined requests = record { version = version; ready = true; last = 1; requests = requests; queue = []; ending = None }

  joins : client_played greeter (client_event.Frame (imaged first_number pid place)) ≡ (client_reply.Nothing, joined (insert requests_with 1 welcomed))
  joins =
      let f = imaged first_number pid place in
      let there = get_put empty 1 (fresh_request request.Image []) in
      ap (λ (o : Option Open). frame_if greeter f (may_come o f.body)) there ∙ ap (λ (o : Option Open). take_in greeter f o) there

  none_open : remove (insert requests_with 1 welcomed) 1 ≡ empty
  none_open =
      ap (λ (requests : FinMap nat_cmp Open). remove requests 1) (again empty requests_with 1 (fresh_request request.Image []) welcomed refl)
      ∙ taken empty 1 welcomed refl

  collects : client_played (joined (insert requests_with 1 welcomed)) (client_event.Collect first_number)
      ≡ (client_reply.Joined pid (Some (record { 0 = place })), joined empty)
  collects =
      let k = joined (insert requests_with 1 welcomed) in
      ap (λ (o : Option Open). collect_at k first_number o) (get_put requests_with 1 welcomed)
      ∙ ap (λ (requests : FinMap nat_cmp Open). (client_reply.Joined pid (Some (record { 0 = place })), joined requests)) none_open

  may_start : is_busy (joined empty) ≡ false
  may_start = rw (len-empty nat_cmp Open) refl

-- ---- the link

module _ (g : Going) where
  abbrev m : Machine
  m = g.link.server

  abbrev pid : Pid
  pid = g.whole.pid

  abbrev last : ℕ
  last = g.link.client.last

  abbrev place : ℕ
  place = length g.link.server.journal

  -- the client has asked for the cookie
  pub asks_cookie : asking g ≡ (client_reply.Started (asking_number g), sender g.link.client (next_cookie m.cookies g.salt) (request_frame (last + 1) body.Preexec ∷ []))
  asks_cookie = starts g.link.client (next_cookie m.cookies g.salt) g.whole.ready g.whole.goes_on g.whole.free g.whole.sent g.caller

  abbrev asker : List Frame → Client
  asker queue = sender g.link.client (next_cookie m.cookies g.salt) queue

  abbrev link_ready : Link
  link_ready = record { client = holder g.link.client (next_cookie m.cookies g.salt); server = waiting m g.link.conn g.conn pid last g.salt g.name; conn = g.link.conn }

  request_comes : played true m (event.Frame g.link.conn (request_frame (last + 1) body.Preexec) g.salt) ≡ (reply.Done, answering m g.link.conn g.conn pid last g.salt g.name)
  request_comes =
      ap (λ (h : Bool). played true (record m { halted = h }) (event.Frame g.link.conn (request_frame (last + 1) body.Preexec) g.salt)) g.whole.serves
      ∙ readies m g.link.conn g.conn pid last g.salt g.name g.whole.idle g.room

  is_readied : readied g ≡ link_ready
  is_readied =
      ap (λ (p : client_state.Played). carried (sent (record g.link { client = p.1 }) g.salt).link (ToClient ∷ [])) asks_cookie
      ∙ ap (λ (p : Played). carried (server_plays (record g.link { client = asker [] }) p).link (ToClient ∷ [])) request_comes
      ∙ ap (λ (p : Played). (server_hands (record g.link { client = asker []; server = answering m g.link.conn g.conn pid last g.salt g.name }) p).link)
      (gives_cookie m g.link.conn g.conn pid last g.salt g.name)
      ∙ ap (λ (p : client_state.Played). (client_plays (record link_ready { client = asker [] }) p).link) (cookie_comes g.link.client (next_cookie m.cookies g.salt))

  -- the connection stays until the cookie is used
  pub conn_stays : (readied g).conn ≡ g.link.conn
  conn_stays = ap (λ (l : Link). l.conn) is_readied

  -- who collects the cookie gets it
  pub cookie_given : (collecting_cookie g).0 ≡ client_reply.ExecReady (next_cookie m.cookies g.salt)
  cookie_given =
      ap (λ (l : Link). (client_played l.client (client_event.Collect (asking_number g))).0) is_readied ∙ cookie_collected g.link.client (next_cookie m.cookies g.salt)

  abbrev link_opened : Link
  link_opened = record {
    client = fresh_client g.version (Image (next_cookie m.cookies g.salt) g.name);
    server = opening m g.link.conn g.conn pid last g.salt g.name;
    conn = g.conn;
  }

  is_opened : opened g ≡ link_opened
  is_opened =
      ap (λ (l : Link). record link_opened { server = (played true l.server (event.Opened g.conn)).1 }) is_readied
      ∙ ap (λ (p : Played). record link_opened { server = p.1 }) (opens m g.link.conn g.conn pid last g.salt g.name g.new)

  abbrev link_greeted : Link
  link_greeted = record {
    client = joined g.version pid place (insert (requests_with g.version pid place) 1 (welcomed g.version pid place));
    server = moved_to m g.link.conn g.conn pid last g.salt g.name (idle pid 1);
    conn = g.conn;
  }

  is_greeted : greeted g ≡ link_greeted
  is_greeted =
      let k = greeter g.version pid place in
      let told = moved_to m g.link.conn g.conn pid last g.salt g.name (going_on pid place) in
      ap (λ (l : Link). carried l (ToServer ∷ ToClient ∷ [])) is_opened
      ∙ ap (λ (p : Played). carried (server_plays (record link_opened { client = k }) p).link (ToClient ∷ [])) (moves m g.link.conn g.conn pid last g.salt g.name g.apart)
      ∙ ap (λ (p : Played). (server_hands (record { client = k; server = told; conn = g.conn }) p).link) (tells m g.link.conn g.conn pid last g.salt g.name)
      ∙ ap (λ (p : client_state.Played). (client_plays (record link_greeted { client = k }) p).link) (joins g.version pid place)

  -- and is the new one then
  pub conn_moves : (greeted g).conn ≡ g.conn
  conn_moves = ap (λ (l : Link). l.conn) is_greeted

  is_collected : collecting_process g ≡ (client_reply.Joined pid (Some (record { 0 = place })), joined g.version pid place empty)
  is_collected = ap (λ (l : Link). client_played l.client (client_event.Collect first_number)) is_greeted ∙ collects g.version pid place

  -- who collects the handshake gets the process, and the place of its exec
  pub process_given : (collecting_process g).0 ≡ client_reply.Joined pid (Some (record { 0 = place }))
  process_given = ap (λ (p : client_state.Played). p.0) is_collected

  abbrev link_after : Link
  link_after = record { client = joined g.version pid place empty; server = alone m g.link.conn g.conn pid last g.salt g.name; conn = g.conn }

  is_gone_on : gone_on g ≡ link_after
  is_gone_on =
      ap (λ (p : client_state.Played). record (gone_on g) { client = p.1 }) is_collected
      ∙ ap (λ (l : Link). record link_after { server = (played true l.server (event.Ended g.link.conn Clean)).1 }) is_greeted
      ∙ ap (λ (p : Played). record link_after { server = p.1 }) (ends m g.link.conn g.conn pid last g.salt g.name g.apart g.unused)

  -- the process has gone on over a whole link
  pub goes_on : HasGoneOn g (gone_on g)
  goes_on = subst (λ (l : Link). HasGoneOn g l) (sym is_gone_on) (record {
    whole = record {
      ready = refl;
      goes_on = refl;
      free = may_start g.version pid place;
      sent = refl;
      serves = refl;
      pid = pid;
      idle = speaks_on m g.link.conn g.conn pid last g.salt g.name g.apart;
    };
    process = refl;
    last = refl;
    entry = entry_with pid g.conn;
    next = refl;
    grown = refl;
    unused = none_unused m g.link.conn g.conn pid last g.salt g.name g.unused;
    given = refl;
    opened = refl;
    over = get_gone (insert (insert (both m g.link.conn g.conn pid last g.salt g.name) g.link.conn.0 (left m g.link.conn g.conn pid last g.salt g.name)) g.conn.0 (idle pid 1)) g.link.conn.0;
  })
