-- A greeting makes a link whole.
use Rattle.std.proofs.Common.{◌≡◌, ℕ, ◌+◌, true, false, List, [], ◌∷◌, ◌++◌, length, Option, Some, None, refl, sym, ap, subst, ◌∙◌, cond}
use Rattle.std.specs.Prelude.{is_some, IsSome}
use Rattle.std.specs.Ordering.{nat_cmp}
use Rattle.std.specs.Cmp.{nat_cmp_total}
use Rattle.std.specs.FinMap.{FinMap, insert, empty, len, len-insert, len-empty, get-empty}
use Rattle.sp_base.specs.Table.{lowest_unused}
use Rattle.sp_base.specs.declared.limits.TheConstants.{FIRST_PROCESS}
use Rattle.sp_base.specs.declared.names.ConnNo.{ConnNo}
use Rattle.sp_frames.specs.declared.version.Version.{Version}
use Rattle.kern_model.specs.Journal.{state_after, next_entry}
use Rattle.kern_model.specs.Outcome.{success}
use Rattle.kern_model.specs.declared.journal.Entry.{Entry}
use Rattle.kern_model.specs.declared.journal.Who.TheVariants.{Request}
use Rattle.kern_model.specs.declared.operation.Op.TheVariants.{Attach}
use Rattle.hub_model.specs.Frames.{hello}
use Rattle.hub_model.specs.Journal.{nothing_read}
use Rattle.hub_model.specs.Machine.{played, is_new}
use Rattle.hub_model.specs.Requests.{no_process, frame_at, frame_by, attach}
use Rattle.hub_model.specs.State.{Connection, Machine, Played, fresh_connection}
use Rattle.hub_model.specs.Verdict.{verdict_of}
use Rattle.hub_model.specs.Work.{take_at}
use Rattle.hub_model.specs.declared.event.Event.TheVariants as event
use Rattle.hub_model.specs.declared.event.Reply.TheVariants as reply
use Rattle.hub_model.specs.declared.handover.Handover.{Handover}
use Rattle.hub_model.specs.declared.handover.Handover.TheVariants.{Attached}
use Rattle.hub_model.specs.declared.state.Condition.TheVariants.{Live}
use Rattle.hub_model.specs.declared.verdict.Verdict.{Verdict}
use Rattle.hub_model.specs.declared.verdict.Verdict.TheVariants as verdict
use Rattle.tables.proofs.Entries.{again}
use Rattle.tables.proofs.Maps.{get_put}
use Rattle.client_model.specs.Fitness.{may_come}
use Rattle.client_model.specs.Machine.{frame_if, take_in, played as client_played}
use Rattle.client_model.specs.Requests.{is_busy}
use Rattle.client_model.specs.State as client_state
use Rattle.client_model.specs.State.{Open, Client, fresh_client, fresh_request, hello_frame}
use Rattle.client_model.specs.declared.event.Event.TheVariants as client_event
use Rattle.client_model.specs.declared.event.Hello.TheVariants.{Guest}
use Rattle.client_model.specs.declared.event.Reply.TheVariants as client_reply
use Rattle.client_model.specs.declared.request.Request.TheVariants as request
use Rattle.client_model.specs.declared.request.Response.TheVariants as response
use Rattle.link_model.specs.Asked.{idle}
use Rattle.link_model.specs.Greeting.{Greeting, IsGreeted, opened}
use Rattle.link_model.specs.Link.{Link, made, carried, server_plays, server_hands, client_plays}
use Rattle.link_model.specs.declared.moves.Move.TheVariants.{ToServer, ToClient}

-- the server with a journal, with what was done to hand processes over, and with a connection
abbrev server_with : Machine → ConnNo → List Entry → List Handover → Connection → Machine
server_with m c journal handovers x = record {
  version = m.version;
  journal = journal;
  connections = insert m.connections c.0 x;
  cookies = m.cookies;
  handovers = handovers;
  opened = Some c.0;
  halted = false;
}

-- the server once the connection has opened
abbrev server_before : Machine → ConnNo → Machine
server_before m c = server_with m c m.journal m.handovers fresh_connection

-- the connection while the response of the handshake is queued
abbrev greeted : ℕ → Connection
greeted n = record { condition = Live (record { 0 = n }); last = 1; calls = empty; queue = hello (record { 0 = 1 }) n ∷ [] }

-- the entry of the handshake
abbrev entry_with : ConnNo → ℕ → Entry
entry_with c n = record { pid = no_process; who = Request c (record { 0 = 1 }); op = Attach; ins = nothing_read; outcome = success n }

-- the server once the handshake was performed, with the connection
abbrev server_behind : Machine → ConnNo → ℕ → Connection → Machine
server_behind m c n x = server_with m c (m.journal ++ entry_with c n ∷ []) (Attached c (record { 0 = length m.journal }) ∷ m.handovers) x

-- the client while its handshake is under way
abbrev greeter : Version → Client
greeter version = record {
  version = version;
  ready = false;
  last = 1;
  requests = insert empty 1 (fresh_request request.Attach []);
  queue = [];
  ending = None;
}

-- the client's request with its response
abbrev joined : ℕ → Open
joined n = record { request = request.Attach; delivery = record { mem = []; whole = true }; asked = []; response = Some (response.Joined (record { 0 = n })) }

-- the client that was greeted
abbrev guest : Version → ℕ → Client
guest version n = record {
  version = version;
  ready = true;
  last = 1;
  requests = insert (insert empty 1 (fresh_request request.Attach [])) 1 (joined n);
  queue = [];
  ending = None;
}

-- ---- the server

opens : (m : Machine) (c : ConnNo) → m.halted ≡ false → is_new m.opened c.0 ≡ true → (played true m (event.Opened c)).1 ≡ server_before m c
opens m c serves new = rw (serves, new) refl

module _ (m : Machine) (c : ConnNo) (n : ℕ) (low : lowest_unused (state_after m.journal).processes FIRST_PROCESS ≡ Some n) (name : List ℕ) where
  attaches : verdict_of (state_after m.journal) m.cookies c fresh_connection (hello_frame (Guest name)) ≡ verdict.Attach
  attaches = rw low refl

  next : next_entry m.journal no_process (Request c (record { 0 = 1 })) Attach nothing_read ≡ Some (entry_with c n)
  next = rw low refl

  greets : played true (server_before m c) (event.Frame c (hello_frame (Guest name)) 0) ≡ (reply.Done, server_behind m c n (greeted n))
  greets =
      let old = server_before m c in
      let f = hello_frame (Guest name) in
      ap (λ (o : Option Connection). frame_at old c f 0 o) (get_put m.connections c.0 fresh_connection)
      ∙ ap (λ (v : Verdict). frame_by v old c fresh_connection f 0) attaches
      ∙ ap (λ (o : Option Entry). attach old c fresh_connection f o) next
      ∙ ap (λ (cs : FinMap nat_cmp Connection). (reply.Done, record (server_behind m c n (greeted n)) { connections = cs }))
      (again m.connections (insert m.connections c.0 fresh_connection) c.0 fresh_connection (greeted n) refl)

  tells : played true (server_behind m c n (greeted n)) (event.Take c) ≡ (reply.Out (hello (record { 0 = 1 }) n), server_behind m c n (idle (record { 0 = n }) 1))
  tells =
      ap (λ (o : Option Connection). take_at (server_behind m c n (greeted n)) c o) (get_put m.connections c.0 (greeted n))
      ∙ ap (λ (cs : FinMap nat_cmp Connection). (reply.Out (hello (record { 0 = 1 }) n), record (server_behind m c n (greeted n)) { connections = cs }))
      (again m.connections (insert m.connections c.0 (greeted n)) c.0 (greeted n) (idle (record { 0 = n }) 1) refl)

-- ---- the client

joins : (version : Version) (n : ℕ) → client_played (greeter version) (client_event.Frame (hello (record { 0 = 1 }) n)) ≡ (client_reply.Nothing, guest version n)
joins version n =
    let k = greeter version in
    let f = hello (record { 0 = 1 }) n in
    let there = get_put empty 1 (fresh_request request.Attach []) in
    ap (λ (o : Option Open). frame_if k f (may_come o f.body)) there ∙ ap (λ (o : Option Open). take_in k f o) there

one_request : (x y : Open) → len (insert (insert (empty {X = Open} {R = nat_cmp}) 1 x) 1 y) ≡ 1
one_request x y = ap (λ (requests : FinMap nat_cmp Open). len requests) (again empty (insert empty 1 x) 1 x y refl)
    ∙ len-insert nat_cmp_total empty 1 y
    ∙ ap (λ (o : Option Open). cond (is_some o) (len (empty {X = Open} {R = nat_cmp})) (len (empty {X = Open} {R = nat_cmp}) + 1)) (get-empty nat_cmp 1)
    ∙ ap (λ (k : ℕ). k + 1) (len-empty nat_cmp Open)

may_start : (version : Version) (n : ℕ) → is_busy (guest version n) ≡ false
may_start version n = rw (one_request (fresh_request request.Attach []) (joined n)) refl

-- ---- the link

-- the two moves of a greeting
abbrev both : Link → Link
both link = carried link (ToServer ∷ ToClient ∷ [])

module _ (version : Version) (m : Machine) (c : ConnNo) (n : ℕ) (low : lowest_unused (state_after m.journal).processes FIRST_PROCESS ≡ Some n) (name : List ℕ) where
  abbrev first : Link
  first = record { client = fresh_client version (Guest name); server = server_before m c; conn = c }

  abbrev last : Link
  last = record { client = guest version n; server = server_behind m c n (idle (record { 0 = n }) 1); conn = c }

  moved : both first ≡ last
  moved =
      ap (λ (p : Played). (made (server_plays (record first { client = greeter version }) p).link ToClient).link) (greets m c n low name)
      ∙ ap (λ (p : Played). (server_hands (record { client = greeter version; server = server_behind m c n (greeted n); conn = c }) p).link) (tells m c n low name)
      ∙ ap (λ (p : client_state.Played). (client_plays (record last { client = greeter version }) p).link) (joins version n)

-- ---- every greeting

greeted_by : (g : Greeting) (lowest : Option ℕ) → lowest_unused (state_after g.server.journal).processes FIRST_PROCESS ≡ lowest → IsSome lowest → IsGreeted g (both (opened g))
greeted_by g None low room = absurd cc
greeted_by g (Some n) low room =
    let c = g.conn in
    let begins : opened g ≡ first g.version g.server c n low g.name
    = ap (λ (m : Machine). record (first g.version g.server c n low g.name) { server = m }) (opens g.server c g.serves g.new) in
    subst (λ (l : Link). IsGreeted g l) (sym (ap both begins ∙ moved g.version g.server c n low g.name)) (record {
      whole = record {
        ready = refl;
        goes_on = refl;
        free = may_start g.version n;
        sent = refl;
        serves = refl;
        pid = record { 0 = n };
        idle = get_put g.server.connections c.0 (idle (record { 0 = n }) 1);
      };
      entry = entry_with c n;
      next = next g.server c n low g.name;
      grown = refl;
      process = refl;
      conn = refl;
      opened = refl;
      cookies = refl;
      last = refl;
    })

-- a greeting that is carried over makes the link whole
pub greeting_carried : (g : Greeting) → IsGreeted g (both (opened g))
greeting_carried g = greeted_by g (lowest_unused (state_after g.server.journal).processes FIRST_PROCESS) refl g.room
