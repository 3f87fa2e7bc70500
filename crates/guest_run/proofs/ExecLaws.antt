-- How a guest's process goes on as its next program.
use Rattle.std.proofs.Common.{◌≡◌, ◌≢◌, ℕ, ◌+◌, ◌<◌, ◌^◌, true, false, List, [], ◌∷◌, length, Option, Some, None, refl, sym, ap, subst, ◌∙◌, arith}
use Rattle.std.proofs.lemmas.Bool.Decides.{nat_tests}
use Rattle.std.proofs.lemmas.Grind.{common_steps}
use Rattle.std.specs.Ordering.{nat_cmp}
use Rattle.std.specs.FinMap.{FinMap, empty, len, len-empty}
use Rattle.std.specs.Prelude.{nat_lt}
use Rattle.sp_base.specs.declared.names.ConnNo.{ConnNo}
use Rattle.sp_base.specs.declared.names.Cookie.{Cookie}
use Rattle.sp_base.specs.declared.names.Pid.{Pid}
use Rattle.sp_base.specs.declared.names.Place.{Place}
use Rattle.sp_base.specs.declared.names.ReqNo.{ReqNo}
use Rattle.sp_fork.specs.Jar.{Jar, is_full}
use Rattle.sp_fork.specs.declared.unused.Unused.{Unused}
use Rattle.sp_frames.specs.declared.version.Version.TheVariants.{Four}
use Rattle.kern_model.specs.Journal.{next_entry}
use Rattle.kern_model.specs.declared.journal.Entry.{Entry}
use Rattle.kern_model.specs.declared.operation.Op.TheVariants.{Exec}
use Rattle.hub_model.specs.Journal.{nothing_read}
use Rattle.hub_model.specs.Machine as server
use Rattle.hub_model.specs.Machine.{is_new}
use Rattle.hub_model.specs.State.{Machine}
use Rattle.hub_model.specs.declared.event.Event.TheVariants as server_event
use Rattle.hub_model.specs.declared.event.Finish.TheVariants.{Clean}
use Rattle.hub_model.specs.declared.event.Reply.{Reply as ServerReply}
use Rattle.client_model.specs.Machine as client
use Rattle.client_model.specs.State.{Client, Played, fresh_client}
use Rattle.client_model.specs.declared.event.Event.TheVariants as client_event
use Rattle.client_model.specs.declared.event.Hello.TheVariants.{Image}
use Rattle.client_model.specs.declared.event.Reply.{Reply}
use Rattle.client_model.specs.declared.event.Reply.TheVariants as reply
use Rattle.link_model.specs.Going.{Going, HasGoneOn, asking, asking_number, collecting_process, cookie_of, first_number, gone_on, greeted, opened, readied}
use Rattle.link_model.specs.Link.{Link, Made, made, sent}
use Rattle.link_model.specs.declared.moves.Move.TheVariants.{ToServer, ToClient}
use Rattle.link_model.proofs.Goes.{asks_cookie, conn_moves, conn_stays, cookie_given, goes_on, process_given}
use Rattle.guest_run.specs.Guest.{HasExeced, IsAtRest, request, key_beyond, last_key}
use Rattle.guest_run.specs.Joined.{IsPlayed, link_of, next_connection}
use Rattle.guest_run.specs.declared.joined.Joined.{Joined}

-- ---- a guest at rest may go on

pub has_room : (jar : Jar) → jar.unused ≡ empty → jar.given < 2 ^ 32 → is_full jar ≡ false
has_room jar none small =
    let few : len jar.unused ≡ 0 = ap (λ (unused : FinMap nat_cmp Unused). len unused) none ∙ len-empty nat_cmp Unused in
    grind (arith, nat_tests, common_steps)

pub higher : (n : ℕ) → nat_lt n (n + 1) ≡ true
higher n = grind (arith, nat_tests)

pub small_given : (given conn bound : ℕ) → given ≡ conn → conn < bound → bound < 2 ^ 32 → given < 2 ^ 32
small_given given conn bound is few small = omega (arith, is, few, small)

-- the process of a guest at rest goes on with a salt, under a name, over the next connection
abbrev pub going_of : (old : Joined) (pid : Pid) (bound salt : ℕ) (name : List ℕ) → bound < 2 ^ 32 → IsAtRest old pid bound → Going
going_of old pid bound salt name small rest = record {
  link = link_of old;
  whole = rest.whole;
  unused = rest.unused;
  room = has_room old.hub.cookies rest.unused (small_given old.hub.cookies.given old.conn.0 bound rest.given rest.few small);
  caller = record { 0 = 0 };
  salt = salt;
  version = Four;
  name = name;
  conn = next_connection old.conn;
  new = ap (λ (o : Option ℕ). is_new o (old.conn.0 + 1)) rest.opened ∙ higher old.conn.0;
  apart = λ e. omega (arith, e);
}

-- ---- the steps

-- the client has asked for the cookie
pub asked : (g : Going) (old now : Joined) (answer : Reply) → link_of old ≡ g.link → IsPlayed old (client_event.Preexec g.caller) answer now
    → (answer ≡ reply.Started (asking_number g)) × (link_of now ≡ record g.link { client = (asking g).1 })
asked g old now answer over start =
    let p : (answer, now.client) ≡ asking g = start.client ∙ ap (λ (l : Link). client.played l.client (client_event.Preexec g.caller)) over in (
      ap (λ (q : Played). q.0) (p ∙ asks_cookie g),
      ap (λ (q : Played). record (link_of now) { client = q.1 }) p
          ∙ ap (λ (m : Machine). record (link_of now) { client = (asking g).1; server = m }) start.server
          ∙ ap (λ (c : ConnNo). record (link_of old) { client = (asking g).1; conn = c }) start.conn
          ∙ ap (λ (l : Link). record l { client = (asking g).1 }) over,
    )

-- the request was carried over with the salt, and the response back
pub is_readied : (g : Going) (a b c : Joined) (up : Option ServerReply) (down : Option Reply) → link_of a ≡ record g.link { client = (asking g).1 }
    → sent (link_of a) g.salt ≡ record { link = link_of b; server = up; client = None }
    → made (link_of b) ToClient ≡ record { link = link_of c; server = None; client = down } → link_of c ≡ readied g
is_readied g a b c up down place comes told =
    sym (ap (λ (m : Made). m.link) told)
    ∙ ap (λ (l : Link). (made l ToClient).link) (sym (ap (λ (m : Made). m.link) comes) ∙ ap (λ (l : Link). (sent l g.salt).link) place)

-- who collects the cookie gets it
pub cookie_is : (g : Going) (r : ReqNo) (old now : Joined) (answer : Reply) → link_of old ≡ readied g → r ≡ asking_number g
    → IsPlayed old (client_event.Collect r) answer now → answer ≡ reply.ExecReady (cookie_of g)
cookie_is g r old now answer place number collect =
    ap (λ (p : Played). p.0) (collect.client
    ∙ ap (λ (q : ReqNo). client.played old.client (client_event.Collect q)) number
    ∙ ap (λ (l : Link). client.played l.client (client_event.Collect (asking_number g))) place)
    ∙ cookie_given g

-- a request that started under a number is that of the number
pub number_is : (r q : ReqNo) → reply.Started r ≡ reply.Started q → r ≡ q
number_is r q h = cc

-- a cookie that was given is the one that was made
pub ready_is : (a b : Cookie) → reply.ExecReady a ≡ reply.ExecReady b → a ≡ b
ready_is a b h = cc

-- the connection that is left
pub left_is : (g : Going) (r : ReqNo) (old now : Joined) (answer : Reply) → link_of old ≡ readied g → IsPlayed old (client_event.Collect r) answer now
    → now.conn ≡ g.link.conn
left_is g r old now answer place collect = collect.conn ∙ ap (λ (l : Link). l.conn) place ∙ conn_stays g

-- its number is not the last one
pub few_left : (g : Going) (bound : ℕ) (now : Joined) → now.conn ≡ g.link.conn → g.link.conn.0 < bound → bound < 2 ^ 32 → now.conn.0 + 1 < 2 ^ 32
few_left g bound now same few small = let number : now.conn.0 ≡ g.link.conn.0 = ap (λ (c : ConnNo). c.0) same in omega (arith, number, few, small)

-- the next connection has opened
pub is_opened : (g : Going) (r : ReqNo) (cookie : Cookie) (name : List ℕ) (old now next : Joined) (answer : Reply) → link_of old ≡ readied g
    → IsPlayed old (client_event.Collect r) answer now → cookie ≡ cookie_of g → name ≡ g.name → g.version ≡ Four → g.conn ≡ next_connection g.link.conn
    → next.client ≡ fresh_client Four (Image cookie name) → next.hub ≡ (server.played true now.hub (server_event.Opened (next_connection now.conn))).1
    → next.conn ≡ next_connection now.conn → link_of next ≡ opened g
is_opened g r cookie name old now next answer place collect cookie_same named version conn client hub moves =
    let left = left_is g r old now answer place collect in
    let goes : next_connection now.conn ≡ g.conn = ap next_connection left ∙ sym conn in
    let served : now.hub ≡ (readied g).server = collect.server ∙ ap (λ (l : Link). l.server) place in
    let begins : next.client ≡ (opened g).client =
    client ∙ ap (λ (k : Cookie). fresh_client Four (Image k name)) cookie_same ∙ ap (λ (n : List ℕ). fresh_client Four (Image (cookie_of g) n)) named
    ∙ ap (λ v. fresh_client v (Image (cookie_of g) g.name)) (sym version) in
    let opens : next.hub ≡ (opened g).server =
    hub ∙ ap (λ (m : Machine). (server.played true m (server_event.Opened (next_connection now.conn))).1) served
    ∙ ap (λ (c : ConnNo). (server.played true (readied g).server (server_event.Opened c)).1) goes in
    ap (λ (k : Client). record (link_of next) { client = k }) begins
    ∙ ap (λ (m : Machine). record (link_of next) { client = (opened g).client; server = m }) opens
    ∙ ap (λ (c : ConnNo). record (opened g) { conn = c }) (moves ∙ goes)

-- the handshake was carried over, and the response back
pub is_greeted : (g : Going) (a b c : Joined) (up : Option ServerReply) (down : Option Reply) → link_of a ≡ opened g
    → made (link_of a) ToServer ≡ record { link = link_of b; server = up; client = None }
    → made (link_of b) ToClient ≡ record { link = link_of c; server = None; client = down } → link_of c ≡ greeted g
is_greeted g a b c up down place comes told =
    sym (ap (λ (m : Made). m.link) told)
    ∙ ap (λ (l : Link). (made l ToClient).link) (sym (ap (λ (m : Made). m.link) comes) ∙ ap (λ (l : Link). (made l ToServer).link) place)

collects : (g : Going) (old now : Joined) (answer : Reply) → link_of old ≡ greeted g → IsPlayed old (client_event.Collect first_number) answer now
    → (answer, now.client) ≡ collecting_process g
collects g old now answer place collect = collect.client ∙ ap (λ (l : Link). client.played l.client (client_event.Collect first_number)) place

-- who collects the handshake gets the process and the place of its exec
pub process_is : (g : Going) (old now : Joined) (answer : Reply) → link_of old ≡ greeted g → IsPlayed old (client_event.Collect first_number) answer now
    → answer ≡ reply.Joined g.whole.pid (Some (record { 0 = length g.link.server.journal }))
process_is g old now answer place collect = ap (λ (p : Played). p.0) (collects g old now answer place collect) ∙ process_given g

-- the connection that was left has ended
pub is_gone_on : (g : Going) (old now : Joined) (answer : Reply) (ends : ServerReply) (left : ConnNo) (hub : Machine) → link_of old ≡ greeted g
    → IsPlayed old (client_event.Collect first_number) answer now → left ≡ g.link.conn
    → (ends, hub) ≡ server.played true now.hub (server_event.Ended left Clean)
    → record (link_of now) { server = hub } ≡ gone_on g
is_gone_on g old now answer ends left hub place collect is plays =
    let served : now.hub ≡ (greeted g).server = collect.server ∙ ap (λ (l : Link). l.server) place in
    let over : hub ≡ (gone_on g).server =
    ap (λ (p : ServerReply × Machine). p.1) plays
    ∙ ap (λ (m : Machine). (server.played true m (server_event.Ended left Clean)).1) served
    ∙ ap (λ (c : ConnNo). (server.played true (greeted g).server (server_event.Ended c Clean)).1) is in
    ap (λ (p : Played). record (link_of now) { client = p.1; server = hub }) (collects g old now answer place collect)
    ∙ ap (λ (m : Machine). record (link_of now) { client = (gone_on g).client; server = m }) over
    ∙ ap (λ (c : ConnNo). record (gone_on g) { conn = c }) (collect.conn ∙ ap (λ (l : Link). l.conn) place ∙ conn_moves g)

-- ---- what has come of it

-- a reply that has no place isn't one with a place
pub place_there : (pid other : Pid) (there : Option Place) (place : Place) (answer : Reply) → answer ≡ reply.Joined pid there → answer ≡ reply.Joined other (Some place) → there ≡ Some place
place_there pid other there place answer is gave = let both : reply.Joined pid there ≡ reply.Joined other (Some place) = sym is ∙ gave in cc

-- a reply with a place
pub joined_with : (pid : Pid) (there : Option Place) (place : Place) (answer : Reply) → answer ≡ reply.Joined pid there → there ≡ Some place → answer ≡ reply.Joined pid (Some place)
joined_with pid there place answer is at = is ∙ ap (λ (o : Option Place). reply.Joined pid o) at

place_is : (pid other : Pid) (place : Place) (n : ℕ) → reply.Joined pid (Some place) ≡ reply.Joined other (Some (record { 0 = n })) → place.0 ≡ n
place_is pid other place n h = ap place_in h
  where
    place_in : Reply → ℕ
    place_in (reply.Joined p (Some at)) = at.0
    place_in _ = n

-- the process has gone on
pub execed : (old new : Joined) (pid : Pid) (bound salt : ℕ) (name : List ℕ) (small : bound < 2 ^ 32) (rest : IsAtRest old pid bound) (given : Pid) (place : Place) (answer : Reply)
    → link_of new ≡ gone_on (going_of old pid bound salt name small rest)
    → answer ≡ reply.Joined rest.whole.pid (Some (record { 0 = length old.hub.journal })) → answer ≡ reply.Joined given (Some place)
    → HasExeced old pid bound place new
execed old new pid bound salt name small rest given place answer is gave joined =
    let g = going_of old pid bound salt name small rest in
    let gone : HasGoneOn g (link_of new) = subst (λ (l : Link). HasGoneOn g l) (sym is) (goes_on g) in
    let conn : new.conn ≡ next_connection old.conn = ap (λ (l : Link). l.conn) is in
    let number : new.conn.0 ≡ old.conn.0 + 1 = ap (λ (c : ConnNo). c.0) conn in
    let few = rest.few in
    let last = gone.last in
    record {
      entry = gone.entry;
      next = subst (λ (p : Pid). next_entry old.hub.journal p (request (key_beyond (last_key old))) Exec nothing_read ≡ Some gone.entry) rest.process gone.next;
      grown = gone.grown;
      at = place_is given rest.whole.pid place (length old.hub.journal) (sym joined ∙ gave);
      rest = record {
        whole = gone.whole;
        process = gone.process ∙ rest.process;
        opened = gone.opened ∙ ap (λ (n : ℕ). Some n) (sym number);
        unused = gone.unused;
        given = gone.given ∙ ap (λ (n : ℕ). n + 1) rest.given ∙ sym number;
        few = omega (arith, number, few);
        low = omega (arith, last, few);
      };
      key = ap (λ (c : ConnNo). record { conn = c; number = record { 0 = new.client.last } }) conn
          ∙ ap (λ (n : ℕ). record { conn = next_connection old.conn; number = record { 0 = n } }) gone.last;
    }
