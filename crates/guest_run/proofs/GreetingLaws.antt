-- How a guest and its server meet, and how they part.
use Rattle.std.proofs.Common.{◌≡◌, ℕ, true, List, [], ◌∷◌, Option, None, Some, arith, refl, sym, ap, subst, ◌∙◌}
use Rattle.sp_base.specs.declared.names.ConnNo.{ConnNo}
use Rattle.sp_base.specs.declared.names.Pid.{Pid}
use Rattle.sp_fork.specs.Jar.{Jar}
use Rattle.sp_frames.specs.declared.version.Version.TheVariants.{Four}
use Rattle.std.specs.Prelude.{if◌then◌else◌}
use Rattle.kern_model.specs.Outcome.{success}
use Rattle.kern_model.specs.declared.journal.Entry.{Entry}
use Rattle.kern_model.specs.declared.journal.Who.TheVariants.{End}
use Rattle.kern_model.specs.declared.operation.Op.TheVariants.{Exit}
use Rattle.hub_model.specs.Cookies.{Ledger, ledger_of}
use Rattle.hub_model.specs.Ends.{end_at, exited}
use Rattle.hub_model.specs.Journal.{nothing_read}
use Rattle.hub_model.specs.Machine as server
use Rattle.hub_model.specs.State.{Machine, Played, fresh_machine}
use Rattle.hub_model.specs.declared.event.Event.TheVariants as server_event
use Rattle.hub_model.specs.declared.event.Finish.TheVariants.{Clean}
use Rattle.hub_model.specs.declared.event.Reply.{Reply as ServerReply}
use Rattle.hub_model.specs.declared.event.Reply.TheVariants as server_reply
use Rattle.client_model.specs.State.{Client, fresh_client}
use Rattle.client_model.specs.declared.event.Hello.TheVariants.{Guest}
use Rattle.client_model.specs.declared.event.Reply.{Reply as ClientReply}
use Rattle.link_model.specs.Greeting as meeting
use Rattle.link_model.specs.Greeting.{Greeting, opened}
use Rattle.link_model.specs.Link.{Link, Made, carried, made}
use Rattle.link_model.specs.declared.moves.Move.TheVariants.{ToClient, ToServer}
use Rattle.link_model.proofs.Goes.{none_back}
use Rattle.link_model.proofs.Greets.{greeting_carried}
use Rattle.guest_run.specs.Guest.{IsAtRest, IsGreeted, Key, process_of}
use Rattle.guest_run.specs.Joined.{first_connection, link_of}
use Rattle.guest_run.specs.Run.{HasExited}
use Rattle.guest_run.specs.declared.joined.Joined.{Joined}

-- a greeting of a fresh server
abbrev greeting_of : List ℕ → Greeting
greeting_of name = record {
  version = Four;
  name = name;
  server = fresh_machine Four;
  serves = refl;
  conn = first_connection;
  new = refl;
  room = refl;
}

-- a client that begins, and a server to which nothing happened but that the connection opened, are the link that has opened
opens : (name : List ℕ) (joined : Joined) → joined.client ≡ fresh_client Four (Guest name)
    → joined.hub ≡ (server.played true (fresh_machine Four) (server_event.Opened first_connection)).1 → joined.conn ≡ first_connection
    → link_of joined ≡ opened (greeting_of name)
opens name joined client hub conn =
    ap (λ (k : Client). record (link_of joined) { client = k }) client
    ∙ ap (λ (m : Machine). record (link_of joined) { client = (opened (greeting_of name)).client; server = m }) hub
    ∙ ap (λ (c : ConnNo). record (opened (greeting_of name)) { conn = c }) conn

-- two moves lead from the link as the connection has opened to this one
two_moves : (name : List ℕ) (first second third : Joined) (asked : Option ServerReply) (told : Option ClientReply) → link_of first ≡ opened (greeting_of name)
    → made (link_of first) ToServer ≡ record { link = link_of second; server = asked; client = None }
    → made (link_of second) ToClient ≡ record { link = link_of third; server = None; client = told }
    → carried (opened (greeting_of name)) (ToServer ∷ ToClient ∷ []) ≡ link_of third
two_moves name first second third asked told begins up down =
    ap (λ (l : Link). (made (made l ToServer).link ToClient).link) (sym begins)
    ∙ ap (λ (m : Made). (made m.link ToClient).link) up
    ∙ ap (λ (m : Made). m.link) down

process_is : (pid other : Pid) → pid.0 ≡ other.0 → pid ≡ other
process_is pid other same = ap (λ (n : ℕ). record { 0 = n }) same

-- a guest that was greeted is at rest, for the process that its attach made
at_rest : (name : List ℕ) (joined : Joined) → meeting.IsGreeted (greeting_of name) (link_of joined) → IsGreeted joined
at_rest name joined met =
    let first : joined.conn.0 ≡ 0 = ap (λ (c : ConnNo). c.0) met.conn in
    record {
      attach = met.entry;
      made = met.next;
      journal = met.grown;
      rest = record {
        whole = met.whole;
        process = process_is met.whole.pid (process_of met.entry) met.process;
        opened = met.opened ∙ ap (λ (c : ConnNo). Some c.0) (sym met.conn);
        unused = ap (λ (jar : Jar). jar.unused) met.cookies;
        given = ap (λ (jar : Jar). jar.given) met.cookies ∙ sym first;
        few = omega (arith, first);
        low = let last = met.last in omega (arith, last);
      };
      first = ap (λ (c : ConnNo). record { conn = c; number = record { 0 = joined.client.last } }) met.conn
          ∙ ap (λ (n : ℕ). record { conn = first_connection; number = record { 0 = n } }) met.last;
    }

-- a guest whose handshake was carried over to its server, and its answer back, is greeted
pub greeted : (name : List ℕ) (first second third : Joined) (asked : Option ServerReply) (told : Option ClientReply) → first.client ≡ fresh_client Four (Guest name)
    → first.hub ≡ (server.played true (fresh_machine Four) (server_event.Opened first_connection)).1 → first.conn ≡ first_connection
    → made (link_of first) ToServer ≡ record { link = link_of second; server = asked; client = None }
    → made (link_of second) ToClient ≡ record { link = link_of third; server = None; client = told } → IsGreeted third
greeted name first second third asked told client hub conn up down =
    at_rest name third
    (subst (λ (l : Link). meeting.IsGreeted (greeting_of name) l) (two_moves name first second third asked told (opens name first client hub conn) up down)
    (greeting_carried (greeting_of name)))

-- the exit of a process, as its connection ends
abbrev exit_by : ConnNo → Pid → Entry
exit_by conn pid = record { pid = pid; who = End conn; op = Exit; ins = nothing_read; outcome = success 0 }

-- the connection of a guest at rest ends, and its process exits
pub parts : (old : Joined) (after : Machine) (answer : ServerReply) (pid : Pid) (bound : ℕ) → IsAtRest old pid bound
    → (answer, after) ≡ server.played true old.hub (server_event.Ended old.conn Clean) → HasExited old.conn pid old.hub.journal after.journal
parts old after answer pid bound rest plays =
    let whole = rest.whole in
    let runs : server.played true old.hub (server_event.Ended old.conn Clean) ≡ server.played_running true old.hub (server_event.Ended old.conn Clean)
    = ap (λ b. if b then (server_reply.Closed, old.hub) else server.played_running true old.hub (server_event.Ended old.conn Clean)) whole.serves in
    let ends = plays ∙ runs ∙ ap (end_at old.hub old.conn Clean) whole.idle in
    subst (λ (p : Pid). HasExited old.conn p old.hub.journal after.journal) rest.process (
      exit_by old.conn whole.pid,
      refl,
      ap (λ (p : Played). p.1.journal) ends
          ∙ ap (λ (l : Ledger). (exited l old.conn (Some whole.pid)).journal) (none_back (ledger_of old.hub) old.conn rest.unused),
    )
