-- A connection of a new number opens, and its client greets.
use Rattle.std.proofs.Common.{◌≡◌, ◌≢◌, inl, inr, ℕ, ◌<◌, Bool, true, false, cond, List, [], ◌∷◌, ◌++◌, Option, Some, None, refl, sym, ap, ◌∙◌, subst, arith}
use Rattle.std.specs.Ordering.{nat_cmp}
use Rattle.std.specs.FinMap.{empty, get, get-empty}
use Rattle.sp_base.specs.declared.names.ConnNo.{ConnNo}
use Rattle.kern_model.specs.declared.journal.Entry.{Entry}
use Rattle.tables.proofs.Maps.{get_put, get_put_other, same_or_not}
use Rattle.hub_model.specs.Machine.{is_new, open_new}
use Rattle.hub_model.specs.Sound.{IsOpened}
use Rattle.hub_model.specs.State.{fresh_connection, with_connection}
use Rattle.hub_model.specs.State as server_state
use Rattle.hub_model.specs.declared.event.Reply.TheVariants as server_reply
use Rattle.hub_model.proofs.Events.{below_new}
use Rattle.hub_law.proofs.Frames.{numbered_here, numbered_other}
use Rattle.hub_law.proofs.Keys.{HasNone, grows_same}
use Rattle.client_model.specs.State.{Client, asked_by, fresh_client, fresh_request, hello_frame, said_by}
use Rattle.client_model.specs.declared.event.Hello.{Hello}
use Rattle.client_model.specs.declared.event.Hello.TheVariants as hello_of
use Rattle.client_model.specs.declared.event.Reply.{Reply as ClientReply}
use Rattle.world_model.specs.Log.{Ask, asked, told}
use Rattle.world_model.specs.Machine.{connect, played}
use Rattle.world_model.specs.Run.{History, Item}
use Rattle.world_model.specs.State.{Link, faults_of, fresh_link}
use Rattle.world_model.specs.declared.event.Event.TheVariants as event
use Rattle.world_model.specs.declared.event.Reply.TheVariants as reply
use Rattle.world_model.proofs.Kept.{Goes, Kept}
use Rattle.world_model.proofs.Lane.{Lane, Rises, Speaks, slice_of}
use Rattle.world_model.proofs.Lane.Beside.{Same}
use Rattle.world_model.proofs.Lane.Lane.{Absent, Alive, Broken, Closed}
use Rattle.world_model.proofs.Left.{OverAt}
use Rattle.world_model.proofs.Left.OverAt.{Never, Dropped, Finished}
use Rattle.world_model.proofs.Slice.{number, unperformed}
use Rattle.world_model.proofs.Slices.{asked_elsewhere, asked_here, asked_other, rests_goes}
use Rattle.world_model.proofs.Stage.{IsBodyOf, IsNumberOf, Stands}
use Rattle.world_model.proofs.Stage.Stage.{Fresh, Sent}

-- ---- handshakes

body_of : (hello : Hello) → IsBodyOf (asked_by hello) (said_by hello)
body_of (hello_of.Guest name) = tt
body_of (hello_of.Join cookie name) = tt
body_of (hello_of.Image cookie name) = tt

first_number : (hello : Hello) → IsNumberOf (asked_by hello) 1
first_number (hello_of.Guest name) = refl
first_number (hello_of.Join cookie name) = refl
first_number (hello_of.Image cookie name) = refl

rises_first : (hello : Hello) → Rises 0 (hello_frame hello ∷ []) 1
rises_first (hello_of.Guest name) = (omega arith, omega arith)
rises_first (hello_of.Join cookie name) = (omega arith, omega arith)
rises_first (hello_of.Image cookie name) = (omega arith, omega arith)

-- ---- a request that wasn't asked for

record IsUnasked (journal : List Entry) (c : ConnNo) (n : ℕ) (told : List ClientReply) : Type 0 where
  pub untold : told ≡ []
  pub none : HasNone journal c (number n)

over_unasked : (journal : List Entry) (c : ConnNo) (n : ℕ) (asked : List Ask) (told : List ClientReply) → asked ≡ [] → OverAt journal c n asked told
    → IsUnasked journal c n told
over_unasked journal c n asked told none (Never a t no_entry) = record { untold = t; none = no_entry }
over_unasked journal c n asked told none (Dropped ask a t entered) = absurd (let k = sym none ∙ a in cc)
over_unasked journal c n asked told none (Finished ask answer a t ended) = absurd (let k = sym none ∙ a in cc)

-- ---- the connection opens

module _ (h : History) (c : ConnNo) (hello : Hello) (none_asked : (n : ℕ) → asked c n h.log ≡ [])
    (over : (n : ℕ) → OverAt h.world.rump.journal c n (asked c n h.log) (told c n h.log)) where
  abbrev greeting : Ask
  greeting = record { what = asked_by hello; mem = [] }

  abbrev client : Client
  client = fresh_client h.world.rump.version hello

  abbrev items : List Item
  items = record { event = event.Connect c hello; reply = reply.Server server_reply.Nothing } ∷ h.log

  unasked : (n : ℕ) → IsUnasked h.world.rump.journal c n (told c n h.log)
  unasked n = over_unasked h.world.rump.journal c n (asked c n h.log) (told c n h.log) (none_asked n) (over n)

  others_unasked : (n : ℕ) → n ≢ 1 → asked c n items ≡ []
  others_unasked n ne = ap (λ (asks : List Ask). asks ++ asked c n h.log) (asked_other c c n 1 greeting (λ e. ne (sym e))) ∙ none_asked n

  greets : Stands h.world.rump.journal c 1 (slice_of c 1 client fresh_link fresh_connection items)
  greets = (
    Sent greeting (said_by hello),
    record {
      asked = ap (λ (asks : List Ask). asks ++ asked c 1 h.log) (asked_here c 1 greeting) ∙ ap (λ (asks : List Ask). greeting ∷ asks) (none_asked 1);
      told = (unasked 1).untold;
      request = get_put empty 1 (fresh_request (asked_by hello) []);
      up = numbered_here 1 (hello_frame hello) refl;
      task = ap unperformed (get-empty nat_cmp 1);
      down = refl;
      fact = (body_of hello, first_number hello, (unasked 1).none);
    },
  )

  others_fresh : (n : ℕ) → n ≢ 1 → Stands h.world.rump.journal c n (slice_of c n client fresh_link fresh_connection items)
  others_fresh n ne = (
    Fresh,
    record {
      asked = others_unasked n ne;
      told = (unasked n).untold;
      request = get_put_other empty 1 (fresh_request (asked_by hello) []) n ne ∙ get-empty nat_cmp n;
      up = numbered_other n (hello_frame hello) (λ e. ne (sym e));
      task = ap unperformed (get-empty nat_cmp n);
      down = refl;
      fact = (unasked n).none;
    },
  )

  speaks_first : Speaks c client fresh_link fresh_connection items h.world.rump.journal
  speaks_first = record {
    each = λ n. elim (same_or_not n 1) [
      | inl e ↦ subst (λ (m : ℕ). Stands h.world.rump.journal c m (slice_of c m client fresh_link fresh_connection items)) (sym e) greets
      | inr ne ↦ others_fresh n ne
    ];
    above = λ n later. others_unasked n (λ e. omega (arith, later, e));
    rises = rises_first hello;
    goes_on = refl;
    takes = refl;
    begins = λ e. refl;
    ready = λ e. absurd (let k : false ≡ true = e in cc);
    first = λ e. refl;
    welcome = tt;
  }

  open_goes : get h.world.links c.0 ≡ None → h.world.rump.halted ≡ false → is_new h.world.rump.opened c.0 ≡ true
      → Goes h c (event.Connect c hello)
      (connect h.world c hello (server_reply.Nothing, with_connection (record h.world.rump { opened = Some c.0 }) c fresh_connection))
  open_goes no_link runs new = record {
    opened = λ n o. let lt = below_new h.world.rump.opened c.0 n new o in omega (arith, lt);
    halted = refl;
    clients = λ d ne. get_put_other h.world.clients c.0 client d.0 ne;
    links = λ d ne. get_put_other h.world.links c.0 fresh_link d.0 ne;
    connections = λ d ne. Same (get_put_other h.world.rump.connections c.0 fresh_connection d.0 ne);
    quiet = λ d ne. record { asks = λ n. asked_elsewhere d c n 1 greeting (λ e. ne (sym e)); tells = λ n. refl };
    stays = λ p e there. there;
    grows = λ d ne r. grows_same d r h.world.rump.journal;
    closed = λ n answer there. grows_same c (number n) h.world.rump.journal;
    news = λ n ask there. (unasked n).none;
    lane = Alive client fresh_link fresh_connection (get_put h.world.clients c.0 client) (get_put h.world.links c.0 fresh_link)
        (get_put h.world.rump.connections c.0 fresh_connection) (omega arith) runs speaks_first;
    fine = tt;
    lost = λ d e. absurd (cc);
    faults = λ d broke. elim (same_or_not d.0 c.0) [
      | inl e ↦ absurd (let none : 0 < 0 = subst (λ (o : Option Link). 0 < faults_of o) (ap (λ (n : ℕ). get h.world.links n) e ∙ no_link) broke in omega
          (arith, none))
      | inr ne ↦ subst (λ (o : Option Link). 0 < faults_of o) (sym (get_put_other h.world.links c.0 fresh_link d.0 ne)) broke
    ];
  }

-- ---- the event

-- the server lets no connection of this number open
open_rests : (h : History) (c : ConnNo) (hello : Hello) → Kept h
    → Goes h c (event.Connect c hello) (connect h.world c hello (server_reply.Closed, h.world.rump))
open_rests h c hello kept = rests_goes h c (event.Connect c hello) (reply.Server server_reply.Closed) kept (record {
  quiet = λ d. record { asks = λ n. refl; tells = λ n. refl };
  fine = tt;
  lost = λ d e. absurd (cc);
})

-- a number that was opened isn't new
not_new : (opened : Option ℕ) (n : ℕ) → is_new opened n ≡ true → IsOpened opened n → ⊥
not_new opened n new o = let lt = below_new opened n n new o in omega (arith, lt)

module _ (h : History) (c : ConnNo) (hello : Hello) (kept : Kept h) where
  by_lane : h.world.rump.halted ≡ false → is_new h.world.rump.opened c.0 ≡ true
      → Lane c h.world.rump.opened h.world.rump.halted (get h.world.clients c.0) (get h.world.links c.0)
      (get h.world.rump.connections c.0) h.log h.world.rump.journal
      → Goes h c (event.Connect c hello)
      (connect h.world c hello (server_reply.Nothing, with_connection (record h.world.rump { opened = Some c.0 }) c fresh_connection))
  by_lane runs new (Absent no_client no_link no_connection over none_asked) = open_goes h c hello none_asked over no_link runs new
  by_lane runs new (Alive k l x client link there o running speaks) = absurd (not_new h.world.rump.opened c.0 new o)
  by_lane runs new (Broken k l client link no_connection o gone down broke left) = absurd (not_new h.world.rump.opened c.0 new o)
  by_lane runs new (Closed l no_client link no_connection o none over) = absurd (not_new h.world.rump.opened c.0 new o)

  by_new : h.world.rump.halted ≡ false → (b : Bool) → is_new h.world.rump.opened c.0 ≡ b
      → Goes h c (event.Connect c hello) (connect h.world c hello (cond {A = server_state.Played} b
      (server_reply.Nothing, with_connection (record h.world.rump { opened = Some c.0 }) c fresh_connection)
      (server_reply.Closed, h.world.rump)))
  by_new runs true new = by_lane runs new (kept.lanes c)
  by_new runs false new = open_rests h c hello kept

  by_halted : (b : Bool) → h.world.rump.halted ≡ b
      → Goes h c (event.Connect c hello)
      (connect h.world c hello (cond {A = server_state.Played} b (server_reply.Closed, h.world.rump) (open_new h.world.rump c)))
  by_halted true halted = open_rests h c hello kept
  by_halted false runs = by_new runs (is_new h.world.rump.opened c.0) refl

  -- a connection opens, and its client greets; or the server lets none of that number open
  pub connect_goes : (memory : Bool) → Goes h c (event.Connect c hello) (played memory h.world (event.Connect c hello))
  connect_goes memory = by_halted h.world.rump.halted refl
