-- A connection that opens at the server is an event of the world.
use Rattle.std.proofs.Common.{◌≡◌, ◌≢◌, inl, inr, ℕ, Bool, true, false, cond, Option, Some, None, IsSome, refl, sym, ap, subst, ◌∙◌, arith}
use Rattle.std.specs.Ordering.{nat_cmp}
use Rattle.std.specs.Cmp.{nat_cmp_total}
use Rattle.std.specs.FinMap.{FinMap, get, insert, remove, same_map, nat_cmp-IsAntisymmetric}
use Rattle.sp_base.specs.declared.names.ConnNo.{ConnNo}
use Rattle.sp_frames.specs.declared.version.Version.{Version}
use Rattle.sp_frames.specs.declared.version.Version.TheVariants.{Four}
use Rattle.tables.proofs.Maps.{get_gone, get_gone_other, get_put_other, same_or_not}
use Rattle.hub_model.proofs.Events.{below_new}
use Rattle.hub_model.specs.Machine as server
use Rattle.hub_model.specs.Machine.{is_new, open_new}
use Rattle.hub_model.specs.Sound.{IsOpened}
use Rattle.hub_model.specs.State as server_state
use Rattle.hub_model.specs.State.{Machine, fresh_connection, with_connection}
use Rattle.hub_model.specs.declared.event.Event.TheVariants as server_event
use Rattle.hub_model.specs.declared.event.Reply.{Reply as ServerReply}
use Rattle.hub_model.specs.declared.event.Reply.TheVariants as server_reply
use Rattle.client_model.specs.State.{Client, fresh_client}
use Rattle.client_model.specs.declared.event.Hello.{Hello}
use Rattle.world_model.specs.Machine.{connect, connect_by}
use Rattle.world_model.specs.State.{Link, World, fresh_link}
use Rattle.world_model.specs.declared.event.Event.TheVariants as event
use Rattle.world_model.specs.declared.event.Reply.{Reply}
use Rattle.world_model.specs.declared.event.Reply.TheVariants as reply
use Rattle.sp_world.specs.Ends.{of_server}
use Rattle.sp_world.specs.Happens.{Happens, IsPaired}
use Rattle.sp_world.proofs.There.{answered}
use Rattle.sp_world.proofs.Wants.{server_never_wants}
use Rattle.sp_world.proofs.Works.{told_server}

-- ---- a number that is given a value, and loses it

-- a key that wasn't there is put in and taken away: the map is as it was
pub taken_away : {V : Type 0} (m : FinMap nat_cmp V) (k : ℕ) (v : V) → get m k ≡ None → remove (insert m k v) k ≡ m
taken_away {V = V} m k v none = same_map nat_cmp_total nat_cmp-IsAntisymmetric _ _ at_each where
  at_each : (q : ℕ) → get (remove (insert m k v) k) q ≡ get m q
  at_each q = elim (same_or_not q k) [
    | inl same ↦ subst (λ (n : ℕ). get (remove (insert m k v) k) n ≡ get m n) (sym same) (get_gone (insert m k v) k ∙ sym none)
    | inr ne ↦ get_gone_other (insert m k v) k q ne ∙ get_put_other m k v q ne
  ]

-- a number that was given a client and a link loses them
pub displaced : (old placed : World) (c : ConnNo) (k : Client) (m' : Machine) → get old.clients c.0 ≡ None → get old.links c.0 ≡ None
    → placed ≡ record old { clients = insert old.clients c.0 k; links = insert old.links c.0 fresh_link }
    → record placed { rump = m'; clients = remove placed.clients c.0; links = remove placed.links c.0 } ≡ record old { rump = m' }
displaced old placed c k m' client link is =
    ap (λ (w : World). record w { rump = m'; clients = remove w.clients c.0; links = remove w.links c.0 }) is
    ∙ ap (λ (ks : FinMap nat_cmp Client). record old { rump = m'; clients = ks; links = remove (insert old.links c.0 fresh_link) c.0 }) (taken_away old.clients c.0 k client)
    ∙ ap (λ (ls : FinMap nat_cmp Link). record old { rump = m'; links = ls }) (taken_away old.links c.0 fresh_link link)

-- ---- what the server plays

not_new_by : (opened : Option ℕ) (c : ℕ) (new : Bool) → is_new opened c ≡ new → IsOpened opened c → new ≡ false
not_new_by opened c false is o = refl
not_new_by opened c true is o = absurd (let lt = below_new opened c c is o in omega (arith, lt))

closed_by : (m : Machine) (p : server_state.Played) (halted : Bool) → p ≡ (server_reply.Closed, m)
    → cond {A = server_state.Played} halted (server_reply.Closed, m) p ≡ (server_reply.Closed, m)
closed_by m p true is = refl
closed_by m p false is = is

-- a number that was opened before is answered Closed
opened_before : (m : Machine) (c : ConnNo) → IsOpened m.opened c.0 → server.played true m (server_event.Opened c) ≡ (server_reply.Closed, m)
opened_before m c o = closed_by m (open_new m c) m.halted (ap (λ (new : Bool). cond {A = server_state.Played} new
    (server_reply.Nothing, with_connection (record m { opened = Some c.0 }) c fresh_connection) (server_reply.Closed, m))
    (not_new_by m.opened c.0 (is_new m.opened c.0) refl o))

new_version : (m : Machine) (c : ConnNo) (new : Bool) → (cond {A = server_state.Played} new
    (server_reply.Nothing, with_connection (record m { opened = Some c.0 }) c fresh_connection) (server_reply.Closed, m)).1.version ≡ m.version
new_version m c true = refl
new_version m c false = refl

running_version : (m : Machine) (p : server_state.Played) (halted : Bool) → p.1.version ≡ m.version
    → (cond {A = server_state.Played} halted (server_reply.Closed, m) p).1.version ≡ m.version
running_version m p true is = refl
running_version m p false is = is

-- the server speaks the version that it spoke before the connection opened
opened_version : (m : Machine) (c : ConnNo) → (server.played true m (server_event.Opened c)).1.version ≡ m.version
opened_version m c = running_version m (open_new m c) m.halted (new_version m c (is_new m.opened c.0))

-- ---- what happens

opened_at : (w : World) (c : ConnNo) (l : Option Link) → get w.links c.0 ≡ l → IsSome l → IsPaired w → IsOpened w.rump.opened c.0
opened_at w c (Some l) is some paired = paired.links c.0 l is
opened_at w c None is some paired = absurd (let wrong : false ≡ true = some in cc)

-- a number with a link is answered Closed
pub connect_closed : (w : World) (c : ConnNo) (hello : Hello) → IsPaired w → IsSome (get w.links c.0) → Happens w (event.Connect c hello) (reply.Server server_reply.Closed) w
connect_closed w c hello paired there =
    inl (sym (ap (connect w c hello) (opened_before w.rump c (opened_at w c (get w.links c.0) refl there paired))))

-- the connection opens, with a client that greets and a link
pub connect_opens : (old new : World) (c : ConnNo) (hello : Hello) (m' : Machine) → old.rump.version ≡ Four
    → server.Plays old.rump (server_event.Opened c) server_reply.Nothing m'
    → new ≡ record old { rump = m'; clients = insert old.clients c.0 (fresh_client Four hello); links = insert old.links c.0 fresh_link }
    → Happens old (event.Connect c hello) (reply.Server server_reply.Nothing) new
connect_opens old new c hello m' speaks (inl p) is =
    let version : m'.version ≡ Four = ap (λ (p : server_state.Played). p.1.version) p.1 ∙ opened_version old.rump c ∙ speaks in
    let opened = (λ (v : Version). record old { rump = m'; clients = insert old.clients c.0 (fresh_client v hello); links = insert old.links c.0 fresh_link }) in
    inl (ap (answered (reply.Server server_reply.Nothing)) (is ∙ ap opened (sym version)) ∙ ap (connect old c hello) p.1)
connect_opens old new c hello m' speaks (inr wants) is = absurd (let wrong = wants.answers in cc)

refused_world : (w : World) (c : ConnNo) (hello : Hello) (answer : ServerReply) → answer ≢ server_reply.Nothing → connect_by w c hello answer ≡ w
refused_world w c hello server_reply.Nothing other = absurd (other refl)
refused_world w c hello _ other = refl

-- the server doesn't let the connection open
pub connect_fails : (old new : World) (c : ConnNo) (hello : Hello) (answer : ServerReply) (m' : Machine) → server.Plays old.rump (server_event.Opened c) answer m'
    → answer ≢ server_reply.Nothing → new ≡ record old { rump = m' } → Happens old (event.Connect c hello) (of_server answer) new
connect_fails old new c hello answer m' (inl p) fails is =
    let other : answer ≢ server_reply.NoMemory = (λ e. server_never_wants p.0 old.rump (server_event.Opened c) (sym (ap (λ (p : server_state.Played). p.0) p.1) ∙ e)) in
    inl (ap (λ (told : Reply). answered told new) (told_server answer other)
    ∙ ap (answered (reply.Server answer)) (is ∙ sym (refused_world (record old { rump = m' }) c hello answer fails)) ∙ ap (connect old c hello) p.1)
connect_fails old new c hello answer m' (inr wants) fails is = inr (record {
  answers = ap of_server wants.answers;
  keeps = is ∙ ap (λ (m : Machine). record old { rump = m }) wants.keeps;
})
