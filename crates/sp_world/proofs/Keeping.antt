-- Each link stays one of a number that was opened, and counts rise by one at most, whatever happens.
use Rattle.std.proofs.Common.{◌≡◌, ◌≢◌, inl, inr, ℕ, ◌+◌, ◌≤◌, Bool, true, false, cond, List, [], ◌∷◌, ◌++◌, Option, Some, None, IsSome, refl, sym, subst, ◌∙◌, arith}
use Rattle.std.specs.Ordering.{nat_cmp}
use Rattle.std.specs.FinMap.{FinMap, get, insert, remove}
use Rattle.sp_base.specs.declared.names.Caller.{Caller}
use Rattle.sp_base.specs.declared.names.ConnNo.{ConnNo}
use Rattle.sp_base.specs.declared.names.Pid.{Pid}
use Rattle.sp_copy.specs.declared.part.Part.{Part}
use Rattle.sp_frames.specs.declared.frame.Frame.{Frame}
use Rattle.kern_model.specs.declared.journal.Entry.{Entry}
use Rattle.kern_model.specs.declared.operation.Op.{Op}
use Rattle.tables.proofs.Maps.{get_gone_other, get_put, get_put_other, same_or_not}
use Rattle.hub_model.proofs.Events.{below_new}
use Rattle.hub_model.specs.Machine as server
use Rattle.hub_model.specs.Machine.{is_new, open_new}
use Rattle.hub_model.specs.Sound.{IsOpened}
use Rattle.hub_model.specs.State as server_state
use Rattle.hub_model.specs.State.{Machine, fresh_connection, with_connection}
use Rattle.hub_model.specs.declared.event.Event.TheVariants as server_event
use Rattle.hub_model.specs.declared.event.Finish.TheVariants.{Clean}
use Rattle.hub_model.specs.declared.event.Reply.{Reply as ServerReply}
use Rattle.hub_model.specs.declared.event.Reply.TheVariants as server_reply
use Rattle.client_model.specs.Machine as client
use Rattle.client_model.specs.State as client_state
use Rattle.client_model.specs.State.{Client, fresh_client}
use Rattle.client_model.specs.declared.event.Event.TheVariants as client_event
use Rattle.client_model.specs.declared.event.Hello.{Hello}
use Rattle.client_model.specs.declared.event.Reply.{Reply as ClientReply}
use Rattle.client_model.specs.declared.event.Reply.TheVariants as client_reply
use Rattle.world_model.specs.Host.{count_in, host_by, host_entry, host_if, may_ask, read_for}
use Rattle.world_model.specs.Machine.{client_plays, connect, connection_at, connection_plays, cut_link, emptied, from_client_by, from_server_by, played, to_client, to_server}
use Rattle.world_model.specs.State.{Link, Played, World, fresh_link}
use Rattle.world_model.specs.Still.{is_still}
use Rattle.world_model.specs.declared.event.Event.{Event}
use Rattle.world_model.specs.declared.event.Event.TheVariants as event
use Rattle.world_model.specs.declared.event.Reply.{Reply}
use Rattle.world_model.specs.declared.event.Reply.TheVariants as reply
use Rattle.world_model.specs.declared.host.HostCall.{HostCall}
use Rattle.sp_world.specs.Happens.{IsPaired, IsWithin}
use Rattle.sp_world.specs.Told.{is_wanting}
use Rattle.sp_world.proofs.Opened.{stays_opened}

-- ---- what an event owes

-- what is so of what is answered, and of the world then
pub record Keeps (most : ℕ) (p : Played) : Type 0 where
  pub answers : is_wanting p.0 ≡ false
  pub paired : IsPaired p.1
  pub within : IsWithin (most + 1) p.1

-- what was opened there stays opened
abbrev StaysOpened : World → Machine → Type 0
StaysOpened w m = (n : ℕ) → IsOpened w.rump.opened n → IsOpened m.opened n

-- what an event of a connection leaves: the others as they were, and its link, which broke once more at most
record IsNear (w : World) (c : ConnNo) (before : ℕ) (p : Played) : Type 0 where
  pub answers : is_wanting p.0 ≡ false
  pub clients : (d : ℕ) → d ≢ c.0 → get p.1.clients d ≡ get w.clients d
  pub links : (d : ℕ) → d ≢ c.0 → get p.1.links d ≡ get w.links d
  pub link : Link
  pub here : get p.1.links c.0 ≡ Some link
  pub faults : link.faults ≤ before + 1
  pub counts : p.1.counts ≡ w.counts

module _ (w : World) (most : ℕ) (paired : IsPaired w) (within : IsWithin most w) where
  -- clients, links and counts are as they were
  rests_keeps : (answer : Reply) (m : Machine) (host : List Entry) (waiting : List HostCall) → is_wanting answer ≡ false → StaysOpened w m
      → Keeps most (answer, record w { rump = m; host = host; waiting = waiting })
  rests_keeps answer m host waiting says opens = record {
    answers = says;
    paired = record { links = λ d l h. opens d (paired.links d l h); clients = paired.clients };
    within = record {
      faults = λ d l h. (let le = within.faults d l h in omega (arith, le));
      counts = λ guest count h. (let le = within.counts guest count h in omega (arith, le));
    };
  }

  module _ (c : ConnNo) (before : ℕ) (p : Played) (few : before ≤ most) (near : IsNear w c before p)
      (here : IsOpened p.1.rump.opened c.0) (opens : StaysOpened w p.1.rump) where
    near_paired : IsPaired p.1
    near_paired = record {
      links = λ d l h. elim (same_or_not d c.0) [
        | inl e ↦ subst (λ (n : ℕ). IsOpened p.1.rump.opened n) (sym e) here
        | inr ne ↦ opens d (paired.links d l (sym (near.links d ne) ∙ h))
      ];
      clients = λ d k h. elim (same_or_not d c.0) [
        | inl e ↦ subst (λ (n : ℕ). IsSome (get p.1.links n)) (sym e) (subst (λ (o : Option Link). IsSome o) (sym near.here) refl)
        | inr ne ↦ subst (λ (o : Option Link). IsSome o) (sym (near.links d ne)) (paired.clients d k (sym (near.clients d ne) ∙ h))
      ];
    }

    near_faults : (d : ℕ) (l : Link) → get p.1.links d ≡ Some l → l.faults ≤ most + 1
    near_faults d l h = elim (same_or_not d c.0) [
      | inl e ↦ (let there : Some near.link ≡ Some l = sym near.here ∙ subst (λ (n : ℕ). get p.1.links n ≡ Some l) e h in
          let same : near.link ≡ l = cc in
          let le = near.faults in
          subst (λ (k : Link). k.faults ≤ most + 1) same (omega (arith, le, few)))
      | inr ne ↦ (let le = within.faults d l (sym (near.links d ne) ∙ h) in omega (arith, le))
    ]

    near_counts : (guest count : ℕ) → get p.1.counts guest ≡ Some count → count ≤ most + 1
    near_counts guest count h =
        let was = subst (λ (m : FinMap nat_cmp ℕ). get m guest ≡ Some count) near.counts h in
        let le = within.counts guest count was in
        omega (arith, le)

    near_keeps : Keeps most p
    near_keeps = record { answers = near.answers; paired = near_paired; within = record { faults = near_faults; counts = near_counts } }

-- ---- an event of a connection that is there

module _ (memory : Bool) (w : World) (c : ConnNo) (k : Client) (l : Link) (there : get w.links c.0 ≡ Some l) where
  rests : (answer : Reply) (m : Machine) → is_wanting answer ≡ false → IsNear w c l.faults (answer, record w { rump = m })
  rests answer m says = record {
    answers = says;
    clients = λ d ne. refl;
    links = λ d ne. refl;
    link = l;
    here = there;
    faults = omega arith;
    counts = refl;
  }

  -- the link is another one
  moves : (answer : Reply) (m : Machine) (ks : FinMap nat_cmp Client) (now : Link) → is_wanting answer ≡ false
      → ((d : ℕ) → d ≢ c.0 → get ks d ≡ get w.clients d) → now.faults ≤ l.faults + 1
      → IsNear w c l.faults (answer, record w { rump = m; clients = ks; links = insert w.links c.0 now })
  moves answer m ks now says others le = record {
    answers = says;
    clients = others;
    links = λ d ne. get_put_other w.links c.0 now d ne;
    link = now;
    here = get_put w.links c.0 now;
    faults = le;
    counts = refl;
  }

  others_stay : (now : Client) (d : ℕ) → d ≢ c.0 → get (insert w.clients c.0 now) d ≡ get w.clients d
  others_stay now d ne = get_put_other w.clients c.0 now d ne

  client_near : (p : client_state.Played) → IsNear w c l.faults (client_plays w c p)
  client_near p = record {
    answers = refl;
    clients = others_stay p.1;
    links = λ d ne. refl;
    link = l;
    here = there;
    faults = omega arith;
    counts = refl;
  }

  from_client_near : (answer : ClientReply) (now : Client) → IsNear w c l.faults (from_client_by w c l now answer)
  from_client_near (client_reply.Out f) now =
      moves reply.Moved w.rump (insert w.clients c.0 now) (record l { up = l.up ++ f ∷ [] }) refl (others_stay now) (omega arith)
  from_client_near _ now = rests reply.Nothing w.rump refl

  to_server_near : (salt : ℕ) (frames : List Frame) → IsNear w c l.faults (to_server w c salt l frames)
  to_server_near salt [] = rests reply.Nothing w.rump refl
  to_server_near salt (f ∷ frames) =
      let p = server.played true w.rump (server_event.Frame c f salt) in
      moves (reply.Server p.0) p.1 w.clients (record l { up = frames }) refl (λ d ne. refl) (omega arith)

  from_server_near : (answer : ServerReply) (m : Machine) → IsNear w c l.faults (from_server_by w c l m answer)
  from_server_near (server_reply.Out f) m = moves reply.Moved m w.clients (record l { down = l.down ++ f ∷ [] }) refl (λ d ne. refl) (omega arith)
  from_server_near _ m = rests reply.Nothing w.rump refl

  to_client_near : (frames : List Frame) → IsNear w c l.faults (to_client w c k l frames)
  to_client_near [] = rests reply.Nothing w.rump refl
  to_client_near (f ∷ frames) =
      let p = client.played k (client_event.Frame f) in
      moves (reply.Client p.0) w.rump (insert w.clients c.0 p.1) (record l { down = frames }) refl (others_stay p.1) (omega arith)

  cut_near : IsNear w c l.faults (connection_plays memory w c k l (event.Cut c))
  cut_near =
      let gone = (client.played k client_event.Gone).1 in
      moves reply.Moved (server.played true w.rump (server_event.Lost c)).1 (insert w.clients c.0 gone) (cut_link l) refl (others_stay gone) (omega arith)

  ends_near : IsNear w c l.faults (connection_plays memory w c k l (event.Ends c))
  ends_near =
      let p = server.played true w.rump (server_event.Ended c Clean) in
      moves (reply.Server p.0) p.1 (remove w.clients c.0) (emptied l) refl (λ d ne. get_gone_other w.clients c.0 d ne) (omega arith)

  plays_near : (happens : Event) → IsNear w c l.faults (connection_plays memory w c k l happens)
  plays_near (event.Start d caller call mem) = client_near (client.played k (client_event.Start caller call mem))
  plays_near (event.Prefork d caller want) = client_near (client.played k (client_event.Prefork caller want))
  plays_near (event.Preexec d caller) = client_near (client.played k (client_event.Preexec caller))
  plays_near (event.Collect d r) = client_near (client.played k (client_event.Collect r))
  plays_near (event.FromClient d) = from_client_near (client.played k client_event.Take).0 (client.played k client_event.Take).1
  plays_near (event.ToServer d salt) = to_server_near salt l.up
  plays_near (event.Work d r) =
      let p = server.played memory w.rump (server_event.Work c r) in rests (reply.Server p.0) p.1 refl
  plays_near (event.FromServer d) =
      from_server_near (server.played true w.rump (server_event.Take c)).0 (server.played true w.rump (server_event.Take c)).1
  plays_near (event.ToClient d) = to_client_near l.down
  plays_near (event.Cut d) = cut_near
  plays_near (event.Ends d) = ends_near
  plays_near _ = rests reply.Nothing w.rump refl

-- ---- a connection opens

opens_near : (w : World) (c : ConnNo) (hello : Hello) (m : Machine)
    → IsNear w c 0 (connect w c hello (server_reply.Nothing, m))
opens_near w c hello m = record {
  answers = refl;
  clients = λ d ne. get_put_other w.clients c.0 (fresh_client m.version hello) d ne;
  links = λ d ne. get_put_other w.links c.0 fresh_link d ne;
  link = fresh_link;
  here = get_put w.links c.0 fresh_link;
  faults = omega arith;
  counts = refl;
}

-- ---- every event

module _ (w : World) (most : ℕ) (paired : IsPaired w) (within : IsWithin most w) where
  same_keeps : (answer : Reply) (m : Machine) → is_wanting answer ≡ false → StaysOpened w m → Keeps most (answer, record w { rump = m })
  same_keeps answer m says opens = rests_keeps w most paired within answer m w.host w.waiting says opens

  connect_by_new : (c : ConnNo) (hello : Hello) (b : Bool) → is_new w.rump.opened c.0 ≡ b
      → Keeps most (connect w c hello (cond {A = server_state.Played} b
      (server_reply.Nothing, with_connection (record w.rump { opened = Some c.0 }) c fresh_connection) (server_reply.Closed, w.rump)))
  connect_by_new c hello false new = same_keeps (reply.Server server_reply.Closed) w.rump refl (λ n o. o)
  connect_by_new c hello true new =
      let m = with_connection (record w.rump { opened = Some c.0 }) c fresh_connection in
      near_keeps w most paired within c 0 (connect w c hello (server_reply.Nothing, m)) (omega arith) (opens_near w c hello m) (omega arith)
      (λ n o. (let lt = below_new w.rump.opened c.0 n new o in omega (arith, lt)))

  connect_keeps : (c : ConnNo) (hello : Hello) (halted : Bool)
      → Keeps most (connect w c hello (cond {A = server_state.Played} halted (server_reply.Closed, w.rump) (open_new w.rump c)))
  connect_keeps c hello true = same_keeps (reply.Server server_reply.Closed) w.rump refl (λ n o. o)
  connect_keeps c hello false = connect_by_new c hello (is_new w.rump.opened c.0) refl

  at_keeps : (memory : Bool) (c : ConnNo) (happens : Event) (k : Option Client) (l : Option Link) → get w.links c.0 ≡ l
      → StaysOpened w (connection_at memory w c happens k l).1.rump → Keeps most (connection_at memory w c happens k l)
  at_keeps memory c happens (Some k) (Some l) there opens =
      near_keeps w most paired within c l.faults (connection_plays memory w c k l happens) (within.faults c.0 l there)
      (plays_near memory w c k l there happens) (opens c.0 (paired.links c.0 l there)) opens
  at_keeps memory c happens (Some k) None there opens = same_keeps reply.Closed w.rump refl (λ n o. o)
  at_keeps memory c happens None l there opens = same_keeps reply.Closed w.rump refl (λ n o. o)

  count_le : (guest : ℕ) (count : Option ℕ) → get w.counts guest ≡ count → count_in count ≤ most
  count_le guest None is = omega arith
  count_le guest (Some count) is = within.counts guest count is

  performs_keeps : (guest : ℕ) (answer : Reply) (host : List Entry) (waiting : List HostCall) → is_wanting answer ≡ false
      → Keeps most (answer, record w { host = host; counts = insert w.counts guest (count_in (get w.counts guest) + 1); waiting = waiting })
  performs_keeps guest answer host waiting says = record {
    answers = says;
    paired = record { links = paired.links; clients = paired.clients };
    within = record {
      faults = λ d l h. (let le = within.faults d l h in omega (arith, le));
      counts = λ other count h. elim (same_or_not other guest) [
        | inl e ↦ (let there : Some (count_in (get w.counts guest) + 1) ≡ Some count =
            sym (get_put w.counts guest (count_in (get w.counts guest) + 1))
            ∙ subst (λ (n : ℕ). get (insert w.counts guest (count_in (get w.counts guest) + 1)) n ≡ Some count) e h in
            let same : count_in (get w.counts guest) + 1 ≡ count = cc in
            let le = count_le guest (get w.counts guest) refl in
            omega (arith, le, same))
        | inr ne ↦ (let le = within.counts other count (sym (get_put_other w.counts guest (count_in (get w.counts guest) + 1) other ne) ∙ h) in
            omega (arith, le))
      ];
    };
  }

  host_keeps : (guest : ℕ) (caller : Caller) (pid : Pid) (op : Op) (mem : List Part) (e : Option Entry)
      → Keeps most (host_by w guest caller pid op mem e)
  host_keeps guest caller pid op mem None = rests_keeps w most paired within (reply.HostWaits mem) w.rump w.host _ refl (λ n o. o)
  host_keeps guest caller pid op mem (Some e) = performs_keeps guest _ _ _ refl

  host_if_keeps : (guest : ℕ) (caller : Caller) (pid : Pid) (op : Op) (mem : List Part) (b : Bool)
      → Keeps most (host_if w guest caller pid op mem b)
  host_if_keeps guest caller pid op mem false = same_keeps reply.Closed w.rump refl (λ n o. o)
  host_if_keeps guest caller pid op mem true = host_keeps guest caller pid op mem (host_entry w guest pid op (read_for op mem))

  still_keeps : (b : Bool) → ◌≡◌ {A = Bool} (is_wanting (cond {A = Reply} b reply.Still reply.NotStill)) false
  still_keeps true = refl
  still_keeps false = refl

  link_keeps : (memory : Bool) (c : ConnNo) (happens : Event)
      → StaysOpened w (connection_at memory w c happens (get w.clients c.0) (get w.links c.0)).1.rump
      → Keeps most (connection_at memory w c happens (get w.clients c.0) (get w.links c.0))
  link_keeps memory c happens opens = at_keeps memory c happens (get w.clients c.0) (get w.links c.0) refl opens

  -- what is so of links and counts stays so
  pub plays_keeps : (memory : Bool) (happens : Event) → Keeps most (played memory w happens)
  plays_keeps memory (event.Connect c hello) = connect_keeps c hello w.rump.halted
  plays_keeps memory (event.Start c caller call mem) =
      link_keeps memory c (event.Start c caller call mem) (stays_opened memory w (event.Start c caller call mem))
  plays_keeps memory (event.Prefork c caller want) = link_keeps memory c (event.Prefork c caller want) (stays_opened memory w (event.Prefork c caller want))
  plays_keeps memory (event.Preexec c caller) = link_keeps memory c (event.Preexec c caller) (stays_opened memory w (event.Preexec c caller))
  plays_keeps memory (event.Collect c r) = link_keeps memory c (event.Collect c r) (stays_opened memory w (event.Collect c r))
  plays_keeps memory (event.ToServer c salt) = link_keeps memory c (event.ToServer c salt) (stays_opened memory w (event.ToServer c salt))
  plays_keeps memory (event.FromServer c) = link_keeps memory c (event.FromServer c) (stays_opened memory w (event.FromServer c))
  plays_keeps memory (event.ToClient c) = link_keeps memory c (event.ToClient c) (stays_opened memory w (event.ToClient c))
  plays_keeps memory (event.FromClient c) = link_keeps memory c (event.FromClient c) (stays_opened memory w (event.FromClient c))
  plays_keeps memory (event.Work c r) = link_keeps memory c (event.Work c r) (stays_opened memory w (event.Work c r))
  plays_keeps memory (event.Cut c) = link_keeps memory c (event.Cut c) (stays_opened memory w (event.Cut c))
  plays_keeps memory (event.Ends c) = link_keeps memory c (event.Ends c) (stays_opened memory w (event.Ends c))
  plays_keeps memory (event.Host guest caller pid op mem) = host_if_keeps guest caller pid op mem (may_ask w pid op)
  plays_keeps memory event.GiveUp = same_keeps _ w.rump (still_keeps (is_still w)) (λ n o. o)
  plays_keeps memory event.Halt =
      let p = server.played true w.rump server_event.Halt in same_keeps (reply.Server p.0) p.1 refl (stays_opened memory w event.Halt)
