-- A frame comes to the server, which takes it.
use Rattle.std.proofs.Common.{◌≡◌, inl, inr, ℕ, ◌<◌, Bool, true, false, cond, List, [], ◌∷◌, ◌++◌, length, Option, Some, None, refl, sym, ap, ◌∙◌, subst}
use Rattle.std.proofs.Common.{arith}
use Rattle.std.specs.FinMap.{get, insert}
use Rattle.sp_base.specs.declared.names.ConnNo.{ConnNo}
use Rattle.sp_frames.specs.declared.frame.Body.{Body}
use Rattle.sp_frames.specs.declared.frame.Frame.{Frame}
use Rattle.kern_model.specs.Journal.{state_after}
use Rattle.tables.proofs.Maps.{get_put, get_put_other, same_or_not}
use Rattle.hub_model.specs.Machine as server
use Rattle.hub_model.specs.Requests.{frame_at, frame_by}
use Rattle.hub_model.specs.Sound.{IsOpened, IsSound}
use Rattle.hub_model.specs.State.{Connection, Machine, Played, is_fresh}
use Rattle.hub_model.specs.Verdict.{body_verdict}
use Rattle.hub_model.specs.declared.event.Event.TheVariants as server_event
use Rattle.hub_model.specs.declared.event.Reply.TheVariants as server_reply
use Rattle.hub_model.specs.declared.verdict.Verdict.{Verdict}
use Rattle.hub_model.specs.declared.verdict.Verdict.TheVariants as verdict
use Rattle.hub_law.specs.Frames.{numbered}
use Rattle.hub_law.proofs.Means.{IsCopy, Means, body_means}
use Rattle.client_model.specs.State.{Client}
use Rattle.client_model.specs.declared.event.Reply.{Reply as ClientReply}
use Rattle.world_model.specs.Log.{Ask, IsIn, told}
use Rattle.world_model.specs.Machine.{server_plays, to_server}
use Rattle.world_model.specs.Run.{History, Item}
use Rattle.world_model.specs.State.{Link, faults_of, with_link}
use Rattle.world_model.specs.declared.event.Event.TheVariants as event
use Rattle.world_model.specs.declared.event.Reply.{Reply}
use Rattle.world_model.specs.declared.event.Reply.TheVariants as reply
use Rattle.world_model.specs.Machine as world
use Rattle.world_model.proofs.Answered.{asks, attach_taken, cancel_taken, fork_taken, join_taken, ready_taken, refuse_taken, risen}
use Rattle.world_model.proofs.Calls.{copy_goes, open_taken}
use Rattle.world_model.proofs.Formed.{IsTaken, request_fits}
use Rattle.world_model.proofs.Imaged.{image_taken}
use Rattle.world_model.proofs.Kept.{Goes, IsQuietFor, Kept}
use Rattle.world_model.proofs.Lane.{Speaks, slice_of}
use Rattle.world_model.proofs.Lane.Lane.{Alive, Broken}
use Rattle.world_model.proofs.Plays.{IsAlive, IsBroken, lane_goes, moves_goes}
use Rattle.world_model.proofs.Requested.{asks_no_index}
use Rattle.world_model.proofs.Rises.{rises_most}
use Rattle.world_model.proofs.Slice.{frame_of, number}
use Rattle.world_model.proofs.Slices.{quiet_left, quiet_speaks, rests_goes}
use Rattle.world_model.proofs.Stage.{At, IsBodyOf, Sent}
use Rattle.world_model.proofs.Taken.{Asks, Brings, Comes, Taken, comes_as, comes_untold, head_is, rest_of}

-- ---- a request

module _ (m : Machine) (c : ConnNo) (k : Client) (l : Link) (x : Connection) (f : Frame) (frames : List Frame) (log : List Item) (up : l.up ≡ f ∷ frames)
    (speaks : Speaks c k l x log m.journal) (ask : Ask) (says : Body)
    (at : At m.journal c f.number.0 (slice_of c f.number.0 k l x log) (Sent ask says)) (comes : f ≡ frame_of f.number.0 says)
    (alone : numbered f.number.0 (frames ++ k.queue) ≡ []) (sound : IsSound m) (salt : ℕ) where
  asked : IsBodyOf ask.what f.body
  asked = asks m c k l x f frames log up speaks ask says at comes alone

  no_copy : IsCopy x f.number.0 f.body → ⊥
  no_copy copy = let k : None ≡ Some (length copy.got) = sym (asks_no_index ask.what f.body asked) ∙ copy.index in cc

  by_verdict : (v : Verdict) → Means m.cookies c x f.number.0 f.body v → IsTaken v → Taken m c k (rest_of l frames) f log (frame_by v m c x f salt)
  by_verdict verdict.Closed means taken = absurd means
  by_verdict verdict.Malformed means taken = absurd taken
  by_verdict (verdict.Refused why) means taken = refuse_taken m c k l x f frames log up speaks ask says at comes alone why _ refl means.1
  by_verdict verdict.Attach means taken = attach_taken m c k l x f frames log up speaks ask says at comes alone _ refl means.1
  by_verdict (verdict.Join cookie) means taken = join_taken m c k l x f frames log up speaks ask says at comes alone cookie _ refl means.1 means.2
  by_verdict (verdict.Image cookie) means taken = image_taken m c k l x f frames log up speaks ask says at comes alone sound cookie _ refl means.1 means.2
  by_verdict verdict.Fork means taken = fork_taken m c k l x f frames log up speaks ask says at comes alone salt _ refl means.1 means.2
  by_verdict verdict.Ready means taken = ready_taken m c k l x f frames log up speaks ask says at comes alone salt _ refl means.1 means.2
  by_verdict (verdict.Cancel cookie) means taken = cancel_taken m c k l x f frames log up speaks ask says at comes alone cookie _ refl means.1 means.2
  by_verdict (verdict.Task call) means taken = open_taken m c k l x f frames log up speaks ask says at comes alone call means.1
  by_verdict verdict.Copy means taken = absurd (no_copy means.0)
  by_verdict (verdict.CopyFault why) means taken = absurd (no_copy means.0)

  -- no other request comes before the client speaks for a process, and then the connection does
  spoke : 1 < f.number.0 → is_fresh x.condition ≡ false
  spoke later =
      let rise = risen m c k l x f frames log up speaks ask says at comes alone in
      let most = rises_most f.number.0 (frames ++ k.queue) k.last rise.1 in
      elim k.ready as (λ b. k.ready ≡ b → is_fresh x.condition ≡ false) [
        | true ↦ λ e. speaks.ready e
        | false ↦ λ e. absurd (let one = speaks.first e in omega (arith, most, later, one))
      ] refl

  request_taken : Taken m c k (rest_of l frames) f log (frame_by (body_verdict (state_after m.journal) m.cookies c x f.number.0 f.body) m c x f salt)
  request_taken =
      let rise = risen m c k l x f frames log up speaks ask says at comes alone in
      by_verdict (body_verdict (state_after m.journal) m.cookies c x f.number.0 f.body) (body_means (state_after m.journal) m.cookies c x f.number.0 f.body)
      (request_fits (state_after m.journal) m.cookies c x f.number.0 rise.0 ask.what f.body asked at.fact.1
      (λ e. speaks.begins (let lt = rise.0 in omega (arith, lt, e))) spoke)

-- ---- any frame

module _ (m : Machine) (c : ConnNo) (k : Client) (l : Link) (x : Connection) (f : Frame) (frames : List Frame) (log : List Item) (up : l.up ≡ f ∷ frames)
    (speaks : Speaks c k l x log m.journal) (sound : IsSound m) (salt : ℕ) where
  by_stage : Comes m.journal c f.number.0 (slice_of c f.number.0 k l x log) f (numbered f.number.0 (frames ++ k.queue))
      → Taken m c k (rest_of l frames) f log (frame_by (body_verdict (state_after m.journal) m.cookies c x f.number.0 f.body) m c x f salt)
  by_stage (Asks ask says at is alone) = request_taken m c k l x f frames log up speaks ask says at is alone sound salt
  by_stage (Brings a got need at is alone) = copy_goes m c k l x f frames log up speaks a got need at is alone salt

  -- what the oldest frame is
  oldest : Comes m.journal c f.number.0 (slice_of c f.number.0 k l x log) f (numbered f.number.0 (frames ++ k.queue))
  oldest =
      let h = speaks.each f.number.0 in
      comes_as m.journal c f.number.0 (slice_of c f.number.0 k l x log) f (numbered f.number.0 (frames ++ k.queue)) (head_is c k l x f frames log up) h.0 h.1

  pub oldest_untold : told c f.number.0 log ≡ []
  oldest_untold = comes_untold m.journal c f.number.0 (slice_of c f.number.0 k l x log) f (numbered f.number.0 (frames ++ k.queue)) oldest

  comes_taken : Taken m c k (rest_of l frames) f log (frame_at m c f salt (Some x))
  comes_taken =
      let v = body_verdict (state_after m.journal) m.cookies c x f.number.0 f.body in
      subst (λ (b : Bool). Taken m c k (rest_of l frames) f log (frame_by (cond b verdict.Closed v) m c x f salt)) (sym speaks.takes) (by_stage oldest)

  -- the server takes a frame of a connection that speaks
  pub frame_taken : m.halted ≡ false → get m.connections c.0 ≡ Some x
      → Taken m c k (rest_of l frames) f log (server.played true m (server_event.Frame c f salt))
  frame_taken runs there =
      subst (λ (b : Bool). Taken m c k (rest_of l frames) f log
      (cond {A = Played} b (server_reply.Closed, m) (frame_at m c f salt (get m.connections c.0)))) (sym runs)
      (subst (λ (o : Option Connection). Taken m c k (rest_of l frames) f log (frame_at m c f salt o)) (sym there) comes_taken)

-- ---- in the world

module _ (h : History) (c : ConnNo) (salt : ℕ) (kept : Kept h) where
  quiet : (d : ConnNo) (answer : Reply) → IsQuietFor d (record { event = event.ToServer c salt; reply = answer })
  quiet d answer = record { asks = λ n. refl; tells = λ n. refl }

  -- there is no frame
  none_goes : Goes h c (event.ToServer c salt) (reply.Nothing, h.world)
  none_goes = rests_goes h c (event.ToServer c salt) reply.Nothing kept (record { quiet = λ d. quiet d reply.Nothing; fine = tt; lost = λ d e. absurd (cc) })

  -- a link without its oldest frame broke as often
  same_faults : (l : Link) (frames : List Frame) → get h.world.links c.0 ≡ Some l
      → (d : ConnNo) → faults_of (get (insert h.world.links c.0 (rest_of l frames)) d.0) ≡ faults_of (get h.world.links d.0)
  same_faults l frames link d = elim (same_or_not d.0 c.0) [
    | inl e ↦ subst (λ (n : ℕ). faults_of (get (insert h.world.links c.0 (rest_of l frames)) n) ≡ faults_of (get h.world.links n)) (sym e)
        (ap faults_of (get_put h.world.links c.0 (rest_of l frames)) ∙ sym (ap faults_of link))
    | inr ne ↦ ap faults_of (get_put_other h.world.links c.0 (rest_of l frames) d.0 ne)
  ]

  taken_goes : (k : Client) (l : Link) (x : Connection) → IsAlive h c k l x → (f : Frame) (frames : List Frame) → l.up ≡ f ∷ frames → (p : Played)
      → Taken h.world.rump c k (rest_of l frames) f h.log p → Goes h c (event.ToServer c salt) (server_plays (with_link h.world c (rest_of l frames)) p)
  taken_goes k l x alive f frames up p t = record {
    opened = λ n o. subst (λ (most : Option ℕ). IsOpened most n) (sym t.changed.opened) o;
    halted = t.changed.halted;
    clients = λ d ne. refl;
    links = λ d ne. get_put_other h.world.links c.0 (rest_of l frames) d.0 ne;
    connections = t.changed.others;
    quiet = λ d ne. quiet d (reply.Server p.0);
    stays = t.changed.stays;
    grows = t.changed.grows;
    closed = λ n answer is. elim (same_or_not n f.number.0) [
      | inl e ↦ absurd (subst (λ (ts : List ClientReply). IsIn answer ts)
          (ap (λ (n : ℕ). told c n h.log) e ∙ oldest_untold h.world.rump c k l x f frames h.log up alive.speaks kept.sound salt) is)
      | inr ne ↦ t.past (number n) ne
    ];
    news = λ n ask is. absurd is;
    lane = Alive k (rest_of l frames) t.now alive.client (get_put h.world.links c.0 (rest_of l frames)) t.changed.here
        (subst (λ (most : Option ℕ). IsOpened most c.0) (sym t.changed.opened) alive.opened) (t.changed.halted ∙ alive.runs)
        (quiet_speaks c k (rest_of l frames) t.now (record { event = event.ToServer c salt; reply = reply.Server p.0 }) h.log p.1.journal
        (quiet c (reply.Server p.0)) t.speaks);
    fine = t.fine;
    lost = λ d e. absurd (cc);
    faults = λ d broke. subst (λ (n : ℕ). 0 < n) (sym (same_faults l frames alive.link d)) broke;
  }

  alive_goes : (k : Client) (l : Link) (x : Connection) → IsAlive h c k l x → (fs : List Frame) → l.up ≡ fs
      → Goes h c (event.ToServer c salt) (to_server h.world c salt l fs)
  alive_goes k l x alive [] up = none_goes
  alive_goes k l x alive (f ∷ frames) up =
      taken_goes k l x alive f frames up _ (frame_taken h.world.rump c k l x f frames h.log up alive.speaks kept.sound salt alive.runs alive.there)

  -- a frame of a broken link finds no connection
  left_goes : (k : Client) (l : Link) (frames : List Frame) → IsBroken h c k l
      → Goes h c (event.ToServer c salt) (server_plays (with_link h.world c (rest_of l frames)) (server_reply.Closed, h.world.rump))
  left_goes k l frames broken = moves_goes h c (event.ToServer c salt) (reply.Server server_reply.Closed) h.world.clients
      (insert h.world.links c.0 (rest_of l frames)) (record {
        clients = λ d ne. refl;
        links = λ d ne. get_put_other h.world.links c.0 (rest_of l frames) d ne;
        faults = same_faults l frames broken.link c;
        quiet = λ d ne. quiet d (reply.Server server_reply.Closed);
        news = λ n ask is. absurd is;
        lane = Broken k (rest_of l frames) broken.client (get_put h.world.links c.0 (rest_of l frames))
            broken.over broken.opened broken.gone broken.down broken.broke
            (quiet_left c k _ h.log h.world.rump.journal (quiet c (reply.Server server_reply.Closed)) broken.left);
        fine = tt;
        lost = λ d e. absurd (cc);
      })

  no_connection : (f : Frame) (halted : Bool) (o : Option Connection) → o ≡ None
      → cond {A = Played} halted (server_reply.Closed, h.world.rump) (frame_at h.world.rump c f salt o) ≡ (server_reply.Closed, h.world.rump)
  no_connection f true o none = refl
  no_connection f false None none = refl
  no_connection f false (Some x) none = absurd (cc)

  broken_goes : (k : Client) (l : Link) → IsBroken h c k l → (fs : List Frame) → l.up ≡ fs → Goes h c (event.ToServer c salt) (to_server h.world c salt l fs)
  broken_goes k l broken [] up = none_goes
  broken_goes k l broken (f ∷ frames) up =
      subst (λ (p : Played). Goes h c (event.ToServer c salt) (server_plays (with_link h.world c (rest_of l frames)) p))
      (sym (no_connection f h.world.rump.halted (get h.world.rump.connections c.0) broken.over)) (left_goes k l frames broken)

  -- the oldest frame under way comes to the server
  pub to_server_goes : (memory : Bool) → Goes h c (event.ToServer c salt) (world.played memory h.world (event.ToServer c salt))
  to_server_goes memory = lane_goes memory h c (event.ToServer c salt) kept (record {
    alive = λ k l x alive. alive_goes k l x alive l.up refl;
    broken = λ k l broken. broken_goes k l broken l.up refl;
  })
