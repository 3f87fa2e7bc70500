-- The link of a connection breaks, or its guest closes it.
use Rattle.std.proofs.Common.{◌≡◌, ℕ, Bool, true, false, cond, List, [], Option, Some, refl, sym, subst, arith}
use Rattle.std.specs.FinMap.{get}
use Rattle.sp_base.specs.declared.names.ConnNo.{ConnNo}
use Rattle.sp_copy.proofs.Places.{all_stay}
use Rattle.kern_model.specs.declared.journal.Entry.{Entry}
use Rattle.tables.proofs.Maps.{get_gone, get_gone_other, get_put, get_put_other}
use Rattle.hub_model.specs.Cookies.{ledger_of}
use Rattle.hub_model.specs.Ends.{end_at, end_by, left_by, lose_at}
use Rattle.hub_model.specs.Ends as server_ends
use Rattle.hub_model.specs.State.{Connection, Machine, process_in}
use Rattle.hub_model.specs.State as server_state
use Rattle.hub_model.specs.declared.event.Finish.TheVariants.{Clean}
use Rattle.hub_model.specs.declared.event.Reply.TheVariants as server_reply
use Rattle.hub_model.specs.declared.state.Condition.{Condition}
use Rattle.hub_model.specs.declared.state.Condition.TheVariants as condition
use Rattle.hub_law.proofs.Keys.{grows_same}
use Rattle.hub_law.proofs.Ledgers.{Lodges, left_lodges}
use Rattle.client_model.specs.Machine.{gone_by}
use Rattle.client_model.specs.State.{Client}
use Rattle.client_model.specs.declared.request.Ending.{Ending}
use Rattle.client_model.specs.declared.request.Ending.TheVariants.{Gone}
use Rattle.world_model.specs.Log.{asked, told}
use Rattle.world_model.specs.Machine.{close, connection_plays, cut_link, emptied, played}
use Rattle.world_model.specs.Once.{may_change}
use Rattle.world_model.specs.Run.{History}
use Rattle.world_model.specs.State.{Link, Played, World, with_client, with_link}
use Rattle.world_model.specs.declared.event.Event.TheVariants as event
use Rattle.world_model.specs.declared.event.Reply.TheVariants as reply
use Rattle.world_model.proofs.Grown.{left_grows, over_grows}
use Rattle.world_model.proofs.Hands.{faults_put}
use Rattle.world_model.proofs.Kept.{Goes, Kept}
use Rattle.world_model.proofs.Lane.{slice_of}
use Rattle.world_model.proofs.Lane.Beside.{Same}
use Rattle.world_model.proofs.Lane.Lane.{Broken, Closed as ClosedLane}
use Rattle.world_model.proofs.Left.{LeftAt}
use Rattle.world_model.proofs.Left.Ended.{Answered}
use Rattle.world_model.proofs.Left.LeftAt.{Unasked, Waiting, Has, Collected}
use Rattle.world_model.proofs.Over.{left_over, stage_over}
use Rattle.world_model.proofs.Plays.{IsAlive, IsBroken, lane_goes}
use Rattle.world_model.proofs.Slice.{Slice, number}
use Rattle.world_model.proofs.Stage.{At, Stage, ask_of, untouched}
use Rattle.world_model.proofs.Stage.Entered.{NotYet}
use Rattle.world_model.proofs.Stage.Stage.{Asking, Closed, Copying, Failing, Fresh, Held, Sent, Telling, Told}

-- ---- requests

-- what a stage comes to when the link breaks
stage_left : (journal : List Entry) (c : ConnNo) (n : ℕ) (σ : Slice) (s : Stage) → At journal c n σ s → LeftAt journal c n σ.asked σ.told σ.request
stage_left journal c n σ Fresh h = Unasked h.asked h.told h.request h.fact
stage_left journal c n σ (Sent ask says) h = Waiting ask [] (untouched ask.mem) h.asked h.told h.request (NotYet h.fact.2)
    (all_stay (may_change ask.what) ask.mem)
stage_left journal c n σ (Held a got) h =
    Waiting (ask_of a) a.indexes (untouched a.mem) h.asked h.told h.request (NotYet h.fact.none) (all_stay (may_change (ask_of a).what) a.mem)
stage_left journal c n σ (Asking a got need) h =
    Waiting (ask_of a) a.indexes (untouched a.mem) h.asked h.told h.request (NotYet h.fact.gathering.none) (all_stay (may_change (ask_of a).what) a.mem)
stage_left journal c n σ (Copying a got need) h =
    Waiting (ask_of a) a.indexes (untouched a.mem) h.asked h.told h.request (NotYet h.fact.gathering.none) (all_stay (may_change (ask_of a).what) a.mem)
stage_left journal c n σ (Failing a why) h =
    Waiting (ask_of a) a.indexes (untouched a.mem) h.asked h.told h.request (NotYet h.fact.none) (all_stay (may_change (ask_of a).what) a.mem)
stage_left journal c n σ (Telling ask indexes now index todo says) h = Waiting ask indexes now h.asked h.told h.request h.fact.entered h.fact.changes
stage_left journal c n σ (Told ask indexes now what) h = Has ask indexes now what h.asked h.told h.request h.fact
stage_left journal c n σ (Closed ask answer) h = Collected ask answer h.asked h.told h.request (Answered h.fact)

-- ---- the link breaks

-- the world once a link broke, with the server and the client as they are then
abbrev cut_to : World → ConnNo → Link → Machine → Client → Played
cut_to w c l m k = (reply.Moved, with_link (with_client (record w { rump = m }) c k) c (cut_link l))

-- a client that has learnt that its link is gone
abbrev unlinked : Client → Client
unlinked k = record k { ending = Some Gone }

module _ (h : History) (c : ConnNo) (k : Client) (l : Link) (x : Connection) (alive : IsAlive h c k l x) where
  -- what the connection leaves at the server
  leaves : Lodges (ledger_of h.world.rump) (left_by (ledger_of h.world.rump) c (process_in x.condition))
  leaves = left_lodges (ledger_of h.world.rump) c (process_in x.condition)

  abbrev left : Machine
  left = (server_ends.close h.world.rump c x).1

  cut_speaking : Goes h c (event.Cut c) (cut_to h.world c l left (unlinked k))
  cut_speaking = record {
    opened = λ n o. o;
    halted = refl;
    clients = λ d ne. get_put_other h.world.clients c.0 (unlinked k) d.0 ne;
    links = λ d ne. get_put_other h.world.links c.0 (cut_link l) d.0 ne;
    connections = λ d ne. Same (get_gone_other h.world.rump.connections c.0 d.0 ne);
    quiet = λ d ne. record { asks = λ n. refl; tells = λ n. refl };
    stays = (leaves.grows c (number 0)).stays;
    grows = λ d ne r. leaves.grows d r;
    closed = λ n answer there. leaves.grows c (number n);
    news = λ n ask there. absurd there;
    lane = Broken (unlinked k) (cut_link l) (get_put h.world.clients c.0 (unlinked k)) (get_put h.world.links c.0 (cut_link l))
        (get_gone h.world.rump.connections c.0)
        alive.opened refl refl (omega arith)
        (λ n. left_grows c n h.world.rump.journal left.journal (leaves.grows c (number n)) (asked c n h.log) (told c n h.log) (get k.requests n)
        (stage_left h.world.rump.journal c n (slice_of c n k l x h.log) (alive.speaks.each n).0 (alive.speaks.each n).1));
    fine = tt;
    lost = λ d e. absurd (cc);
    faults = λ d broke. faults_put h.world.links c.0 d.0 l (cut_link l) alive.link (omega arith) broke;
  }

  cut_alive : (memory : Bool) → Goes h c (event.Cut c) (connection_plays memory h.world c k l (event.Cut c))
  cut_alive memory =
      let w = h.world in
      subst (λ (b : Bool). Goes h c (event.Cut c)
      (cut_to w c l (cond {A = server_state.Played} b (server_reply.Closed, w.rump) (lose_at w.rump c (get w.rump.connections c.0))).1
      (gone_by k k.ending))) (sym alive.runs)
      (subst (λ (o : Option Connection). Goes h c (event.Cut c) (cut_to w c l (lose_at w.rump c o).1 (gone_by k k.ending))) (sym alive.there)
      (subst (λ (e : Option Ending). Goes h c (event.Cut c) (cut_to w c l left (gone_by k e))) (sym alive.speaks.goes_on) cut_speaking))

  -- the guest closes a connection that speaks
  end_speaking : Goes h c (event.Ends c) (close h.world c l (server_ends.close h.world.rump c x))
  end_speaking = record {
    opened = λ n o. o;
    halted = refl;
    clients = λ d ne. get_gone_other h.world.clients c.0 d.0 ne;
    links = λ d ne. get_put_other h.world.links c.0 (emptied l) d.0 ne;
    connections = λ d ne. Same (get_gone_other h.world.rump.connections c.0 d.0 ne);
    quiet = λ d ne. record { asks = λ n. refl; tells = λ n. refl };
    stays = (leaves.grows c (number 0)).stays;
    grows = λ d ne r. leaves.grows d r;
    closed = λ n answer there. leaves.grows c (number n);
    news = λ n ask there. absurd there;
    lane = ClosedLane (emptied l) (get_gone h.world.clients c.0) (get_put h.world.links c.0 (emptied l)) (get_gone h.world.rump.connections c.0) alive.opened
        (record { up = refl; down = refl })
        (λ n. over_grows c n h.world.rump.journal left.journal (leaves.grows c (number n)) (asked c n h.log) (told c n h.log)
        (stage_over h.world.rump.journal c n (slice_of c n k l x h.log) (alive.speaks.each n).0 (alive.speaks.each n).1));
    fine = tt;
    lost = λ d e. absurd (cc);
    faults = λ d broke. faults_put h.world.links c.0 d.0 l (emptied l) alive.link (omega arith) broke;
  }

  ends_clean : (s : Condition) → end_by h.world.rump c x s Clean ≡ server_ends.close h.world.rump c x
  ends_clean condition.Fresh = refl
  ends_clean (condition.Live pid) = refl
  ends_clean (condition.InExec pid) = refl
  ends_clean condition.Left = refl
  ends_clean condition.Draining = refl

  end_alive : (memory : Bool) → Goes h c (event.Ends c) (connection_plays memory h.world c k l (event.Ends c))
  end_alive memory =
      let w = h.world in
      subst (λ (b : Bool). Goes h c (event.Ends c)
      (close w c l (cond {A = server_state.Played} b (server_reply.Closed, w.rump) (end_at w.rump c Clean (get w.rump.connections c.0))))) (sym alive.runs)
      (subst (λ (o : Option Connection). Goes h c (event.Ends c) (close w c l (end_at w.rump c Clean o))) (sym alive.there)
      (subst (λ (p : server_state.Played). Goes h c (event.Ends c) (close w c l p)) (sym (ends_clean x.condition)) end_speaking))

-- ---- the link broke before

module _ (h : History) (c : ConnNo) (k : Client) (l : Link) (broken : IsBroken h c k l) where
  cut_again : Goes h c (event.Cut c) (cut_to h.world c l h.world.rump k)
  cut_again = record {
    opened = λ n o. o;
    halted = refl;
    clients = λ d ne. get_put_other h.world.clients c.0 k d.0 ne;
    links = λ d ne. get_put_other h.world.links c.0 (cut_link l) d.0 ne;
    connections = λ d ne. Same refl;
    quiet = λ d ne. record { asks = λ n. refl; tells = λ n. refl };
    stays = λ p e there. there;
    grows = λ d ne r. grows_same d r h.world.rump.journal;
    closed = λ n answer there. grows_same c (number n) h.world.rump.journal;
    news = λ n ask there. absurd there;
    lane = Broken k (cut_link l) (get_put h.world.clients c.0 k) (get_put h.world.links c.0 (cut_link l)) broken.over broken.opened broken.gone refl
        (omega arith) broken.left;
    fine = tt;
    lost = λ d e. absurd (cc);
    faults = λ d broke. faults_put h.world.links c.0 d.0 l (cut_link l) broken.link (omega arith) broke;
  }

  cut_broken : (memory : Bool) → Goes h c (event.Cut c) (connection_plays memory h.world c k l (event.Cut c))
  cut_broken memory =
      let w = h.world in
      subst (λ (o : Option Connection). Goes h c (event.Cut c)
      (cut_to w c l (cond {A = server_state.Played} w.rump.halted (server_reply.Closed, w.rump) (lose_at w.rump c o)).1 (gone_by k k.ending)))
      (sym broken.over)
      (subst (λ (e : Option Ending). Goes h c (event.Cut c)
      (cut_to w c l (cond {A = server_state.Played} w.rump.halted (server_reply.Closed, w.rump) (server_reply.Closed, w.rump)).1 (gone_by k e)))
      (sym broken.gone)
      (by_halted w.rump.halted))
    where
      by_halted : (b : Bool) → Goes h c (event.Cut c)
          (cut_to h.world c l (cond {A = server_state.Played} b (server_reply.Closed, h.world.rump) (server_reply.Closed, h.world.rump)).1 k)
      by_halted true = cut_again
      by_halted false = cut_again

  end_left : Goes h c (event.Ends c) (close h.world c l (server_reply.Closed, h.world.rump))
  end_left = record {
    opened = λ n o. o;
    halted = refl;
    clients = λ d ne. get_gone_other h.world.clients c.0 d.0 ne;
    links = λ d ne. get_put_other h.world.links c.0 (emptied l) d.0 ne;
    connections = λ d ne. Same refl;
    quiet = λ d ne. record { asks = λ n. refl; tells = λ n. refl };
    stays = λ p e there. there;
    grows = λ d ne r. grows_same d r h.world.rump.journal;
    closed = λ n answer there. grows_same c (number n) h.world.rump.journal;
    news = λ n ask there. absurd there;
    lane = ClosedLane (emptied l) (get_gone h.world.clients c.0) (get_put h.world.links c.0 (emptied l)) broken.over broken.opened
        (record { up = refl; down = refl })
        (λ n. left_over h.world.rump.journal c n (asked c n h.log) (told c n h.log) (get k.requests n) (broken.left n));
    fine = tt;
    lost = λ d e. absurd (cc);
    faults = λ d broke. faults_put h.world.links c.0 d.0 l (emptied l) broken.link (omega arith) broke;
  }

  end_broken : (memory : Bool) → Goes h c (event.Ends c) (connection_plays memory h.world c k l (event.Ends c))
  end_broken memory =
      let w = h.world in
      subst (λ (o : Option Connection). Goes h c (event.Ends c)
      (close w c l (cond {A = server_state.Played} w.rump.halted (server_reply.Closed, w.rump) (end_at w.rump c Clean o)))) (sym broken.over)
      (by_halted w.rump.halted)
    where
      by_halted : (b : Bool) → Goes h c (event.Ends c)
          (close h.world c l (cond {A = server_state.Played} b (server_reply.Closed, h.world.rump) (server_reply.Closed, h.world.rump)))
      by_halted true = end_left
      by_halted false = end_left

-- ---- the events

-- the link of a connection breaks
pub cut_goes : (memory : Bool) (h : History) (c : ConnNo) → Kept h → Goes h c (event.Cut c) (played memory h.world (event.Cut c))
cut_goes memory h c kept = lane_goes memory h c (event.Cut c) kept (record {
  alive = λ k l x alive. cut_alive h c k l x alive memory;
  broken = λ k l broken. cut_broken h c k l broken memory;
})

-- a guest closes its connection
pub ends_goes : (memory : Bool) (h : History) (c : ConnNo) → Kept h → Goes h c (event.Ends c) (played memory h.world (event.Ends c))
ends_goes memory h c kept = lane_goes memory h c (event.Ends c) kept (record {
  alive = λ k l x alive. end_alive h c k l x alive memory;
  broken = λ k l broken. end_broken h c k l broken memory;
})
