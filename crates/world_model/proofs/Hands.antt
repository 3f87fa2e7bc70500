-- The server hands out its oldest frame for a connection.
use Rattle.std.proofs.Common.{◌≡◌, inl, inr, ℕ, ◌<◌, ◌≤◌, Bool, true, false, cond, List, [], ◌∷◌, ◌++◌, Option, Some, None, refl}
use Rattle.std.proofs.Common.{sym, ap, ◌∙◌, subst, append_assoc, arith}
use Rattle.std.specs.Ordering.{nat_cmp}
use Rattle.std.specs.FinMap.{FinMap, get, insert, remove}
use Rattle.std.specs.List.{AllByRecursion}
use Rattle.sp_base.specs.declared.names.ConnNo.{ConnNo}
use Rattle.sp_base.specs.declared.need.Need.{Need}
use Rattle.sp_base.specs.declared.need.Need.TheVariants.{Bytes, Text}
use Rattle.sp_frames.specs.declared.frame.Frame.{Frame}
use Rattle.kern_model.specs.declared.journal.Entry.{Entry}
use Rattle.tables.proofs.Maps.{get_gone, get_gone_other, get_put, get_put_other, same_or_not}
use Rattle.hub_model.specs.Frames.{ask_body, is_end}
use Rattle.hub_model.specs.State.{Connection, is_fresh}
use Rattle.hub_model.specs.State as server_state
use Rattle.hub_model.specs.Work.{calls_after, take_at, take_from}
use Rattle.hub_model.specs.declared.event.Reply.TheVariants as server_reply
use Rattle.hub_model.specs.declared.state.Condition.{Condition}
use Rattle.hub_model.specs.declared.state.Condition.TheVariants as condition
use Rattle.hub_law.specs.Frames.{numbered}
use Rattle.hub_law.proofs.Frames.{numbered-append}
use Rattle.hub_law.proofs.Keys.{grows_same}
use Rattle.client_model.specs.State.{Client}
use Rattle.world_model.specs.Machine.{connection_plays, from_server, played}
use Rattle.world_model.specs.Run.{History, Item}
use Rattle.world_model.specs.State.{Link, faults_of}
use Rattle.world_model.specs.declared.event.Event.TheVariants as event
use Rattle.world_model.specs.declared.event.Reply.TheVariants as reply
use Rattle.world_model.proofs.Kept.{Goes, Kept}
use Rattle.world_model.proofs.Lane.{Speaks, is_welcome, slice_of}
use Rattle.world_model.proofs.Lane.Beside.{Same}
use Rattle.world_model.proofs.Lane.Lane.{Alive}
use Rattle.world_model.proofs.Plays.{IsAlive, IsBroken, lane_goes}
use Rattle.world_model.proofs.Slice.{Slice, number, unperformed}
use Rattle.world_model.proofs.Slices.{headed_here, quiet_speaks, rests_goes, stands_same}
use Rattle.world_model.proofs.Stage.{At, Stage}
use Rattle.world_model.proofs.Stage.Stage.{Asking, Closed, Copying, Failing, Fresh, Held, Sent, Telling, Told}

-- ---- faults

-- a link that broke still did, where its connection's link is put with no fewer faults
pub faults_put : (ls : FinMap nat_cmp Link) (c d : ℕ) (l l' : Link) → get ls c ≡ Some l → l.faults ≤ l'.faults → 0 < faults_of (get ls d)
    → 0 < faults_of (get (insert ls c l') d)
faults_put ls c d l l' at le broke = elim (same_or_not d c) [
  | inl e ↦
      let was : 0 < l.faults = subst (λ (o : Option Link). 0 < faults_of o) (ap (λ (n : ℕ). get ls n) e ∙ at) broke in
      subst (λ (o : Option Link). 0 < faults_of o) (sym (ap (λ (n : ℕ). get (insert ls c l') n) e ∙ get_put ls c l')) (omega (arith, was, le))
  | inr ne ↦ subst (λ (o : Option Link). 0 < faults_of o) (sym (get_put_other ls c l' d ne)) broke
]

-- ---- a call that ends

ask_goes_on : (index : ℕ) (need : Need) → is_end (ask_body index need) ≡ false
ask_goes_on index (Bytes addr len) = refl
ask_goes_on index (Text addr limit) = refl

no_middle : (front back : List Frame) (f : Frame) → front ++ f ∷ back ≡ [] → ⊥
no_middle [] back f e = cc
no_middle (g ∷ front) back f e = cc

only_middle : (front back : List Frame) (f g : Frame) → front ++ f ∷ back ≡ g ∷ [] → g ≡ f
only_middle [] back f g e = cc
only_middle (x ∷ front) back f g e = absurd (no_middle front back f (cc))

-- where the frame that ends a request is under way, its call was performed
ends_untasked : (journal : List Entry) (c : ConnNo) (n : ℕ) (σ : Slice) (front back : List Frame) (f : Frame) → σ.down ≡ front ++ f ∷ back
    → is_end f.body ≡ true
    → (s : Stage) → At journal c n σ s → σ.task ≡ None
ends_untasked journal c n σ front back f e ends Fresh h = h.task
ends_untasked journal c n σ front back f e ends (Sent ask says) h = h.task
ends_untasked journal c n σ front back f e ends (Held a got) h = absurd (no_middle front back f (sym e ∙ h.down))
ends_untasked journal c n σ front back f e ends (Asking a got need) h =
    let same = only_middle front back f _ (sym e ∙ h.down) in
    absurd (let k : false ≡ true = sym (ask_goes_on _ need) ∙ (ap (λ (g : Frame). is_end g.body) same ∙ ends) in cc)
ends_untasked journal c n σ front back f e ends (Copying a got need) h = absurd (no_middle front back f (sym e ∙ h.down))
ends_untasked journal c n σ front back f e ends (Failing a why) h = absurd (no_middle front back f (sym e ∙ h.down))
ends_untasked journal c n σ front back f e ends (Telling ask indexes now index todo says) h = h.task
ends_untasked journal c n σ front back f e ends (Told ask indexes now what) h = h.task
ends_untasked journal c n σ front back f e ends (Closed ask answer) h = h.task

-- ---- a frame goes from the queue onto the link

module _ (c : ConnNo) (k : Client) (l : Link) (x : Connection) (items : List Item) (journal : List Entry) (f : Frame) (queue : List Frame)
    (is : x.queue ≡ f ∷ queue)
    (s : Speaks c k l x items journal) where
  abbrev handed : Connection
  handed = record { condition = x.condition; last = x.last; calls = calls_after x.calls f; queue = queue }

  abbrev longer : Link
  longer = record { up = l.up; down = l.down ++ f ∷ []; faults = l.faults }

  same_down : longer.down ++ queue ≡ l.down ++ x.queue
  same_down = append_assoc l.down (f ∷ []) queue ∙ ap (λ (fs : List Frame). l.down ++ fs) (sym is)

  task_gone : (n : ℕ) → is_end f.body ≡ true → unperformed (get (remove x.calls f.number.0) n) ≡ unperformed (get x.calls n)
  task_gone n ends = elim (same_or_not n f.number.0) [
    | inl e ↦ ap unperformed (ap (λ (m : ℕ). get (remove x.calls f.number.0) m) e ∙ get_gone x.calls f.number.0)
        ∙ sym (ends_untasked journal c n (slice_of c n k l x items) (numbered n l.down) (numbered n queue) f
        (ap (λ (fs : List Frame). numbered n (l.down ++ fs)) is ∙ numbered-append n l.down (f ∷ queue)
        ∙ ap (λ (fs : List Frame). numbered n l.down ++ fs) (headed_here n f queue (sym e)))
        ends (s.each n).0 (s.each n).1)
    | inr ne ↦ ap unperformed (get_gone_other x.calls f.number.0 n ne)
  ]

  same_task : (n : ℕ) → unperformed (get (calls_after x.calls f) n) ≡ unperformed (get x.calls n)
  same_task n = by_end (is_end f.body) refl
    where
      by_end : (b : Bool) → is_end f.body ≡ b → unperformed (get (cond b (remove x.calls f.number.0) x.calls) n) ≡ unperformed (get x.calls n)
      by_end true ends = task_gone n ends
      by_end false ends = refl

  speaks_handed : Speaks c k longer handed items journal
  speaks_handed = record {
    each = λ n. stands_same journal c n (slice_of c n k l x items) (slice_of c n k longer handed items)
        (record { asked = refl; told = refl; request = refl; up = refl; task = same_task n; down = ap (λ (fs : List Frame). numbered n fs) same_down })
        (s.each n);
    above = s.above;
    rises = s.rises;
    goes_on = s.goes_on;
    takes = s.takes;
    begins = s.begins;
    ready = s.ready;
    first = s.first;
    welcome = subst (λ (fs : List Frame). AllByRecursion (λ f. is_welcome f.body ≡ true → is_fresh x.condition ≡ false) fs) (sym same_down) s.welcome;
  }

-- ---- the event

-- nothing is handed out
hands_nothing : (h : History) (c : ConnNo) → Kept h → Goes h c (event.FromServer c) (reply.Nothing, h.world)
hands_nothing h c kept = rests_goes h c (event.FromServer c) reply.Nothing kept (record {
  quiet = λ d. record { asks = λ n. refl; tells = λ n. refl };
  fine = tt;
  lost = λ d e. absurd (cc);
})

module _ (h : History) (c : ConnNo) (kept : Kept h) (k : Client) (l : Link) (x : Connection) (alive : IsAlive h c k l x) where
  none_left : (s : Condition) → Goes h c (event.FromServer c) (from_server h.world c l (take_from h.world.rump c x s []))
  none_left condition.Draining = hands_nothing h c kept
  none_left condition.Fresh = hands_nothing h c kept
  none_left (condition.Live pid) = hands_nothing h c kept
  none_left (condition.InExec pid) = hands_nothing h c kept
  none_left condition.Left = hands_nothing h c kept

  queue_goes : (queue : List Frame) → x.queue ≡ queue → (s : Condition)
      → Goes h c (event.FromServer c) (from_server h.world c l (take_from h.world.rump c x s queue))
  queue_goes [] is s = none_left s
  queue_goes (f ∷ queue) is s =
      let x' : Connection = handed c k l x h.log h.world.rump.journal f queue is alive.speaks in
      let l' : Link = longer c k l x h.log h.world.rump.journal f queue is alive.speaks in
      record {
        opened = λ n o. o;
        halted = refl;
        clients = λ d ne. refl;
        links = λ d ne. get_put_other h.world.links c.0 l' d.0 ne;
        connections = λ d ne. Same (get_put_other h.world.rump.connections c.0 x' d.0 ne);
        quiet = λ d ne. record { asks = λ n. refl; tells = λ n. refl };
        stays = λ p e there. there;
        grows = λ d ne r. grows_same d r h.world.rump.journal;
        closed = λ n answer there. grows_same c (number n) h.world.rump.journal;
        news = λ n ask there. absurd there;
        lane = Alive k l' x' alive.client (get_put h.world.links c.0 l') (get_put h.world.rump.connections c.0 x') alive.opened alive.runs
            (quiet_speaks c k l' x' (record { event = event.FromServer c; reply = reply.Moved }) h.log h.world.rump.journal
            (record { asks = λ n. refl; tells = λ n. refl })
            (speaks_handed c k l x h.log h.world.rump.journal f queue is alive.speaks));
        fine = tt;
        lost = λ d e. absurd (cc);
        faults = λ d broke. faults_put h.world.links c.0 d.0 l l' alive.link (omega arith) broke;
      }

  hands_alive : (memory : Bool) → Goes h c (event.FromServer c) (connection_plays memory h.world c k l (event.FromServer c))
  hands_alive memory =
      let w = h.world in
      subst (λ (b : Bool). Goes h c (event.FromServer c)
      (from_server w c l (cond {A = server_state.Played} b (server_reply.Closed, w.rump) (take_at w.rump c (get w.rump.connections c.0))))) (sym alive.runs)
      (subst (λ (o : Option Connection). Goes h c (event.FromServer c) (from_server w c l (take_at w.rump c o))) (sym alive.there)
      (queue_goes x.queue refl x.condition))

hands_broken : (memory : Bool) (h : History) (c : ConnNo) → Kept h → (k : Client) (l : Link) → IsBroken h c k l
    → Goes h c (event.FromServer c) (connection_plays memory h.world c k l (event.FromServer c))
hands_broken memory h c kept k l broken =
    subst (λ (o : Option Connection). Goes h c (event.FromServer c)
    (from_server h.world c l (cond {A = server_state.Played} h.world.rump.halted (server_reply.Closed, h.world.rump) (take_at h.world.rump c o))))
    (sym broken.over)
    (by_halted h.world.rump.halted)
  where
    by_halted : (b : Bool) → Goes h c (event.FromServer c)
        (from_server h.world c l (cond {A = server_state.Played} b (server_reply.Closed, h.world.rump) (server_reply.Closed, h.world.rump)))
    by_halted true = hands_nothing h c kept
    by_halted false = hands_nothing h c kept

-- the server hands out its oldest frame for a connection
pub from_server_goes : (memory : Bool) (h : History) (c : ConnNo) → Kept h → Goes h c (event.FromServer c) (played memory h.world (event.FromServer c))
from_server_goes memory h c kept = lane_goes memory h c (event.FromServer c) kept (record {
  alive = λ k l x alive. hands_alive h c kept k l x alive memory;
  broken = λ k l broken. hands_broken memory h c kept k l broken;
})
