-- What there is of a request, and of a connection, when something is asked, told, sent or taken.
use Rattle.std.proofs.Common.{◌≡◌, ◌≢◌, ℕ, ◌<◌, ◌==◌, Bool, true, false, cond, List, [], ◌∷◌, ◌++◌, Option, Some, None, refl, sym, ap, ◌∙◌, append-nil}
use Rattle.std.specs.Prelude.{if◌then◌else◌}
use Rattle.std.specs.Ordering.{nat_cmp}
use Rattle.std.specs.FinMap.{FinMap, get}
use Rattle.std.proofs.lemmas.Bool.{and_from, and_left, and_right, eq-eqb, ne_eqb}
use Rattle.sp_base.specs.declared.names.ConnNo.{ConnNo}
use Rattle.sp_frames.specs.declared.frame.Frame.{Frame}
use Rattle.kern_model.specs.declared.journal.Entry.{Entry}
use Rattle.hub_model.specs.State.{Connection}
use Rattle.hub_law.specs.Frames.{numbered}
use Rattle.hub_law.proofs.Frames.{numbered-append, numbered_here, numbered_other}
use Rattle.hub_law.proofs.Keys.{grows_same}
use Rattle.client_model.specs.State.{Client}
use Rattle.client_model.specs.declared.event.Reply.{Reply as ClientReply}
use Rattle.world_model.specs.Log.{Ask, IsIn, asked, asked_if, asks, is_key, tells, told}
use Rattle.world_model.specs.Once.{IsFine, lost_on}
use Rattle.world_model.specs.Run.{History, Item}
use Rattle.world_model.specs.State.{Link, faults_of}
use Rattle.world_model.specs.declared.host.HostCall.{HostCall}
use Rattle.world_model.specs.declared.event.Event.{Event}
use Rattle.world_model.specs.declared.event.Event.TheVariants as event
use Rattle.world_model.specs.declared.event.Reply.{Reply}
use Rattle.world_model.specs.declared.event.Reply.TheVariants as reply
use Rattle.world_model.proofs.Keeps.{lane_beside, left_stays, speaks_stays}
use Rattle.world_model.proofs.Kept.{Goes, IsQuietFor, Kept}
use Rattle.world_model.proofs.Lane.{Lane, Speaks}
use Rattle.world_model.proofs.Lane.Beside.{Same}
use Rattle.world_model.proofs.Left.{LeftAt}
use Rattle.world_model.proofs.Slice.{Slice, number}
use Rattle.world_model.proofs.Stage.{At, Stage, Stands}
use Rattle.world_model.proofs.Stage.Stage.{Fresh}

-- ---- keys

pub key_here : (c : ConnNo) (n : ℕ) → is_key c n c n ≡ true
key_here c n = and_from (c.0 == c.0) (n == n) (eq-eqb c.0 c.0 refl) (eq-eqb n n refl)

pub key_elsewhere : (c d : ConnNo) (n m : ℕ) → d.0 ≢ c.0 → is_key c n d m ≡ false
key_elsewhere c d n m ne = and_left (d.0 == c.0) (m == n) (ne_eqb d.0 c.0 ne)

pub key_other : (c d : ConnNo) (n m : ℕ) → m ≢ n → is_key c n d m ≡ false
key_other c d n m ne = and_right (d.0 == c.0) (m == n) (ne_eqb m n ne)

-- what is asked for under a number is asked under that number
pub asked_here : (c : ConnNo) (n : ℕ) (ask : Ask) → asked_if c n c n ask ≡ ask ∷ []
asked_here c n ask = ap (λ (b : Bool). if b then ask ∷ [] else []) (key_here c n)

-- and under no other number
pub asked_other : (c d : ConnNo) (n m : ℕ) (ask : Ask) → m ≢ n → asked_if c n d m ask ≡ []
asked_other c d n m ask ne = ap (λ (b : Bool). if b then ask ∷ [] else []) (key_other c d n m ne)

-- nor of another connection
pub asked_elsewhere : (c d : ConnNo) (n m : ℕ) (ask : Ask) → d.0 ≢ c.0 → asked_if c n d m ask ≡ []
asked_elsewhere c d n m ask ne = ap (λ (b : Bool). if b then ask ∷ [] else []) (key_elsewhere c d n m ne)

-- an event is of one connection
pub same_connection : (c d : ConnNo) → ◌≡◌ {A = Option ConnNo} (Some c) (Some d) → d ≡ c
same_connection c d e = cc

-- ---- frames of a number

-- a frame of the number is pushed
pub pushed_here : (n : ℕ) (frames : List Frame) (f : Frame) → f.number.0 ≡ n → numbered n (frames ++ f ∷ []) ≡ numbered n frames ++ f ∷ []
pushed_here n frames f e = numbered-append n frames (f ∷ []) ∙ ap (λ (fs : List Frame). numbered n frames ++ fs) (numbered_here n f e)

-- a frame of another number is pushed
pub pushed_other : (n : ℕ) (frames : List Frame) (f : Frame) → f.number.0 ≢ n → numbered n (frames ++ f ∷ []) ≡ numbered n frames
pushed_other n frames f ne =
    numbered-append n frames (f ∷ []) ∙ ap (λ (fs : List Frame). numbered n frames ++ fs) (numbered_other n f ne) ∙ append-nil (numbered n frames)

-- a frame of the number is the oldest
pub headed_here : (n : ℕ) (f : Frame) (frames : List Frame) → f.number.0 ≡ n → numbered n (f ∷ frames) ≡ f ∷ numbered n frames
headed_here n f frames e = ap (λ (b : Bool). cond b (f ∷ numbered n frames) (numbered n frames)) (eq-eqb f.number.0 n e)

-- a frame of another number is the oldest
pub headed_other : (n : ℕ) (f : Frame) (frames : List Frame) → f.number.0 ≢ n → numbered n (f ∷ frames) ≡ numbered n frames
headed_other n f frames ne = ap (λ (b : Bool). cond b (f ∷ numbered n frames) (numbered n frames)) (ne_eqb f.number.0 n ne)

-- ---- stages

-- a slice has the same parts as another
pub record IsSameSlice (σ τ : Slice) : Type 0 where
  pub asked : τ.asked ≡ σ.asked
  pub told : τ.told ≡ σ.told
  pub request : τ.request ≡ σ.request
  pub up : τ.up ≡ σ.up
  pub task : τ.task ≡ σ.task
  pub down : τ.down ≡ σ.down

-- what has the same parts is at the same stage
pub stands_same : (journal : List Entry) (c : ConnNo) (n : ℕ) (σ τ : Slice) → IsSameSlice σ τ → Stands journal c n σ → Stands journal c n τ
stands_same journal c n σ τ same h = (
  h.0,
  record {
    asked = same.asked ∙ h.1.asked;
    told = same.told ∙ h.1.told;
    request = same.request ∙ h.1.request;
    up = same.up ∙ h.1.up;
    task = same.task ∙ h.1.task;
    down = same.down ∙ h.1.down;
    fact = h.1.fact;
  },
)

-- nothing was asked only where nothing happened
pub fresh_at : (journal : List Entry) (c : ConnNo) (n : ℕ) (σ : Slice) → σ.asked ≡ [] → (s : Stage) → At journal c n σ s → At journal c n σ Fresh
fresh_at journal c n σ none Fresh h = h
fresh_at journal c n σ none s h = absurd (let k = sym none ∙ h.asked in cc)

-- ---- an event that asks and tells nothing

-- a connection that speaks goes on
pub quiet_speaks : (c : ConnNo) (k : Client) (l : Link) (x : Connection) (item : Item) (log : List Item) (journal : List Entry)
    → IsQuietFor c item → Speaks c k l x log journal → Speaks c k l x (item ∷ log) journal
quiet_speaks c k l x item log journal quiet s = speaks_stays c log item quiet journal journal (λ r. grows_same c r journal) k l x s

-- and one that was left by its link
pub quiet_left : (c : ConnNo) (k : Client) (item : Item) (log : List Item) (journal : List Entry) → IsQuietFor c item
    → ((n : ℕ) → LeftAt journal c n (asked c n log) (told c n log) (get k.requests n))
    → (n : ℕ) → LeftAt journal c n (asked c n (item ∷ log)) (told c n (item ∷ log)) (get k.requests n)
quiet_left c k item log journal quiet left n = left_stays c log item quiet journal journal (λ r. grows_same c r journal) n k (left n)

-- a lane stays
pub quiet_lane : (c : ConnNo) (opened : Option ℕ) (halted : Bool) (k : Option Client) (l : Option Link) (x : Option Connection)
    (item : Item) (log : List Item) (journal : List Entry) → IsQuietFor c item
    → Lane c opened halted k l x log journal → Lane c opened halted k l x (item ∷ log) journal
quiet_lane c opened halted k l x item log journal quiet lane =
    lane_beside c opened opened halted k l x x log item journal journal (λ n o. o) (Same refl) quiet (λ r. grows_same c r journal) lane

-- nothing is asked for that has an entry, as nothing is asked for
pub quiet_news : {X : Type 0} (ask : Ask) (asks : List Ask) → asks ≡ [] → IsIn ask asks → X
quiet_news ask [] none is = absurd is
quiet_news ask (other ∷ asks) none is = absurd (cc)

-- nothing is asked or told
pub record Rests (h : History) (happens : Event) (answer : Reply) : Type 0 where
  pub quiet : (d : ConnNo) → IsQuietFor d (record { event = happens; reply = answer })
  pub fine : IsFine answer
  pub lost : (d : ConnNo) → lost_on happens answer ≡ Some d → 0 < faults_of (get h.world.links d.0)

-- where the server, the clients and the links stay, whatever becomes of the host's kernel
pub host_rests : (h : History) (c : ConnNo) (happens : Event) (answer : Reply) (host : List Entry) (counts : FinMap nat_cmp ℕ) (waiting : List HostCall)
    → Kept h → Rests h happens answer → Goes h c happens (answer, record h.world { host = host; counts = counts; waiting = waiting })
host_rests h c happens answer host counts waiting kept rests =
    let w = h.world in
    let item : Item = record { event = happens; reply = answer } in
    record {
      opened = λ n o. o;
      halted = refl;
      clients = λ d ne. refl;
      links = λ d ne. refl;
      connections = λ d ne. Same refl;
      quiet = λ d ne. rests.quiet d;
      stays = λ p e s. s;
      grows = λ d ne r. grows_same d r w.rump.journal;
      closed = λ n a is. grows_same c (number n) w.rump.journal;
      news = λ n ask is. quiet_news ask (asks c n happens answer) ((rests.quiet c).asks n) is;
      lane = quiet_lane c w.rump.opened w.rump.halted (get w.clients c.0) (get w.links c.0) (get w.rump.connections c.0) item h.log w.rump.journal
          (rests.quiet c) (kept.lanes c);
      fine = rests.fine;
      lost = rests.lost;
      faults = λ d broke. broke;
    }

-- the world stays
pub rests_goes : (h : History) (c : ConnNo) (happens : Event) (answer : Reply) → Kept h → Rests h happens answer → Goes h c happens (answer, h.world)
rests_goes h c happens answer kept rests = host_rests h c happens answer h.world.host h.world.counts h.world.waiting kept rests

-- ---- a connection that isn't there

-- nothing is told of a request, whichever it is
pub none_told : (b : Bool) → ◌≡◌ {A = List ClientReply} (if b then [] else []) []
none_told true = refl
none_told false = refl

closed_asks : (d : ConnNo) (n : ℕ) (happens : Event) → asks d n happens reply.Closed ≡ []
closed_asks d n (event.Start c caller call mem) = refl
closed_asks d n _ = refl

closed_tells : (d : ConnNo) (n : ℕ) (happens : Event) → tells d n happens reply.Closed ≡ []
closed_tells d n (event.Collect c r) = none_told (is_key d n c r.0)
closed_tells d n _ = refl

closed_lost : (d : ConnNo) (happens : Event) → lost_on happens reply.Closed ≡ None
closed_lost d (event.Start c caller call mem) = refl
closed_lost d _ = refl

-- an event of a connection that isn't there is answered Closed, and nothing changes
pub closed_goes : (h : History) (c : ConnNo) (happens : Event) → Kept h → Goes h c happens (reply.Closed, h.world)
closed_goes h c happens kept = rests_goes h c happens reply.Closed kept (record {
  quiet = λ d. record { asks = λ n. closed_asks d n happens; tells = λ n. closed_tells d n happens };
  fine = tt;
  lost = λ d e. absurd (let k = sym (closed_lost d happens) ∙ e in cc);
})
