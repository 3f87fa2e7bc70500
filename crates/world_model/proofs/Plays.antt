-- An event of a connection: where the connection is, and what an event owes that changes its client and its link alone.
use Rattle.std.proofs.Common.{◌≡◌, ◌≢◌, inl, inr, ℕ, ◌<◌, Bool, false, [], ◌∷◌, Option, Some, None, refl, sym, ap, subst}
use Rattle.std.specs.Ordering.{nat_cmp}
use Rattle.std.specs.FinMap.{FinMap, get, insert}
use Rattle.sp_base.specs.declared.names.ConnNo.{ConnNo}
use Rattle.tables.proofs.Maps.{get_put, get_put_other, same_or_not}
use Rattle.hub_model.specs.Sound.{IsOpened}
use Rattle.hub_model.specs.State.{Connection}
use Rattle.hub_law.proofs.Keys.{HasNone, grows_same}
use Rattle.client_model.specs.State.{Client}
use Rattle.client_model.specs.declared.event.Reply.{Reply as ClientReply}
use Rattle.client_model.specs.declared.request.Ending.TheVariants.{Gone}
use Rattle.world_model.specs.Log.{Ask, IsIn, asked, asks, told}
use Rattle.world_model.specs.Machine.{client_plays, connection_at, connection_plays, of_connection}
use Rattle.world_model.specs.Once.{IsFine, IsSane, lost_on}
use Rattle.world_model.specs.Run.{History}
use Rattle.world_model.specs.State.{Link, faults_of}
use Rattle.world_model.specs.declared.event.Event.{Event}
use Rattle.world_model.specs.declared.event.Reply.{Reply}
use Rattle.world_model.specs.declared.event.Reply.TheVariants as reply
use Rattle.world_model.proofs.Kept.{Goes, IsQuietFor, Kept}
use Rattle.world_model.proofs.Lane.{Lane, Speaks}
use Rattle.world_model.proofs.Lane.Beside.{Same}
use Rattle.world_model.proofs.Lane.Lane.{Absent, Alive, Broken, Closed}
use Rattle.world_model.proofs.Left.{LeftAt}
use Rattle.world_model.proofs.Slice.{number}
use Rattle.world_model.proofs.Slices.{closed_goes, quiet_left, quiet_news, quiet_speaks}

-- ---- where a connection is

-- a connection speaks, with its parts
pub record IsAlive (h : History) (c : ConnNo) (k : Client) (l : Link) (x : Connection) : Type 0 where
  pub client : get h.world.clients c.0 ≡ Some k
  pub link : get h.world.links c.0 ≡ Some l
  pub there : get h.world.rump.connections c.0 ≡ Some x
  pub opened : IsOpened h.world.rump.opened c.0
  pub runs : h.world.rump.halted ≡ false
  pub speaks : Speaks c k l x h.log h.world.rump.journal

-- a connection was left by its link, with its parts
pub record IsBroken (h : History) (c : ConnNo) (k : Client) (l : Link) : Type 0 where
  pub client : get h.world.clients c.0 ≡ Some k
  pub link : get h.world.links c.0 ≡ Some l
  pub over : get h.world.rump.connections c.0 ≡ None
  pub opened : IsOpened h.world.rump.opened c.0
  pub gone : k.ending ≡ Some Gone
  pub down : l.down ≡ []
  pub broke : 0 < l.faults
  pub left : (n : ℕ) → LeftAt h.world.rump.journal c n (asked c n h.log) (told c n h.log) (get k.requests n)

-- the link of such a connection broke
pub broke_there : (h : History) (c : ConnNo) (k : Client) (l : Link) → IsBroken h c k l → (d : ConnNo) → d ≡ c → 0 < faults_of (get h.world.links d.0)
broke_there h c k l broken d e =
    subst (λ (d : ConnNo). 0 < faults_of (get h.world.links d.0)) (sym e) (subst (λ (o : Option Link). 0 < faults_of o) (sym broken.link) broken.broke)

-- what an event of a connection does where its client is there
pub record Lanes (memory : Bool) (h : History) (c : ConnNo) (happens : Event) : Type 0 where
  pub alive : (k : Client) (l : Link) (x : Connection) → IsAlive h c k l x → Goes h c happens (connection_plays memory h.world c k l happens)
  pub broken : (k : Client) (l : Link) → IsBroken h c k l → Goes h c happens (connection_plays memory h.world c k l happens)

-- an event of a connection goes, as it is answered Closed where its client isn't there
pub lane_goes : (memory : Bool) (h : History) (c : ConnNo) (happens : Event) → Kept h → Lanes memory h c happens
    → Goes h c happens (of_connection memory h.world c happens)
lane_goes memory h c happens kept lanes = by_lane (kept.lanes c)
  where
    none : get h.world.clients c.0 ≡ None → Goes h c happens (of_connection memory h.world c happens)
    none no_client =
        subst (λ (o : Option Client). Goes h c happens (connection_at memory h.world c happens o (get h.world.links c.0))) (sym no_client)
        (closed_goes h c happens kept)

    there : (k : Client) (l : Link) → get h.world.clients c.0 ≡ Some k → get h.world.links c.0 ≡ Some l
        → Goes h c happens (connection_plays memory h.world c k l happens)
        → Goes h c happens (of_connection memory h.world c happens)
    there k l client link goes =
        subst (λ (o : Option Client). Goes h c happens (connection_at memory h.world c happens o (get h.world.links c.0))) (sym client)
        (subst (λ (o : Option Link). Goes h c happens (connection_at memory h.world c happens (Some k) o)) (sym link) goes)

    by_lane : Lane c h.world.rump.opened h.world.rump.halted (get h.world.clients c.0) (get h.world.links c.0)
        (get h.world.rump.connections c.0) h.log h.world.rump.journal → Goes h c happens (of_connection memory h.world c happens)
    by_lane (Absent no_client no_link no_connection over none_asked) = none no_client
    by_lane (Closed l no_client link no_connection o empty over) = none no_client
    by_lane (Alive k l x client link at o runs speaks) =
        there k l client link (lanes.alive k l x (record { client = client; link = link; there = at; opened = o; runs = runs; speaks = speaks }))
    by_lane (Broken k l client link no_connection o gone down broke left) =
        there k l client link
        (lanes.broken k l (record { client = client; link = link; over = no_connection; opened = o; gone = gone; down = down; broke = broke; left = left }))

-- ---- an event that changes the client and the link of a connection alone

pub record Moves (h : History) (c : ConnNo) (happens : Event) (answer : Reply) (ks : FinMap nat_cmp Client) (ls : FinMap nat_cmp Link) : Type 0 where
  pub clients : (d : ℕ) → d ≢ c.0 → get ks d ≡ get h.world.clients d
  pub links : (d : ℕ) → d ≢ c.0 → get ls d ≡ get h.world.links d
  pub faults : faults_of (get ls c.0) ≡ faults_of (get h.world.links c.0)
  pub quiet : (d : ConnNo) → d.0 ≢ c.0 → IsQuietFor d (record { event = happens; reply = answer })
  pub news : (n : ℕ) (ask : Ask) → IsIn ask (asks c n happens answer) → HasNone h.world.rump.journal c (number n)
  pub lane : Lane c h.world.rump.opened h.world.rump.halted (get ks c.0) (get ls c.0) (get h.world.rump.connections c.0)
      (record { event = happens; reply = answer } ∷ h.log) h.world.rump.journal
  pub fine : IsFine answer
  pub lost : (d : ConnNo) → lost_on happens answer ≡ Some d → 0 < faults_of (get ls d.0)

-- links have the faults that they had
faults_stay : (h : History) (c : ConnNo) (happens : Event) (answer : Reply) (ks : FinMap nat_cmp Client) (ls : FinMap nat_cmp Link)
    → Moves h c happens answer ks ls
    → (d : ConnNo) → faults_of (get ls d.0) ≡ faults_of (get h.world.links d.0)
faults_stay h c happens answer ks ls moves d = elim (same_or_not d.0 c.0) [
  | inl e ↦ subst (λ (n : ℕ). faults_of (get ls n) ≡ faults_of (get h.world.links n)) (sym e) moves.faults
  | inr ne ↦ ap faults_of (moves.links d.0 ne)
]

pub moves_goes : (h : History) (c : ConnNo) (happens : Event) (answer : Reply) (ks : FinMap nat_cmp Client) (ls : FinMap nat_cmp Link)
    → Moves h c happens answer ks ls
    → Goes h c happens (answer, record h.world { clients = ks; links = ls })
moves_goes h c happens answer ks ls moves = record {
  opened = λ n o. o;
  halted = refl;
  clients = λ d ne. moves.clients d.0 ne;
  links = λ d ne. moves.links d.0 ne;
  connections = λ d ne. Same refl;
  quiet = moves.quiet;
  stays = λ p e s. s;
  grows = λ d ne r. grows_same d r h.world.rump.journal;
  closed = λ n a is. grows_same c (number n) h.world.rump.journal;
  news = moves.news;
  lane = moves.lane;
  fine = moves.fine;
  lost = moves.lost;
  faults = λ d broke. subst (λ (n : ℕ). 0 < n) (sym (faults_stay h c happens answer ks ls moves d)) broke;
}

-- ---- an answer with which the client stays

-- nothing is asked or told
pub record IsQuietReply (c : ConnNo) (happens : Event) (answer : ClientReply) : Type 0 where
  pub quiet : (d : ConnNo) → IsQuietFor d (record { event = happens; reply = reply.Client answer })
  pub sane : IsSane answer
  pub lost : (d : ConnNo) → lost_on happens (reply.Client answer) ≡ Some d → d ≡ c

module _ (h : History) (c : ConnNo) (happens : Event) (answer : ClientReply) (same : IsQuietReply c happens answer) where
  quiet_moves : (n : ℕ) (a : Ask) → IsIn a (asks c n happens (reply.Client answer)) → HasNone h.world.rump.journal c (number n)
  quiet_moves n a is = quiet_news a (asks c n happens (reply.Client answer)) ((same.quiet c).asks n) is

  -- over a connection that speaks, where the answer doesn't say that the link is gone
  pub alive_stays : (k : Client) (l : Link) (x : Connection) → IsAlive h c k l x → ((d : ConnNo) → lost_on happens (reply.Client answer) ≡ Some d → ⊥)
      → Goes h c happens (client_plays h.world c (answer, k))
  alive_stays k l x alive whole = moves_goes h c happens (reply.Client answer) (insert h.world.clients c.0 k) h.world.links (record {
    clients = λ d ne. get_put_other h.world.clients c.0 k d ne;
    links = λ d ne. refl;
    faults = refl;
    quiet = λ d ne. same.quiet d;
    news = quiet_moves;
    lane = Alive k l x (get_put h.world.clients c.0 k) alive.link alive.there alive.opened alive.runs
        (quiet_speaks c k l x _ h.log h.world.rump.journal (same.quiet c) alive.speaks);
    fine = same.sane;
    lost = λ d e. absurd (whole d e);
  })

  -- over one that was left by its link
  pub broken_stays : (k : Client) (l : Link) → IsBroken h c k l → Goes h c happens (client_plays h.world c (answer, k))
  broken_stays k l broken = moves_goes h c happens (reply.Client answer) (insert h.world.clients c.0 k) h.world.links (record {
    clients = λ d ne. get_put_other h.world.clients c.0 k d ne;
    links = λ d ne. refl;
    faults = refl;
    quiet = λ d ne. same.quiet d;
    news = quiet_moves;
    lane = Broken k l (get_put h.world.clients c.0 k) broken.link broken.over broken.opened broken.gone broken.down broken.broke
        (quiet_left c k _ h.log h.world.rump.journal (same.quiet c) broken.left);
    fine = same.sane;
    lost = λ d e. broke_there h c k l broken d (same.lost d e);
  })
