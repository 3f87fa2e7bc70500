-- What holds of every history, and what an event owes so that it holds on.
use Rattle.std.proofs.Common.{◌≡◌, ◌≢◌, ℕ, ◌<◌, List, [], ◌∷◌, Some}
use Rattle.std.specs.FinMap.{get}
use Rattle.sp_base.specs.declared.names.ConnNo.{ConnNo}
use Rattle.kern_model.specs.declared.journal.Entry.{Entry}
use Rattle.hub_model.specs.Sound.{IsOpened, IsSound}
use Rattle.hub_law.proofs.Keys.{Grows, HasNone, Stays}
use Rattle.hub_law.proofs.Lanes.{GrowsPast}
use Rattle.client_model.specs.declared.event.Reply.{Reply as ClientReply}
use Rattle.world_model.specs.After.{HappensAfter}
use Rattle.world_model.specs.Log.{Ask, IsIn, asks, tells, told}
use Rattle.world_model.specs.Once.{AreFine, IsFine, lost_on}
use Rattle.world_model.specs.Run.{History, Item}
use Rattle.world_model.specs.State.{Link, Played, World, faults_of}
use Rattle.world_model.specs.declared.event.Event.{Event}
use Rattle.world_model.proofs.Lane.{Beside, Lane}
use Rattle.world_model.proofs.Slice.{number}

-- the lane of a connection
abbrev pub lane_in : ConnNo → World → List Item → Type 0
lane_in c w log = Lane c w.rump.opened w.rump.halted (get w.clients c.0) (get w.links c.0) (get w.rump.connections c.0) log w.rump.journal

-- a client that said that its link is gone had one that broke
abbrev pub LostWhereBroken : World → List Item → Type 0
LostWhereBroken w log = (item : Item) (c : ConnNo) → IsIn item log → lost_on item.event item.reply ≡ Some c → 0 < faults_of (get w.links c.0)

pub record Kept (h : History) : Type 0 where
  pub sound : IsSound h.world.rump
  pub lanes : (c : ConnNo) → lane_in c h.world h.log
  pub fine : AreFine h.log
  pub lost : LostWhereBroken h.world h.log
  pub after : HappensAfter h

-- nothing is asked or told of other connections
pub record IsQuietFor (d : ConnNo) (item : Item) : Type 0 where
  pub asks : (n : ℕ) → asks d n item.event item.reply ≡ []
  pub tells : (n : ℕ) → tells d n item.event item.reply ≡ []

-- the log once an event was answered
abbrev pub logged : Event → Played → List Item → List Item
logged happens p log = record { event = happens; reply = p.0 } ∷ log

-- what an event of a connection owes: the parts of other connections are the same, but that a server's connection may be left; the journal grows, and by no
-- entry of a request of theirs, nor of one that was collected; what is asked for anew has no entry; and the connection's lane holds on
pub record Goes (h : History) (c : ConnNo) (happens : Event) (p : Played) : Type 0 where
  pub opened : (n : ℕ) → IsOpened h.world.rump.opened n → IsOpened p.1.rump.opened n
  pub halted : p.1.rump.halted ≡ h.world.rump.halted
  pub clients : (d : ConnNo) → d.0 ≢ c.0 → get p.1.clients d.0 ≡ get h.world.clients d.0
  pub links : (d : ConnNo) → d.0 ≢ c.0 → get p.1.links d.0 ≡ get h.world.links d.0
  pub connections : (d : ConnNo) → d.0 ≢ c.0 → Beside (get h.world.rump.connections d.0) (get p.1.rump.connections d.0)
  pub quiet : (d : ConnNo) → d.0 ≢ c.0 → IsQuietFor d (record { event = happens; reply = p.0 })
  pub stays : Stays h.world.rump.journal p.1.rump.journal
  pub grows : (d : ConnNo) → d.0 ≢ c.0 → GrowsPast d h.world.rump.journal p.1.rump.journal
  pub closed : (n : ℕ) (answer : ClientReply) → IsIn answer (told c n h.log) → Grows c (number n) h.world.rump.journal p.1.rump.journal
  pub news : (n : ℕ) (ask : Ask) → IsIn ask (asks c n happens p.0) → HasNone h.world.rump.journal c (number n)
  pub lane : lane_in c p.1 (logged happens p h.log)
  pub fine : IsFine p.0
  pub lost : (d : ConnNo) → lost_on happens p.0 ≡ Some d → 0 < faults_of (get p.1.links d.0)
  pub faults : (d : ConnNo) → 0 < faults_of (get h.world.links d.0) → 0 < faults_of (get p.1.links d.0)
