-- The stages of a request whose link is broken, or whose connection is closed.
use Rattle.std.proofs.Common.{◌≡◌, ℕ, List, [], ◌∷◌, Option, Some, None}
use Rattle.sp_base.specs.declared.names.ConnNo.{ConnNo}
use Rattle.sp_copy.specs.Writing.{ChangesOnly}
use Rattle.sp_copy.specs.declared.delivery.Delivery.{Delivery}
use Rattle.sp_copy.specs.declared.part.Part.{Part}
use Rattle.kern_model.specs.declared.journal.Entry.{Entry}
use Rattle.hub_law.proofs.Keys.{HasNone}
use Rattle.client_model.specs.State.{Open}
use Rattle.client_model.specs.declared.event.Reply.{Reply as ClientReply}
use Rattle.client_model.specs.declared.event.Reply.TheVariants as reply
use Rattle.client_model.specs.declared.request.Response.{Response}
use Rattle.world_model.specs.Log.{Ask}
use Rattle.world_model.specs.Once.{may_change}
use Rattle.world_model.proofs.Slice.{number}
use Rattle.world_model.proofs.Stage.{Entered, IsClosed, IsTold, open_of}

-- the reply that closed a request after the link broke: its response was right; or it is lost, and the memory differs where it may
pub data Ended (journal : List Entry) (c : ConnNo) (n : ℕ) (ask : Ask) (answer : ClientReply) : Type 0 where
  Answered : IsClosed journal c n ask answer → Ended journal c n ask answer
  Lost : (mem : List Part) → answer ≡ reply.Lost mem → ChangesOnly (may_change ask.what) ask.mem mem → Entered journal c n ask → Ended journal c n ask answer

-- of a request at a client that has learnt that its link is gone: it wasn't asked for; it has no response; it has one; or it was collected
pub data LeftAt (journal : List Entry) (c : ConnNo) (n : ℕ) (asked : List Ask) (told : List ClientReply) (request : Option Open) : Type 0 where
  Unasked : asked ≡ [] → told ≡ [] → request ≡ None → HasNone journal c (number n) → LeftAt journal c n asked told request
  Waiting : (ask : Ask) → (indexes : List ℕ) → (now : Delivery) → asked ≡ ask ∷ [] → told ≡ [] → request ≡ Some (open_of ask now indexes None)
      → Entered journal c n ask → ChangesOnly (may_change ask.what) ask.mem now.mem → LeftAt journal c n asked told request
  Has : (ask : Ask) → (indexes : List ℕ) → (now : Delivery) → (what : Response) → asked ≡ ask ∷ [] → told ≡ [] → request ≡ Some (open_of ask now indexes (Some what))
      → IsTold journal c n ask now what → LeftAt journal c n asked told request
  Collected : (ask : Ask) → (answer : ClientReply) → asked ≡ ask ∷ [] → told ≡ answer ∷ [] → request ≡ None → Ended journal c n ask answer
      → LeftAt journal c n asked told request

-- of a request of a connection that is there no more: it wasn't asked for; it wasn't collected; or it was
pub data OverAt (journal : List Entry) (c : ConnNo) (n : ℕ) (asked : List Ask) (told : List ClientReply) : Type 0 where
  Never : asked ≡ [] → told ≡ [] → HasNone journal c (number n) → OverAt journal c n asked told
  Dropped : (ask : Ask) → asked ≡ ask ∷ [] → told ≡ [] → Entered journal c n ask → OverAt journal c n asked told
  Finished : (ask : Ask) → (answer : ClientReply) → asked ≡ ask ∷ [] → told ≡ answer ∷ [] → Ended journal c n ask answer → OverAt journal c n asked told
