-- What every lane says of a request: it wasn't asked for, it wasn't collected, or it was.
use Rattle.std.proofs.Common.{◌≡◌, inl, inr, ℕ, Bool, List, [], ◌∷◌, Option, Some, sym, ap, subst, ◌∙◌, slice_get}
use Rattle.sp_base.specs.declared.names.ConnNo.{ConnNo}
use Rattle.kern_model.specs.declared.journal.Entry.{Entry}
use Rattle.hub_model.specs.State.{Connection}
use Rattle.hub_law.specs.Serves.{StandsAt}
use Rattle.client_model.specs.State.{Client, Open}
use Rattle.client_model.specs.declared.event.Reply.{Reply as ClientReply}
use Rattle.world_model.specs.Host.{read_for}
use Rattle.world_model.specs.Log.{Ask, IsIn, asked, told}
use Rattle.world_model.specs.Once.{IsOpOf}
use Rattle.world_model.specs.Run.{Item}
use Rattle.world_model.specs.State.{Link}
use Rattle.world_model.proofs.Lane.{Lane, slice_of}
use Rattle.world_model.proofs.Lane.Lane.{Absent, Alive, Broken, Closed}
use Rattle.world_model.proofs.Left.{Ended, LeftAt, OverAt}
use Rattle.world_model.proofs.Left.Ended.{Answered, Lost}
use Rattle.world_model.proofs.Left.LeftAt.{Unasked, Waiting, Has, Collected}
use Rattle.world_model.proofs.Left.OverAt.{Never, Dropped, Finished}
use Rattle.world_model.proofs.Slice.{Slice, number}
use Rattle.world_model.proofs.Stage.{At, Entered, Stage, ask_of}
use Rattle.world_model.proofs.Stage.Entered.{NotYet, Once}
use Rattle.world_model.proofs.Stage as stage

-- what a stage says of a request, whatever becomes of its connection
pub stage_over : (journal : List Entry) (c : ConnNo) (n : ℕ) (σ : Slice) (s : Stage) → At journal c n σ s → OverAt journal c n σ.asked σ.told
stage_over journal c n σ stage.Stage.Fresh h = Never h.asked h.told h.fact
stage_over journal c n σ (stage.Stage.Sent ask says) h = Dropped ask h.asked h.told (NotYet h.fact.2)
stage_over journal c n σ (stage.Stage.Held a got) h = Dropped (ask_of a) h.asked h.told (NotYet h.fact.none)
stage_over journal c n σ (stage.Stage.Asking a got need) h = Dropped (ask_of a) h.asked h.told (NotYet h.fact.gathering.none)
stage_over journal c n σ (stage.Stage.Copying a got need) h = Dropped (ask_of a) h.asked h.told (NotYet h.fact.gathering.none)
stage_over journal c n σ (stage.Stage.Failing a why) h = Dropped (ask_of a) h.asked h.told (NotYet h.fact.none)
stage_over journal c n σ (stage.Stage.Telling ask indexes now index todo says) h = Dropped ask h.asked h.told h.fact.entered
stage_over journal c n σ (stage.Stage.Told ask indexes now what) h = Dropped ask h.asked h.told h.fact.entered
stage_over journal c n σ (stage.Stage.Closed ask answer) h = Finished ask answer h.asked h.told (Answered h.fact)

-- what is known of a request whose link broke, whatever becomes of its connection
pub left_over : (journal : List Entry) (c : ConnNo) (n : ℕ) (asked : List Ask) (told : List ClientReply) (request : Option Open)
    → LeftAt journal c n asked told request → OverAt journal c n asked told
left_over journal c n asked told request (Unasked a t r none) = Never a t none
left_over journal c n asked told request (Waiting ask indexes now a t r entered changes) = Dropped ask a t entered
left_over journal c n asked told request (Has ask indexes now what a t r is) = Dropped ask a t is.entered
left_over journal c n asked told request (Collected ask answer a t r ended) = Finished ask answer a t ended

-- what a lane says of each of its requests
pub lane_over : (c : ConnNo) (opened : Option ℕ) (halted : Bool) (k : Option Client) (l : Option Link) (x : Option Connection)
    (log : List Item) (journal : List Entry)
    → Lane c opened halted k l x log journal → (n : ℕ) → OverAt journal c n (asked c n log) (told c n log)
lane_over c opened halted k l x log journal (Absent a b d overs none) n = overs n
lane_over c opened halted k l x log journal (Alive k' l' x' a b d o h speaks) n =
    let stands = speaks.each n in stage_over journal c n (slice_of c n k' l' x' log) stands.0 stands.1
lane_over c opened halted k l x log journal (Broken k' l' a b d o e empty faults lefts) n =
    left_over journal c n (asked c n log) (told c n log) _ (lefts n)
lane_over c opened halted k l x log journal (Closed l' a b d o empty overs) n = overs n

-- ---- entries

-- a request that was closed after its link broke has no entry, or just its own
pub ended_entered : (journal : List Entry) (c : ConnNo) (n : ℕ) (ask : Ask) (answer : ClientReply) → Ended journal c n ask answer → Entered journal c n ask
ended_entered journal c n ask answer (Answered is) = is.told.entered
ended_entered journal c n ask answer (Lost mem is changes entered) = entered

-- an entry is what an ask comes to
pub record IsOf (ask : Ask) (e : Entry) : Type 0 where
  pub operation : IsOpOf ask.what e.op
  pub reads : e.ins ≡ read_for e.op ask.mem

-- the entry of a request is what was asked for
pub entered_is : (journal : List Entry) (c : ConnNo) (n : ℕ) (ask : Ask) (place : ℕ) (e : Entry) → Entered journal c n ask
    → StandsAt journal c (number n) place e → IsOf ask e
entered_is journal c n ask place e (NotYet none) at = absurd (none place e at)
entered_is journal c n ask place e (Once p f is) at =
    let here : place ≡ p = is.only place e at in
    let same : f ≡ e = (let k : Some f ≡ Some e = sym is.stands.0 ∙ (ap (λ (n : ℕ). slice_get journal n) (sym here) ∙ at.0) in cc) in
    subst (λ (e : Entry). IsOf ask e) same (record { operation = is.operation; reads = is.reads })

-- a request that has an entry was asked for once, and the entry is what was asked for
pub record Asks (asked : List Ask) (e : Entry) : Type 0 where
  pub ask : Ask
  pub one : asked ≡ ask ∷ []
  pub of : IsOf ask e

-- an entry's request was asked for
pub over_asks : (journal : List Entry) (c : ConnNo) (n : ℕ) (asked : List Ask) (told : List ClientReply) (place : ℕ) (e : Entry)
    → OverAt journal c n asked told → StandsAt journal c (number n) place e → Asks asked e
over_asks journal c n asked told place e (Never a t none) at = absurd (none place e at)
over_asks journal c n asked told place e (Dropped ask a t entered) at = record { ask = ask; one = a; of = entered_is journal c n ask place e entered at }
over_asks journal c n asked told place e (Finished ask answer a t ended) at =
    record { ask = ask; one = a; of = entered_is journal c n ask place e (ended_entered journal c n ask answer ended) at }

-- ---- replies

-- a reply that was collected is the one that closed the one request
pub record Closes (journal : List Entry) (c : ConnNo) (n : ℕ) (asked : List Ask) (answer : ClientReply) : Type 0 where
  pub ask : Ask
  pub one : asked ≡ ask ∷ []
  pub ended : Ended journal c n ask answer

only_closes : (journal : List Entry) (c : ConnNo) (n : ℕ) (asked : List Ask) (ask : Ask) (first answer : ClientReply) → asked ≡ ask ∷ []
    → Ended journal c n ask first → IsIn answer (first ∷ []) → Closes journal c n asked answer
only_closes journal c n asked ask first answer a ended (inl same) =
    record { ask = ask; one = a; ended = subst (λ (r : ClientReply). Ended journal c n ask r) same ended }
only_closes journal c n asked ask first answer a ended (inr none) = absurd none

-- what was collected closed its request
pub over_closes : (journal : List Entry) (c : ConnNo) (n : ℕ) (asked : List Ask) (told : List ClientReply) (answer : ClientReply)
    → OverAt journal c n asked told → IsIn answer told → Closes journal c n asked answer
over_closes journal c n asked told answer (Never a t none) i = absurd (subst (λ (l : List ClientReply). IsIn answer l) t i)
over_closes journal c n asked told answer (Dropped ask a t entered) i = absurd (subst (λ (l : List ClientReply). IsIn answer l) t i)
over_closes journal c n asked told answer (Finished ask first a t ended) i =
    only_closes journal c n asked ask first answer a ended (subst (λ (l : List ClientReply). IsIn answer l) t i)

-- a request is answered once
pub over_once : (journal : List Entry) (c : ConnNo) (n : ℕ) (asked : List Ask) (told : List ClientReply) (first second : ClientReply) (more : List ClientReply)
    → OverAt journal c n asked told → told ≡ first ∷ second ∷ more → ⊥
over_once journal c n asked told first second more (Never a t none) e = cc
over_once journal c n asked told first second more (Dropped ask a t entered) e = cc
over_once journal c n asked told first second more (Finished ask answer a t ended) e = cc
