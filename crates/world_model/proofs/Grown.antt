-- What holds of a request holds on while the journal grows by no entry of it.
use Rattle.std.proofs.Common.{◌≡◌, ℕ, List, [], ◌∷◌, Option, Some, refl, sym, ap, ◌∙◌, subst}
use Rattle.sp_base.specs.declared.names.ConnNo.{ConnNo}
use Rattle.sp_base.specs.declared.names.Pid.{Pid}
use Rattle.sp_copy.specs.declared.delivery.Delivery.{Delivery}
use Rattle.kern_model.specs.declared.journal.Entry.{Entry}
use Rattle.hub_law.specs.Serves.{StandsAt}
use Rattle.hub_law.proofs.Keys.{Grows, HasNone}
use Rattle.client_model.specs.State.{Open}
use Rattle.client_model.specs.declared.event.Reply.{Reply as ClientReply}
use Rattle.client_model.specs.declared.request.Request.{Request}
use Rattle.client_model.specs.declared.request.Request.TheVariants as request
use Rattle.client_model.specs.declared.request.Response.{Response}
use Rattle.client_model.specs.declared.request.Response.TheVariants as response
use Rattle.world_model.specs.Log.{Ask}
use Rattle.world_model.specs.Once.{AttachedOf, ForkedOf, ImagedOf}
use Rattle.world_model.proofs.Left.{Ended, LeftAt, OverAt}
use Rattle.world_model.proofs.Left.Ended.{Answered, Lost}
use Rattle.world_model.proofs.Left.LeftAt.{Unasked, Waiting, Has, Collected}
use Rattle.world_model.proofs.Left.OverAt.{Never, Dropped, Finished}
use Rattle.world_model.proofs.Slice.{Slice, number}
use Rattle.world_model.proofs.Stage.{At, Entered, Fact, IsClosed, IsDelivered, IsEntryOf, IsJoined, IsRight, IsTold, IsUndone, Stage, Stands}
use Rattle.world_model.proofs.Stage.Entered.{NotYet, Once}
use Rattle.world_model.proofs.Stage.Stage.{Fresh, Sent, Held, Asking, Copying, Failing, Telling, Told, Closed}

module _ (c : ConnNo) (n : ℕ) (old new : List Entry) (grows : Grows c (number n) old new) where
  pub none_grows : HasNone old c (number n) → HasNone new c (number n)
  none_grows none = λ p e s. none p e (grows.back p e s)

  stands_grows : (p : ℕ) (e : Entry) → StandsAt old c (number n) p e → StandsAt new c (number n) p e
  stands_grows p e s = (grows.stays p e s.0, s.1)

  entry_grows : (ask : Ask) (p : ℕ) (e : Entry) → IsEntryOf old c n ask p e → IsEntryOf new c n ask p e
  entry_grows ask p e h = record {
    stands = stands_grows p e h.stands;
    only = λ q f s. h.only q f (grows.back q f s);
    operation = h.operation;
    reads = h.reads;
  }

  pub entered_grows : (ask : Ask) → Entered old c n ask → Entered new c n ask
  entered_grows ask (NotYet none) = NotYet (none_grows none)
  entered_grows ask (Once p e h) = Once p e (entry_grows ask p e h)

  abbrev delivered_grows : (ask : Ask) (p : ℕ) (whole : Delivery) → IsDelivered old c n ask p whole → IsDelivered new c n ask p whole
  delivered_grows ask p whole d = record { call = d.call; calls = d.calls; entry = d.entry; of = entry_grows ask p d.entry d.of; delivers = d.delivers }

  joined_grows : (what : Request) (pid : Pid) → IsJoined what old c n pid → IsJoined what new c n pid
  joined_grows request.Attach pid h = record {
    entry = h.entry;
    place = h.place;
    stands = stands_grows h.place h.entry h.stands;
    operation = h.operation;
    process = h.process;
  }
  joined_grows request.Join pid h = none_grows h
  joined_grows _ pid h = absurd h

  pub right_grows : (ask : Ask) (whole : Delivery) (what : Response) → IsRight old c n ask whole what → IsRight new c n ask whole what
  right_grows ask whole (response.Answered answer) h = (delivered_grows ask answer.place.0 whole h.0, h.1)
  right_grows ask whole (response.Joined pid) h = joined_grows ask.what pid h
  right_grows ask whole (response.Imaged pid place) h =
      record { entry = h.entry; stands = stands_grows place.0 h.entry h.stands; operation = h.operation; process = h.process }
  right_grows ask whole (response.Forked cookie place pid) h =
      record { entry = h.entry; stands = stands_grows place.0 h.entry h.stands; operation = h.operation; child = h.child }
  right_grows ask whole response.Cancelled h = none_grows h
  right_grows ask whole (response.ExecReady cookie) h = none_grows h
  right_grows ask whole (response.Refused why) h = record { none = none_grows h.none; same = h.same }

  pub told_grows : (ask : Ask) (now : Delivery) (what : Response) → IsTold old c n ask now what → IsTold new c n ask now what
  told_grows ask now what h = record { entered = entered_grows ask h.entered; right = right_grows ask now what h.right }

  pub closed_grows : (ask : Ask) (answer : ClientReply) → IsClosed old c n ask answer → IsClosed new c n ask answer
  closed_grows ask answer h = record { whole = h.whole; what = h.what; told = told_grows ask h.whole h.what h.told; reply = h.reply }

  pub fact_grows : (s : Stage) → Fact old c n s → Fact new c n s
  fact_grows Fresh h = none_grows h
  fact_grows (Sent ask says) h = (h.0, h.1, none_grows h.2)
  fact_grows (Held a got) h = record { later = h.later; front = h.front; below = h.below; none = none_grows h.none }
  fact_grows (Asking a got need) h = record {
    gathering = record { later = h.gathering.later; front = h.gathering.front; below = h.gathering.below; none = none_grows h.gathering.none };
    next = h.next;
  }
  fact_grows (Copying a got need) h = record {
    gathering = record { later = h.gathering.later; front = h.gathering.front; below = h.gathering.below; none = none_grows h.gathering.none };
    next = h.next;
  }
  fact_grows (Failing a why) h = record { later = h.later; fails = h.fails; none = none_grows h.none }
  fact_grows (Telling ask indexes now index todo says) h = record {
    number = h.number;
    entered = entered_grows ask h.entered;
    kind = h.kind;
    inside = h.inside;
    changes = h.changes;
    what = h.what;
    brings = h.brings;
    right = right_grows ask _ h.what h.right;
  }
  fact_grows (Told ask indexes now what) h = told_grows ask now what h
  fact_grows (Closed ask answer) h = closed_grows ask answer h

  -- a request stays at its stage
  pub stage_grows : (σ τ : Slice) → τ ≡ σ → Stands old c n σ → Stands new c n τ
  stage_grows σ τ same h = subst (λ (τ : Slice). Stands new c n τ) (sym same) (
    h.0,
    record {
      asked = h.1.asked;
      told = h.1.told;
      request = h.1.request;
      up = h.1.up;
      task = h.1.task;
      down = h.1.down;
      fact = fact_grows h.0 h.1.fact;
    },
  )

  ended_grows : (ask : Ask) (answer : ClientReply) → Ended old c n ask answer → Ended new c n ask answer
  ended_grows ask answer (Answered h) = Answered (closed_grows ask answer h)
  ended_grows ask answer (Lost mem is changes h) = Lost mem is changes (entered_grows ask h)

  pub left_grows : (asked : List Ask) (told : List ClientReply) (request : Option Open) → LeftAt old c n asked told request → LeftAt new c n asked told request
  left_grows asked told request (Unasked a t r none) = Unasked a t r (none_grows none)
  left_grows asked told request (Waiting ask indexes now a t r h changes) = Waiting ask indexes now a t r (entered_grows ask h) changes
  left_grows asked told request (Has ask indexes now what a t r h) = Has ask indexes now what a t r (told_grows ask now what h)
  left_grows asked told request (Collected ask answer a t r h) = Collected ask answer a t r (ended_grows ask answer h)

  pub over_grows : (asked : List Ask) (told : List ClientReply) → OverAt old c n asked told → OverAt new c n asked told
  over_grows asked told (Never a t none) = Never a t (none_grows none)
  over_grows asked told (Dropped ask a t h) = Dropped ask a t (entered_grows ask h)
  over_grows asked told (Finished ask answer a t h) = Finished ask answer a t (ended_grows ask answer h)
