-- What holds of every history, in the law's words.
use Rattle.std.proofs.Common.{◌≡◌, ℕ, zero, suc, Bool, true, false, List, [], ◌∷◌, Some, refl, sym, ap, subst, ◌∙◌, slice_get}
use Rattle.std.specs.List.{AllByRecursion}
use Rattle.sp_base.specs.declared.names.Answer.{Answer}
use Rattle.sp_base.specs.declared.names.ConnNo.{ConnNo}
use Rattle.sp_base.specs.declared.names.ReqNo.{ReqNo}
use Rattle.sp_base.specs.declared.names.Pid.{Pid}
use Rattle.sp_base.specs.declared.call.Call.{Call}
use Rattle.sp_copy.specs.Delivering.{answer_after}
use Rattle.sp_copy.specs.declared.delivery.Delivery.{Delivery}
use Rattle.kern_model.specs.Journal.{HasOwnKeys}
use Rattle.kern_model.specs.declared.journal.Entry.{Entry}
use Rattle.kern_model.specs.declared.operation.Op.{Op}
use Rattle.kern_model.specs.declared.operation.Op.TheVariants as op
use Rattle.hub_model.specs.Frames.{answer_at}
use Rattle.hub_model.specs.Owners.{HasOwners}
use Rattle.hub_law.specs.Serves.{StandsAt}
use Rattle.client_model.specs.Requests.{collected}
use Rattle.client_model.specs.declared.event.Reply.{Reply as ClientReply}
use Rattle.client_model.specs.declared.request.Request.{Request}
use Rattle.client_model.specs.declared.request.Request.TheVariants as request
use Rattle.client_model.specs.declared.request.Response.{Response}
use Rattle.client_model.specs.declared.request.Response.TheVariants as response
use Rattle.world_model.specs.Host.{seen_at}
use Rattle.world_model.specs.Log.{Ask, IsIn, asked, told}
use Rattle.world_model.specs.Once.{GotOf, HappensOnce, IsHosted, IsOpOf, IsReplyOf, JoinedBy, Performs}
use Rattle.world_model.specs.Run.{History}
use Rattle.world_model.proofs.Kept.{Kept}
use Rattle.world_model.proofs.Left.{Ended, OverAt}
use Rattle.world_model.proofs.Left.Ended.{Answered, Lost}
use Rattle.world_model.proofs.Logs.{lost_told}
use Rattle.world_model.proofs.Over.{lane_over, over_asks, over_closes, over_once}
use Rattle.world_model.proofs.Stage.{IsDelivered, IsJoined, IsRight}

-- what is delivered changes no place
pub same_place : (whole : Bool) (answer : Answer) → (answer_after whole answer).place.0 ≡ answer.place.0
same_place true answer = refl
same_place false answer = refl

-- an operation that is a call's is that call
called : (call : Call) (done : Op) → IsOpOf (request.Call call) done → done ≡ op.Sys call
called call (op.Sys other) h = ap op.Sys h
called call op.Attach h = absurd h
called call op.Fork h = absurd h
called call op.Exec h = absurd h
called call op.Exit h = absurd h

-- the ask of a call, by what it asks
ask_is : (ask : Ask) (call : Call) → ask.what ≡ request.Call call → ask ≡ record { what = request.Call call; mem = ask.mem }
ask_is ask call h = ap (λ (what : Request). record ask { what = what }) h

module _ (h : History) (c : ConnNo) (r : ReqNo) (ask : Ask) (one : asked c r.0 h.log ≡ ask ∷ []) where
  got : (whole : Delivery) (answer : Answer) → (d : IsDelivered h.world.rump.journal c r.0 ask answer.place.0 whole)
      → answer ≡ answer_at d.entry.outcome answer.place.0 → GotOf h.world.rump.journal h.log c r (answer_after whole.whole answer) whole.mem
  got whole answer d is = record {
    call = d.call;
    lent = ask.mem;
    one = one ∙ ap (λ (a : Ask). a ∷ []) (ask_is ask d.call d.calls);
    entry = d.entry;
    stands = subst (λ (place : ℕ). StandsAt h.world.rump.journal c r place d.entry) (sym (same_place whole.whole answer)) d.of.stands;
    operation = called d.call d.entry.op (subst (λ (what : Request). IsOpOf what d.entry.op) d.calls d.of.operation);
    sees = subst (λ (place : ℕ). (answer_after whole.whole answer, whole.mem) ≡ seen_at place d.entry ask.mem) (sym (same_place whole.whole answer))
        (ap (λ (a : Answer). (answer_after whole.whole a, whole.mem)) is
        ∙ ap (λ (w : Delivery). (answer_after w.whole (answer_at d.entry.outcome answer.place.0), w.mem)) d.delivers);
  }

  joined : (what : Request) (pid : Pid) → IsJoined what h.world.rump.journal c r.0 pid → JoinedBy what h.world.rump.journal c r pid
  joined request.Attach pid is = is
  joined request.Join pid is = is
  joined request.Image pid is = absurd is
  joined (request.Call call) pid is = absurd is
  joined request.Prefork pid is = absurd is
  joined request.Cancel pid is = absurd is
  joined request.Preexec pid is = absurd is

  -- what is collected of a response that is right
  right_reply : (whole : Delivery) (what : Response) → IsRight h.world.rump.journal c r.0 ask whole what → IsReplyOf h c r (collected what whole)
  right_reply whole (response.Answered answer) is = got whole answer is.0 is.1
  right_reply whole (response.Joined pid) is = record { ask = ask; one = one; joined = joined ask.what pid is }
  right_reply whole (response.Imaged pid place) is = is
  right_reply whole (response.Forked cookie place pid) is = is
  right_reply whole response.Cancelled is = is
  right_reply whole (response.ExecReady cookie) is = is
  right_reply whole (response.Refused why) is = record { ask = ask; one = one; none = is.none; same = ap (λ (d : Delivery). d.mem) is.same }

  -- the reply that closed a request, while its link stood or after it broke
  ended_reply : (answer : ClientReply) → Kept h → IsIn answer (told c r.0 h.log) → Ended h.world.rump.journal c r.0 ask answer → IsReplyOf h c r answer
  ended_reply answer kept i (Answered is) =
      subst (λ (a : ClientReply). IsReplyOf h c r a) (sym is.reply) (right_reply is.whole is.what is.told.right)
  ended_reply answer kept i (Lost mem is changes entered) =
      let lost = lost_told c r.0 mem h.log (subst (λ (a : ClientReply). IsIn a (told c r.0 h.log)) is i) in
      subst (λ (a : ClientReply). IsReplyOf h c r a) (sym is)
      (record { ask = ask; one = one; changes = changes; broke = kept.lost lost.item c lost.there lost.says })

-- what holds of each item holds of the one at a place
all_at : {X : Type 0} (P : X → Type 0) (xs : List X) (place : ℕ) (x : X) → AllByRecursion P xs → slice_get xs place ≡ Some x → P x
all_at P [] place x h e = absurd (cc)
all_at P (y ∷ xs) zero x h e = let same : y ≡ x = cc in subst P same h.0
all_at P (y ∷ xs) (suc place) x h e = all_at P xs place x h.1 e

-- what a lane says of a request
over_of : (h : History) → Kept h → (c : ConnNo) (n : ℕ) → OverAt h.world.rump.journal c n (asked c n h.log) (told c n h.log)
over_of h kept c n = lane_over c _ _ _ _ _ h.log h.world.rump.journal (kept.lanes c) n

performs : (h : History) → Kept h → HasOwners h.world.rump → (c : ConnNo) (r : ReqNo) (place : ℕ) (e : Entry) → StandsAt h.world.rump.journal c r place e
    → Performs h.world.rump h.log c r e
performs h kept owners c r place e at =
    let is = over_asks h.world.rump.journal c r.0 (asked c r.0 h.log) (told c r.0 h.log) place e (over_of h kept c r.0) at in
    record {
      ask = is.ask;
      one = is.one;
      operation = is.of.operation;
      reads = is.of.reads;
      owner = all_at _ h.world.rump.journal place e owners.entries at.0 c r at.1;
    }

replies : (h : History) → Kept h → (c : ConnNo) (r : ReqNo) (answer : ClientReply) → IsIn answer (told c r.0 h.log) → IsReplyOf h c r answer
replies h kept c r answer i =
    let is = over_closes h.world.rump.journal c r.0 (asked c r.0 h.log) (told c r.0 h.log) answer (over_of h kept c r.0) i in
    ended_reply h c r is.ask is.one answer kept i is.ended

-- what holds of every history says all that the law says of what happened once
pub happens_once : (h : History) → Kept h → HasOwners h.world.rump → HasOwnKeys h.world.host → IsHosted h.log h.world.host → HappensOnce h
happens_once h kept owners own hosted = record {
  own = kept.sound.keys;
  own_host = own;
  performs = performs h kept owners;
  replies = replies h kept;
  once = λ c r first second more e. over_once h.world.rump.journal c r.0 (asked c r.0 h.log) (told c r.0 h.log) first second more (over_of h kept c r.0) e;
  fine = kept.fine;
  lost = kept.lost;
  hosted = hosted;
  owners = owners;
}
