-- The memory that is lent for a call changes where the call may write alone.
use Rattle.std.proofs.Common.{◌≡◌, inl, inr, ℕ, true, false, List, [], ◌∷◌, length, Some, refl, subst, arith}
use Rattle.std.specs.FinMap.{get}
use Rattle.std.specs.List.{list_any}
use Rattle.std.proofs.lemmas.Bool.{or_cases, or_parts}
use Rattle.std.proofs.lemmas.Grind.{common_steps}
use Rattle.std.proofs.lemmas.Bool.Decides.{nat_tests}
use Rattle.sp_base.specs.Needs.{outs_of}
use Rattle.sp_base.specs.declared.call.Call.{Call}
use Rattle.sp_base.specs.declared.names.Caller.{Caller}
use Rattle.sp_base.specs.declared.names.ReqNo.{ReqNo}
use Rattle.sp_base.specs.declared.need.Range.{Range}
use Rattle.sp_copy.specs.Delivering.{in_pieces, put_piece}
use Rattle.sp_copy.specs.Parts.{in_range}
use Rattle.sp_copy.specs.Writing.{ChangesOnly}
use Rattle.sp_copy.specs.declared.delivery.Delivery.{Delivery}
use Rattle.sp_copy.specs.declared.part.Part.{Part}
use Rattle.sp_copy.proofs.Deliveries.{after, pieces_change, wider}
use Rattle.sp_copy.proofs.Places.{all_stay}
use Rattle.sp_frames.specs.declared.frame.Body.TheVariants as body
use Rattle.client_model.specs.Fitness.{fits_request, lies_inside, may_write}
use Rattle.client_model.specs.Machine.{Plays}
use Rattle.client_model.specs.Requests.{over, call_body, collected}
use Rattle.client_model.specs.State.{Open, Client}
use Rattle.client_model.specs.Told.{WasStarted, is_allowed, is_refusal, memory_back}
use Rattle.client_model.specs.declared.event.Event.TheVariants as event
use Rattle.client_model.specs.declared.event.Reply.{Reply}
use Rattle.client_model.specs.declared.event.Reply.TheVariants as reply
use Rattle.client_model.specs.declared.request.Ending.{Ending}
use Rattle.client_model.specs.declared.request.Ending.TheVariants as ending
use Rattle.client_model.specs.declared.request.Request.{Request}
use Rattle.client_model.specs.declared.request.Request.TheVariants as request
use Rattle.client_model.specs.declared.request.Response.{Response}
use Rattle.client_model.specs.declared.request.Response.TheVariants as response
use Rattle.client_model.proofs.Kept.{IsKept, Stays, given_kept, runs_kept}
use Rattle.client_model.proofs.Steps.{start_cases, collect_cases, plays_cases}

no_address : (addr len : ℕ) (range : Range) (a : ℕ) → lies_inside addr len range ≡ true → in_range range.addr range.len a ≡ false → in_range addr len a ≡ false
no_address addr len range a inside out = grind (arith, nat_tests, common_steps)

-- an address that no range has is in no piece that lies inside one of them
outside : (addr len : ℕ) (ranges : List Range) (a : ℕ) → list_any (lies_inside addr len) ranges ≡ true → list_any (λ range. in_range range.addr range.len a) ranges ≡ false → in_range addr len a ≡ false
outside addr len [] a inside out = absurd (cc)
outside addr len (range ∷ ranges) a inside out =
    let here = or_parts (in_range range.addr range.len a) (list_any (λ range. in_range range.addr range.len a) ranges) out in
    elim (or_cases (lies_inside addr len range) (list_any (lies_inside addr len) ranges) inside) [
      | inl first ↦ no_address addr len range a first here.0
      | inr later ↦ outside addr len ranges a later here.1
    ]

-- bytes that a call may write change its memory where it may write alone
put_allowed : (call : Call) (d : Delivery) (addr : ℕ) (bytes : List ℕ) → may_write call addr (length bytes) ≡ true → ChangesOnly (is_allowed call) d.mem (put_piece d (record { addr = addr; bytes = bytes })).mem
put_allowed call d addr bytes may =
    wider (in_pieces (record { addr = addr; bytes = bytes } ∷ [])) (is_allowed call) (λ a out. rw (outside addr (length bytes) (outs_of call) a may out) refl) d.mem _ (pieces_change d (record { addr = addr; bytes = bytes } ∷ []))

-- a request is for a call, and its memory is the one that was lent but where the call may write
pub record IsFor (call : Call) (mem : List Part) (x : Open) : Type 0 where
  pub asks : x.request ≡ request.Call call
  pub changes : ChangesOnly (is_allowed call) mem x.delivery.mem

for_stays : (call : Call) (mem : List Part) → Stays (IsFor call mem)
for_stays call mem = record {
  asks = λ x asked for. record { asks = for.asks; changes = for.changes };
  puts = λ x index addr bytes fits for. record {
    asks = for.asks;
    changes = after (is_allowed call) mem x.delivery.mem _ for.changes (put_allowed call x.delivery addr bytes
        (subst (λ (what : Request). fits_request what x.asked (body.Put index addr bytes) ≡ true) for.asks fits));
  };
  responds = λ x b what is fits for. record { asks = for.asks; changes = for.changes };
}

-- a call that starts has the memory that was lent for it
starts_lent : (call : Call) (mem : List Part) (r : ReqNo) (old : Client) (caller : Caller) (new : Client) → Plays old (event.Start caller call mem) (reply.Started r) new → IsKept (IsFor call mem) r.0 new
starts_lent call mem r old caller new =
    given_kept (IsFor call mem) old new (event.Start caller call mem) (request.Call call) (call_body call) mem r refl (record { asks = refl; changes = all_stay (is_allowed call) mem })

-- the memory of a call at any time
pub open_changes : (now : Client) (call : Call) (mem : List Part) (r : ReqNo) (x : Open) → WasStarted call mem r now → get now.requests r.0 ≡ Some x → ChangesOnly (is_allowed call) mem x.delivery.mem
open_changes now call mem r x was at =
    let given = was.1 in
    ((runs_kept (IsFor call mem) r.0 (for_stays call mem) given.after now given.exchanges (starts_lent call mem r given.before was.0 given.after given.starts) given.runs).each x at).changes

-- the memory of a call that is collected
pub back_changes : (now new : Client) (call : Call) (mem back : List Part) (r : ReqNo) (answer : Reply) → WasStarted call mem r now → Plays now (event.Collect r) answer new → is_refusal answer ≡ false → memory_back answer ≡ Some back → ChangesOnly (is_allowed call) mem back
back_changes now new call mem back r answer was plays =
    plays_cases (λ a k. is_refusal a ≡ false → memory_back a ≡ Some back → ChangesOnly (is_allowed call) mem back) now (event.Collect r) answer new
    (collect_cases (λ p. is_refusal p.0 ≡ false → memory_back p.0 ≡ Some back → ChangesOnly (is_allowed call) mem back) now r (record {
      unknown = λ no is. absurd (cc);
      not_yet = λ no is. absurd (cc);
      over = λ x e at no is. same x at (ended x e is);
      done = λ x what at has no is. same x at (given x what is);
    })) (λ no is. absurd (cc)) plays
  where
    ended : (x : Open) (e : Ending) → memory_back (over e x.delivery.mem) ≡ Some back → x.delivery.mem ≡ back
    ended x ending.Gone is = cc
    ended x ending.Broken is = cc

    given : (x : Open) (what : Response) → memory_back (collected what x.delivery) ≡ Some back → x.delivery.mem ≡ back
    given x (response.Joined pid) is = absurd (cc)
    given x (response.Imaged pid place) is = absurd (cc)
    given x (response.Forked cookie place pid) is = absurd (cc)
    given x response.Cancelled is = absurd (cc)
    given x (response.ExecReady cookie) is = absurd (cc)
    given x (response.Answered answer) is = cc
    given x (response.Refused why) is = cc

    same : (x : Open) → get now.requests r.0 ≡ Some x → x.delivery.mem ≡ back → ChangesOnly (is_allowed call) mem back
    same x at is = subst (ChangesOnly (is_allowed call) mem) is (open_changes now call mem r x was at)

-- the memory of a call that doesn't start
pub refused_same : (old new : Client) (caller : Caller) (call : Call) (mem back : List Part) (answer : Reply) → Plays old (event.Start caller call mem) answer new → memory_back answer ≡ Some back → back ≡ mem
refused_same old new caller call mem back answer plays =
    plays_cases (λ a k. memory_back a ≡ Some back → back ≡ mem) old (event.Start caller call mem) answer new
    (start_cases (λ p. memory_back p.0 ≡ Some back → back ≡ mem) old (request.Call call) (call_body call) mem (record {
      over = λ e is. ended e;
      not_yet = λ is. cc;
      busy = λ is. cc;
      starts = λ no. absurd (cc);
    })) (λ is. cc) plays
  where
    ended : (e : Ending) → memory_back (over e mem) ≡ Some back → back ≡ mem
    ended ending.Gone is = cc
    ended ending.Broken is = cc
