-- What each event may do: the cases of the client's machine.
use Rattle.std.proofs.Common.{◌≡◌, inl, inr, Bool, true, false, cond, List, [], ◌∷◌, Option, None, Some, refl, sym, subst}
use Rattle.std.specs.Prelude.{not}
use Rattle.std.specs.FinMap.{get}
use Rattle.sp_base.specs.declared.call.Call.{Call}
use Rattle.sp_base.specs.declared.names.Caller.{Caller}
use Rattle.sp_base.specs.declared.names.ReqNo.{ReqNo}
use Rattle.sp_copy.specs.declared.part.Part.{Part}
use Rattle.sp_frames.specs.declared.frame.Body.{Body}
use Rattle.sp_frames.specs.declared.frame.Body.TheVariants as body
use Rattle.sp_frames.specs.declared.frame.Frame.{Frame}
use Rattle.client_model.specs.Asks.{goes_on}
use Rattle.client_model.specs.Fitness.{may_come}
use Rattle.client_model.specs.Machine.{played, lent, Plays, take_from, take_in, frame_by, frame_if, gone_by}
use Rattle.client_model.specs.Requests.{is_busy, over, start_now, start_by, call_body, wanted, want_body, collected, collect_at, collect_by, collect_unanswered, closed}
use Rattle.client_model.specs.State.{Open, Client, Played}
use Rattle.client_model.specs.declared.event.Event.{Event}
use Rattle.client_model.specs.declared.event.Event.TheVariants as event
use Rattle.client_model.specs.declared.event.Reply.{Reply}
use Rattle.client_model.specs.declared.event.Reply.TheVariants as reply
use Rattle.client_model.specs.declared.event.Want.{Want}
use Rattle.client_model.specs.declared.request.Ending.{Ending}
use Rattle.client_model.specs.declared.request.Ending.TheVariants as ending
use Rattle.client_model.specs.declared.request.Request.{Request}
use Rattle.client_model.specs.declared.request.Request.TheVariants as request
use Rattle.client_model.specs.declared.request.Response.{Response}

-- what holds of each case of a start holds of it
pub record StartCases (P : Played → Type 0) (k : Client) (asks : Request) (says : Body) (mem : List Part) : Type 0 where
  pub over : (e : Ending) → k.ending ≡ Some e → P (over e mem, k)
  pub not_yet : P (reply.NotYet mem, k)
  pub busy : P (reply.Busy mem, k)
  pub starts : P (start_now k asks says mem)

pub start_cases : (P : Played → Type 0) (k : Client) (asks : Request) (says : Body) (mem : List Part) → StartCases P k asks says mem → P (start_by k asks says mem k.ending)
start_cases P k asks says mem cases = by_ending k.ending refl
  where
    by_busy : (b : Bool) → P (cond b (reply.Busy mem, k) (start_now k asks says mem))
    by_busy true = cases.busy
    by_busy false = cases.starts

    by_ready : (b : Bool) → P (cond (not b) (reply.NotYet mem, k) (cond (is_busy k) (reply.Busy mem, k) (start_now k asks says mem)))
    by_ready false = cases.not_yet
    by_ready true = by_busy (is_busy k)

    by_ending : (e : Option Ending) → k.ending ≡ e → P (start_by k asks says mem e)
    by_ending None is = by_ready k.ready
    by_ending (Some e) is = cases.over e is

-- what holds of each case of a frame holds of it
pub record FrameCases (P : Played → Type 0) (k : Client) (f : Frame) : Type 0 where
  pub nothing : P (reply.Nothing, k)
  pub bad : k.ending ≡ None → P (reply.BadServer f, record k { ending = Some ending.Broken })
  pub fits : (x : Open) → get k.requests f.number.0 ≡ Some x → may_come (Some x) f.body ≡ true → k.ending ≡ None → P (reply.Nothing, goes_on k f.number x f.body)

pub frame_cases : (P : Played → Type 0) (k : Client) (f : Frame) → FrameCases P k f → P (frame_by k f k.ending)
frame_cases P k f cases = by_ending k.ending refl
  where
    by_found : k.ending ≡ None → (o : Option Open) → get k.requests f.number.0 ≡ o → may_come o f.body ≡ true → P (take_in k f o)
    by_found whole None at fits = cases.nothing
    by_found whole (Some x) at fits = cases.fits x at fits whole

    by_test : k.ending ≡ None → (b : Bool) → may_come (get k.requests f.number.0) f.body ≡ b → P (frame_if k f b)
    by_test whole true fits = by_found whole (get k.requests f.number.0) refl fits
    by_test whole false fits = cases.bad whole

    by_ending : (e : Option Ending) → k.ending ≡ e → P (frame_by k f e)
    by_ending None is = by_test is (may_come (get k.requests f.number.0) f.body) refl
    by_ending (Some e) is = cases.nothing

-- what holds of each case of a collected request holds of it
pub record CollectCases (P : Played → Type 0) (k : Client) (r : ReqNo) : Type 0 where
  pub unknown : P (reply.Unknown, k)
  pub not_yet : P (reply.NotYet [], k)
  pub over : (x : Open) (e : Ending) → get k.requests r.0 ≡ Some x → P (over e x.delivery.mem, closed k r)
  pub done : (x : Open) (what : Response) → get k.requests r.0 ≡ Some x → x.response ≡ Some what → P (collected what x.delivery, closed k r)

pub collect_cases : (P : Played → Type 0) (k : Client) (r : ReqNo) → CollectCases P k r → P (collect_at k r (get k.requests r.0))
collect_cases P k r cases = by_found (get k.requests r.0) refl
  where
    by_ending : (x : Open) → get k.requests r.0 ≡ Some x → (e : Option Ending) → P (collect_unanswered k r x e)
    by_ending x at None = cases.not_yet
    by_ending x at (Some e) = cases.over x e at

    by_response : (x : Open) → get k.requests r.0 ≡ Some x → (o : Option Response) → x.response ≡ o → P (collect_by k r x o)
    by_response x at None none = by_ending x at k.ending
    by_response x at (Some what) has = cases.done x what at has

    by_found : (o : Option Open) → get k.requests r.0 ≡ o → P (collect_at k r o)
    by_found None at = cases.unknown
    by_found (Some x) at = by_response x at x.response refl

-- what holds of each case of a frame that is handed out holds of it
pub record TakeCases (P : Played → Type 0) (k : Client) : Type 0 where
  pub nothing : P (reply.Nothing, k)
  pub out : (f : Frame) (queue : List Frame) → k.queue ≡ f ∷ queue → P (reply.Out f, record k { queue = queue })

pub take_cases : (P : Played → Type 0) (k : Client) → TakeCases P k → P (take_from k k.queue)
take_cases P k cases = by_queue k.queue refl
  where
    by_queue : (fs : List Frame) → k.queue ≡ fs → P (take_from k fs)
    by_queue [] is = cases.nothing
    by_queue (f ∷ queue) is = cases.out f queue is

-- what holds of each case of a link's end holds of it
pub record GoneCases (P : Played → Type 0) (k : Client) : Type 0 where
  pub nothing : P (reply.Nothing, k)
  pub gone : k.ending ≡ None → P (reply.Nothing, record k { ending = Some ending.Gone })

pub gone_cases : (P : Played → Type 0) (k : Client) → GoneCases P k → P (reply.Nothing, gone_by k k.ending)
gone_cases P k cases = by_ending k.ending refl
  where
    by_ending : (e : Option Ending) → k.ending ≡ e → P (reply.Nothing, gone_by k e)
    by_ending None is = cases.gone is
    by_ending (Some e) is = cases.nothing

-- what holds where an event is played, and where memory is wanted, holds of an event
pub plays_cases : (P : Reply → Client → Type 0) (old : Client) (e : Event) (answer : Reply) (new : Client)
    → P (played old e).0 (played old e).1 → P (reply.NoMemory (lent e)) old → Plays old e answer new → P answer new
plays_cases P old e answer new plays wants (inl same) = subst (λ (p : Played). P p.0 p.1) (sym same) plays
plays_cases P old e answer new plays wants (inr stays) = rw (stays.answers, stays.keeps) wants

-- ---- frames are handed out by Take alone

is_out : Reply → Bool
is_out (reply.Out f) = true
is_out _ = false

abbrev HandsOutNone : Reply → Type 0
HandsOutNone answer = (f : Frame) → answer ≡ reply.Out f → ⊥

ended_hands_out_none : (e : Ending) (mem : List Part) → HandsOutNone (over e mem)
ended_hands_out_none ending.Gone mem f is = cc
ended_hands_out_none ending.Broken mem f is = cc

asking_hands_out_none : (k : Client) (asks : Request) (says : Body) (mem : List Part) → HandsOutNone (start_by k asks says mem k.ending).0
asking_hands_out_none k asks says mem = start_cases (λ p. HandsOutNone p.0) k asks says mem (record {
  over = λ e is. ended_hands_out_none e mem;
  not_yet = λ f e. cc;
  busy = λ f e. cc;
  starts = λ f e. cc;
})

pub start_hands_out_none : (k : Client) (caller : Caller) (call : Call) (mem : List Part) (answer : Reply) (new : Client) (f : Frame) → Plays k (event.Start caller call mem) answer new → answer ≡ reply.Out f → ⊥
start_hands_out_none k caller call mem answer new f plays =
    plays_cases (λ a n. a ≡ reply.Out f → ⊥) k (event.Start caller call mem) answer new
    (asking_hands_out_none k (request.Call call) (call_body call) mem f) (λ e. cc) plays

pub prefork_hands_out_none : (k : Client) (caller : Caller) (want : Want) (answer : Reply) (new : Client) (f : Frame) → Plays k (event.Prefork caller want) answer new → answer ≡ reply.Out f → ⊥
prefork_hands_out_none k caller want answer new f plays =
    plays_cases (λ a n. a ≡ reply.Out f → ⊥) k (event.Prefork caller want) answer new
    (asking_hands_out_none k (wanted want) (want_body want) [] f) (λ e. cc) plays

pub preexec_hands_out_none : (k : Client) (caller : Caller) (answer : Reply) (new : Client) (f : Frame) → Plays k (event.Preexec caller) answer new → answer ≡ reply.Out f → ⊥
preexec_hands_out_none k caller answer new f plays =
    plays_cases (λ a n. a ≡ reply.Out f → ⊥) k (event.Preexec caller) answer new
    (asking_hands_out_none k request.Preexec body.Preexec [] f) (λ e. cc) plays

pub frame_hands_out_none : (k : Client) (came : Frame) (answer : Reply) (new : Client) (f : Frame) → Plays k (event.Frame came) answer new → answer ≡ reply.Out f → ⊥
frame_hands_out_none k came answer new f plays =
    plays_cases (λ a n. a ≡ reply.Out f → ⊥) k (event.Frame came) answer new
    (frame_cases (λ p. p.0 ≡ reply.Out f → ⊥) k came (record { nothing = λ e. cc; bad = λ whole e. cc; fits = λ x at may whole e. cc })) (λ e. cc) plays
