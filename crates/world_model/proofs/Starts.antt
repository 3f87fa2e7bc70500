-- Events by which a client is asked for a request: a call, a fork, a cookie.
use Rattle.std.proofs.Common.{◌≡◌, ◌≢◌, inl, inr, ℕ, ◌+◌, ◌<◌, ◌≤◌, Bool, true, false, List, [], ◌∷◌, ◌++◌, Option, Some, refl, sym, ap, ◌∙◌, subst, arith, append_assoc}
use Rattle.std.specs.Prelude.{not, if◌then◌else◌}
use Rattle.std.specs.FinMap.{insert}
use Rattle.sp_base.specs.declared.call.Call.{Call}
use Rattle.sp_base.specs.declared.names.Caller.{Caller}
use Rattle.sp_base.specs.declared.names.ConnNo.{ConnNo}
use Rattle.sp_copy.specs.declared.part.Part.{Part}
use Rattle.sp_frames.specs.declared.frame.Body.{Body}
use Rattle.sp_frames.specs.declared.frame.Body.TheVariants as body
use Rattle.sp_frames.specs.declared.frame.Frame.{Frame}
use Rattle.tables.proofs.Maps.{get_put, get_put_other, same_or_not}
use Rattle.hub_model.specs.State.{Connection}
use Rattle.hub_law.specs.Frames.{numbered}
use Rattle.hub_law.proofs.Keys.{HasNone}
use Rattle.client_model.specs.Requests.{call_body, is_busy, start_by, start_now, wanted, want_body}
use Rattle.client_model.specs.State.{Client, fresh_request, request_frame}
use Rattle.client_model.specs.declared.event.Reply.{Reply as ClientReply}
use Rattle.client_model.specs.declared.event.Reply.TheVariants as client_reply
use Rattle.client_model.specs.declared.event.Want.{Want}
use Rattle.client_model.specs.declared.event.Want.TheVariants.{Make, Cancel}
use Rattle.client_model.specs.declared.request.Ending.{Ending}
use Rattle.client_model.specs.declared.request.Request.TheVariants as request
use Rattle.world_model.specs.Log.{Ask, IsIn, asked, asks, started, tells, told}
use Rattle.world_model.specs.Machine.{client_plays, played}
use Rattle.world_model.specs.Once.{IsSane, lost_on}
use Rattle.world_model.specs.Run.{History, IsFitEvent, Item}
use Rattle.world_model.specs.State.{Link}
use Rattle.world_model.specs.declared.event.Event.{Event}
use Rattle.world_model.specs.declared.event.Event.TheVariants as event
use Rattle.world_model.specs.declared.event.Reply.TheVariants as reply
use Rattle.world_model.proofs.Kept.{Goes, Kept}
use Rattle.world_model.proofs.Lane.{Rises, Speaks, is_copy, slice_of}
use Rattle.world_model.proofs.Lane.Lane.{Alive}
use Rattle.world_model.proofs.Plays.{IsAlive, IsBroken, IsQuietReply, alive_stays, broken_stays, lane_goes, moves_goes}
use Rattle.world_model.proofs.Rises.{rises_more, rises_most}
use Rattle.world_model.proofs.Slice.{number}
use Rattle.world_model.proofs.Slices.{asked_elsewhere, asked_here, asked_other, fresh_at, pushed_here, pushed_other, quiet_news, same_connection, stands_same}
use Rattle.world_model.proofs.Stage.{At, IsBodyOf, IsNumberOf, Stands}
use Rattle.world_model.proofs.Stage.Stage.{Fresh, Sent}

-- ---- what these events have in common

-- a client's reply says that the link is gone
abbrev is_lost : ClientReply → Bool
is_lost (client_reply.Lost mem) = true
is_lost _ = false

-- a client is asked for a request, which a frame says
record IsAskBy (c : ConnNo) (happens : Event) (ask : Ask) (says : Body) : Type 0 where
  asks : (d : ConnNo) (n : ℕ) (answer : ClientReply) → asks d n happens (reply.Client answer) ≡ started d n c ask answer
  tells : (d : ConnNo) (n : ℕ) (answer : ClientReply) → tells d n happens (reply.Client answer) ≡ []
  lost : (d : ConnNo) (answer : ClientReply) → lost_on happens (reply.Client answer) ≡ Some d → (d ≡ c) × (is_lost answer ≡ true)
  fits : IsBodyOf ask.what says
  request : is_copy says ≡ false
  later : (n : ℕ) → 1 < n → IsNumberOf ask.what n

module _ (h : History) (c : ConnNo) (happens : Event) (ask : Ask) (says : Body) (by : IsAskBy c happens ask says) where
  -- ---- nothing starts

  no_start : (answer : ClientReply) → ((d : ConnNo) (n : ℕ) → started d n c ask answer ≡ []) → IsSane answer → IsQuietReply c happens answer
  no_start answer none sane = record {
    quiet = λ d. record { asks = λ n. by.asks d n answer ∙ none d n; tells = λ n. by.tells d n answer };
    sane = sane;
    lost = λ d e. (by.lost d answer e).0;
  }

  refused : (k : Client) (l : Link) (x : Connection) → IsAlive h c k l x → (answer : ClientReply)
      → ((d : ConnNo) (n : ℕ) → started d n c ask answer ≡ []) → IsSane answer
      → is_lost answer ≡ false → Goes h c happens (client_plays h.world c (answer, k))
  refused k l x alive answer none sane whole =
      alive_stays h c happens answer (no_start answer none sane) k l x alive (λ d e. let g = sym whole ∙ (by.lost d answer e).1 in cc)

  -- ---- a request starts

  module _ (k : Client) (l : Link) (x : Connection) (alive : IsAlive h c k l x) (ready : k.ready ≡ true) where
    -- the number that it is given
    abbrev given : ℕ
    given = k.last + 1

    abbrev answer : ClientReply
    answer = client_reply.Started (number given)

    abbrev item : Item
    item = record { event = happens; reply = reply.Client answer }

    -- the frame that says it
    abbrev frame : Frame
    frame = request_frame given says

    -- the client then
    abbrev now : Client
    now = (start_now k ask.what says ask.mem).1

    -- a handshake was taken, as the client speaks for a process
    taken : x.last ≢ 0
    taken e = let fresh = alive.speaks.begins e in let spoke = alive.speaks.ready ready in cc

    later : 1 < given
    later = above x.last k.last taken (rises_most x.last (l.up ++ k.queue) k.last alive.speaks.rises)
      where
        above : (last most : ℕ) → last ≢ 0 → last ≤ most → 1 < most + 1
        above last most ne le = elim (same_or_not last 0) [
          | inl e ↦ absurd (ne e)
          | inr other ↦ omega (arith, other, le)
        ]

    asked_now : (n : ℕ) → n ≢ given → asks c n happens (reply.Client answer) ≡ []
    asked_now n ne = by.asks c n answer ∙ asked_other c c n given ask (λ e. ne (sym e))

    up_is : l.up ++ (k.queue ++ frame ∷ []) ≡ l.up ++ k.queue ++ frame ∷ []
    up_is = sym (append_assoc l.up k.queue (frame ∷ []))

    before : At h.world.rump.journal c given (slice_of c given k l x h.log) Fresh
    before =
        let stands = alive.speaks.each given in
        fresh_at h.world.rump.journal c given (slice_of c given k l x h.log) (alive.speaks.above given (omega arith)) stands.0 stands.1

    here : Stands h.world.rump.journal c given (slice_of c given now l x (item ∷ h.log))
    here = (
      Sent ask says,
      record {
        asked = ap (λ (xs : List Ask). xs ++ asked c given h.log) (by.asks c given answer ∙ asked_here c given ask)
            ∙ ap (λ (xs : List Ask). ask ∷ xs) before.asked;
        told = ap (λ (xs : List ClientReply). xs ++ told c given h.log) (by.tells c given answer) ∙ before.told;
        request = get_put k.requests given (fresh_request ask.what ask.mem);
        up = ap (λ (fs : List Frame). numbered given fs) up_is ∙ pushed_here given (l.up ++ k.queue) frame refl
            ∙ ap (λ (fs : List Frame). fs ++ frame ∷ []) before.up;
        task = before.task;
        down = before.down;
        fact = (by.fits, by.later given later, before.fact);
      },
    )

    other : (n : ℕ) → n ≢ given → Stands h.world.rump.journal c n (slice_of c n now l x (item ∷ h.log))
    other n ne = stands_same h.world.rump.journal c n (slice_of c n k l x h.log) (slice_of c n now l x (item ∷ h.log)) (record {
      asked = ap (λ (xs : List Ask). xs ++ asked c n h.log) (asked_now n ne);
      told = ap (λ (xs : List ClientReply). xs ++ told c n h.log) (by.tells c n answer);
      request = get_put_other k.requests given (fresh_request ask.what ask.mem) n ne;
      up = ap (λ (fs : List Frame). numbered n fs) up_is ∙ pushed_other n (l.up ++ k.queue) frame (λ e. ne (sym e));
      task = refl;
      down = refl;
    }) (alive.speaks.each n)

    speaks_on : Speaks c now l x (item ∷ h.log) h.world.rump.journal
    speaks_on = record {
      each = λ n. elim (same_or_not n given) [
        | inl e ↦ subst (λ (n : ℕ). Stands h.world.rump.journal c n (slice_of c n now l x (item ∷ h.log))) (sym e) here
        | inr ne ↦ other n ne
      ];
      above = λ n lt. ap (λ (xs : List Ask). xs ++ asked c n h.log) (asked_now n (λ e. omega arith)) ∙ alive.speaks.above n (omega (arith, lt));
      rises = subst (λ (fs : List Frame). Rises x.last fs given) (sym up_is)
          (rises_more x.last (l.up ++ k.queue) k.last frame by.request refl alive.speaks.rises);
      goes_on = alive.speaks.goes_on;
      takes = alive.speaks.takes;
      begins = alive.speaks.begins;
      ready = alive.speaks.ready;
      first = λ e. absurd (let g = sym ready ∙ e in cc);
      welcome = alive.speaks.welcome;
    }

    starts_news : (n : ℕ) (a : Ask) → IsIn a (asks c n happens (reply.Client answer)) → HasNone h.world.rump.journal c (number n)
    starts_news n a is = elim (same_or_not n given) [
      | inl e ↦ subst (λ (n : ℕ). HasNone h.world.rump.journal c (number n)) (sym e) before.fact
      | inr ne ↦ quiet_news a (asks c n happens (reply.Client answer)) (asked_now n ne) is
    ]

    starts : Goes h c happens (client_plays h.world c (start_now k ask.what says ask.mem))
    starts = moves_goes h c happens (reply.Client answer) (insert h.world.clients c.0 now) h.world.links (record {
      clients = λ d ne. get_put_other h.world.clients c.0 now d ne;
      links = λ d ne. refl;
      faults = refl;
      quiet = λ d ne. record { asks = λ n. by.asks d n answer ∙ asked_elsewhere d c n given ask (λ e. ne (sym e)); tells = λ n. by.tells d n answer };
      news = starts_news;
      lane = Alive now l x (get_put h.world.clients c.0 now) alive.link alive.there alive.opened alive.runs speaks_on;
      fine = tt;
      lost = λ d e. absurd (let g = (by.lost d answer e).1 in cc);
    })

  -- ---- whatever is answered

  alive_goes : (k : Client) (l : Link) (x : Connection) → IsAlive h c k l x
      → Goes h c happens (client_plays h.world c (start_by k ask.what says ask.mem k.ending))
  alive_goes k l x alive =
      subst (λ (e : Option Ending). Goes h c happens (client_plays h.world c (start_by k ask.what says ask.mem e))) (sym alive.speaks.goes_on)
      (by_ready k.ready refl)
    where
      by_busy : k.ready ≡ true → (b : Bool)
          → Goes h c happens (client_plays h.world c (if b then (client_reply.Busy ask.mem, k) else start_now k ask.what says ask.mem))
      by_busy ready true = refused k l x alive (client_reply.Busy ask.mem) (λ d n. refl) tt refl
      by_busy ready false = starts k l x alive ready

      by_ready : (b : Bool) → k.ready ≡ b → Goes h c happens (client_plays h.world c (if not b then (client_reply.NotYet ask.mem, k)
          else if is_busy k then (client_reply.Busy ask.mem, k) else start_now k ask.what says ask.mem))
      by_ready false e = refused k l x alive (client_reply.NotYet ask.mem) (λ d n. refl) tt refl
      by_ready true e = by_busy e (is_busy k)

  broken_goes : (k : Client) (l : Link) → IsBroken h c k l → Goes h c happens (client_plays h.world c (start_by k ask.what says ask.mem k.ending))
  broken_goes k l broken =
      subst (λ (e : Option Ending). Goes h c happens (client_plays h.world c (start_by k ask.what says ask.mem e))) (sym broken.gone)
      (broken_stays h c happens (client_reply.Lost ask.mem) (no_start (client_reply.Lost ask.mem) (λ d n. refl) tt) k l broken)

-- ---- the events

start_is : (c : ConnNo) (caller : Caller) (call : Call) (mem : List Part) → IsFitEvent (event.Start c caller call mem)
    → IsAskBy c (event.Start c caller call mem) (record { what = request.Call call; mem = mem }) (call_body call)
start_is c caller call mem fit = record {
  asks = λ d n answer. refl;
  tells = λ d n answer. refl;
  lost = lost;
  fits = (refl, fit.0, fit.1);
  request = refl;
  later = λ n lt. lt;
}
  where
    lost : (d : ConnNo) (answer : ClientReply) → lost_on (event.Start c caller call mem) (reply.Client answer) ≡ Some d → (d ≡ c) × (is_lost answer ≡ true)
    lost d (client_reply.Lost back) e = (same_connection c d e, refl)
    lost d _ e = absurd (cc)

-- a call is asked for
pub start_goes : (memory : Bool) (h : History) (c : ConnNo) (caller : Caller) (call : Call) (mem : List Part) → Kept h
    → IsFitEvent (event.Start c caller call mem)
    → Goes h c (event.Start c caller call mem) (played memory h.world (event.Start c caller call mem))
start_goes memory h c caller call mem kept fit =
    let happens = event.Start c caller call mem in
    let by = start_is c caller call mem fit in
    lane_goes memory h c happens kept (record { alive = alive_goes h c happens _ _ by; broken = broken_goes h c happens _ _ by })

prefork_is : (c : ConnNo) (caller : Caller) (want : Want) → IsAskBy c (event.Prefork c caller want) (record { what = wanted want; mem = [] }) (want_body want)
prefork_is c caller want = record {
  asks = λ d n answer. refl;
  tells = λ d n answer. refl;
  lost = lost;
  fits = says want;
  request = no_copy want;
  later = later want;
}
  where
    lost : (d : ConnNo) (answer : ClientReply) → lost_on (event.Prefork c caller want) (reply.Client answer) ≡ Some d → (d ≡ c) × (is_lost answer ≡ true)
    lost d (client_reply.Lost back) e = (same_connection c d e, refl)
    lost d _ e = absurd (cc)

    says : (w : Want) → IsBodyOf (wanted w) (want_body w)
    says Make = tt
    says (Cancel cookie) = tt

    no_copy : (w : Want) → is_copy (want_body w) ≡ false
    no_copy Make = refl
    no_copy (Cancel cookie) = refl

    later : (w : Want) (n : ℕ) → 1 < n → IsNumberOf (wanted w) n
    later Make n lt = lt
    later (Cancel cookie) n lt = lt

-- a child is asked for, or that a cookie is taken back
pub prefork_goes : (memory : Bool) (h : History) (c : ConnNo) (caller : Caller) (want : Want) → Kept h
    → Goes h c (event.Prefork c caller want) (played memory h.world (event.Prefork c caller want))
prefork_goes memory h c caller want kept =
    let happens = event.Prefork c caller want in
    let by = prefork_is c caller want in
    lane_goes memory h c happens kept (record { alive = alive_goes h c happens _ _ by; broken = broken_goes h c happens _ _ by })

preexec_is : (c : ConnNo) (caller : Caller) → IsAskBy c (event.Preexec c caller) (record { what = request.Preexec; mem = [] }) body.Preexec
preexec_is c caller = record {
  asks = λ d n answer. refl;
  tells = λ d n answer. refl;
  lost = lost;
  fits = tt;
  request = refl;
  later = λ n lt. lt;
}
  where
    lost : (d : ConnNo) (answer : ClientReply) → lost_on (event.Preexec c caller) (reply.Client answer) ≡ Some d → (d ≡ c) × (is_lost answer ≡ true)
    lost d (client_reply.Lost back) e = (same_connection c d e, refl)
    lost d _ e = absurd (cc)

-- a cookie for the next program is asked for
pub preexec_goes : (memory : Bool) (h : History) (c : ConnNo) (caller : Caller) → Kept h
    → Goes h c (event.Preexec c caller) (played memory h.world (event.Preexec c caller))
preexec_goes memory h c caller kept =
    let happens = event.Preexec c caller in
    let by = preexec_is c caller in
    lane_goes memory h c happens kept (record { alive = alive_goes h c happens _ _ by; broken = broken_goes h c happens _ _ by })
