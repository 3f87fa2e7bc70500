-- A request is answered in kind.
use Rattle.std.proofs.Common.{◌≡◌, ℕ, true, List, [], Some, refl, sym, ◌∙◌, subst, arith}
use Rattle.std.specs.FinMap.{empty}
use Rattle.sp_base.specs.declared.names.ReqNo.{ReqNo}
use Rattle.sp_copy.specs.declared.delivery.Delivery.{Delivery}
use Rattle.sp_copy.specs.declared.part.Part.{Part}
use Rattle.sp_frames.specs.declared.frame.Body.{Body}
use Rattle.sp_frames.specs.declared.frame.Body.TheVariants as body
use Rattle.sp_frames.specs.declared.version.Version.{Version}
use Rattle.tables.proofs.Maps.{get_put}
use Rattle.client_model.specs.Fitness.{fits_request}
use Rattle.client_model.specs.Machine.{Plays}
use Rattle.client_model.specs.Requests.{call_body, collected, over, want_body, wanted}
use Rattle.client_model.specs.Run.{Exchange, Runs}
use Rattle.client_model.specs.State.{Client, Open, asked_by, fresh_client, fresh_request}
use Rattle.client_model.specs.Told.{WasGiven, asked_in, is_in_kind}
use Rattle.client_model.specs.declared.event.Event.{Event}
use Rattle.client_model.specs.declared.event.Event.TheVariants as event
use Rattle.client_model.specs.declared.event.Hello.{Hello}
use Rattle.client_model.specs.declared.event.Reply.{Reply}
use Rattle.client_model.specs.declared.event.Reply.TheVariants as reply
use Rattle.client_model.specs.declared.request.Ending.{Ending}
use Rattle.client_model.specs.declared.request.Ending.TheVariants as ending
use Rattle.client_model.specs.declared.request.Request.{Request}
use Rattle.client_model.specs.declared.request.Request.TheVariants as request
use Rattle.client_model.specs.declared.request.Response.{Response}
use Rattle.client_model.proofs.Kept.{IsKept, Stays, given_kept, response_in, runs_kept, some_is}
use Rattle.client_model.proofs.Steps.{collect_cases, plays_cases}

-- a response answers what was asked, whatever was delivered for it
abbrev Tells : Request → Response → Type 0
Tells what told = (d : Delivery) → is_in_kind what (collected told d) ≡ true

-- a request asks this, and its response answers it once it came
record IsOf (what : Request) (x : Open) : Type 0 where
  pub asks : x.request ≡ what
  pub told : (said : Response) → x.response ≡ Some said → Tells what said

-- ---- the response that may come answers what was asked

tells : (what : Request) (asked : List ℕ) (b : Body) (said : Response) → response_in b ≡ Some said → fits_request what asked b ≡ true → Tells what said
tells what asked (body.Refused kind why) said is fits d = subst (λ (s : Response). is_in_kind what (collected s d) ≡ true) (some_is _ _ is) refl
tells (request.Call call) asked (body.Answered answer) said is fits d = subst (λ (s : Response). is_in_kind (request.Call call) (collected s d) ≡ true) (some_is _ _ is) refl
tells request.Attach asked (body.Hello pid) said is fits d = subst (λ (s : Response). is_in_kind request.Attach (collected s d) ≡ true) (some_is _ _ is) refl
tells request.Join asked (body.Joined pid) said is fits d = subst (λ (s : Response). is_in_kind request.Join (collected s d) ≡ true) (some_is _ _ is) refl
tells request.Image asked (body.Imaged pid place) said is fits d = subst (λ (s : Response). is_in_kind request.Image (collected s d) ≡ true) (some_is _ _ is) refl
tells request.Prefork asked (body.Forked cookie place pid) said is fits d = subst (λ (s : Response). is_in_kind request.Prefork (collected s d) ≡ true) (some_is _ _ is) refl
tells request.Cancel asked body.Cancelled said is fits d = subst (λ (s : Response). is_in_kind request.Cancel (collected s d) ≡ true) (some_is _ _ is) refl
tells request.Preexec asked (body.ExecReady cookie) said is fits d = subst (λ (s : Response). is_in_kind request.Preexec (collected s d) ≡ true) (some_is _ _ is) refl
tells what asked b said is fits d = absurd (cc)

of_stays : (what : Request) → Stays (IsOf what)
of_stays what = record {
  asks = λ x asked of. record { asks = of.asks; told = of.told };
  puts = λ x index addr bytes fits of. record { asks = of.asks; told = of.told };
  responds = λ x b said is fits of. record {
    asks = of.asks;
    told = λ other same. subst (λ (s : Response). Tells what s) (some_is _ _ same)
        (tells what x.asked b said is (subst (λ (asks : Request). fits_request asks x.asked b ≡ true) of.asks fits));
  };
}

of_fresh : (what : Request) (mem : List Part) → IsOf what (fresh_request what mem)
of_fresh what mem = record { asks = refl; told = λ said no. absurd (cc) }

-- ---- a request that is collected

over_in_kind : (what : Request) (e : Ending) (mem : List Part) → is_in_kind what (over e mem) ≡ true
over_in_kind what ending.Gone mem = refl
over_in_kind what ending.Broken mem = refl

collected_in_kind : (what : Request) (now new : Client) (r : ReqNo) (answer : Reply) → IsKept (IsOf what) r.0 now → Plays now (event.Collect r) answer new → is_in_kind what answer ≡ true
collected_in_kind what now new r answer h plays =
    plays_cases (λ a k. is_in_kind what a ≡ true) now (event.Collect r) answer new
    (collect_cases (λ p. is_in_kind what p.0 ≡ true) now r (record {
      unknown = refl;
      not_yet = refl;
      over = λ x e at. over_in_kind what e x.delivery.mem;
      done = λ x said at has. (h.each x at).told said has x.delivery;
    })) refl plays

-- what an event asks holds of the request that it starts
starts_of : (old new : Client) (asks : Event) (what : Request) (r : ReqNo) → asked_in asks ≡ Some what → Plays old asks (reply.Started r) new → IsKept (IsOf what) r.0 new
starts_of old new (event.Start caller call mem) what r is plays = subst (λ (w : Request). IsKept (IsOf w) r.0 new) (some_is _ _ is)
    (given_kept (IsOf (request.Call call)) old new (event.Start caller call mem) (request.Call call) (call_body call) mem r refl (of_fresh (request.Call call) mem) plays)
starts_of old new (event.Prefork caller want) what r is plays = subst (λ (w : Request). IsKept (IsOf w) r.0 new) (some_is _ _ is)
    (given_kept (IsOf (wanted want)) old new (event.Prefork caller want) (wanted want) (want_body want) [] r refl (of_fresh (wanted want) []) plays)
starts_of old new (event.Preexec caller) what r is plays = subst (λ (w : Request). IsKept (IsOf w) r.0 new) (some_is _ _ is)
    (given_kept (IsOf request.Preexec) old new (event.Preexec caller) request.Preexec body.Preexec [] r refl (of_fresh request.Preexec []) plays)
starts_of old new _ what r is plays = absurd (cc)

-- a request that was asked is answered in kind
pub request_in_kind : (asks : Event) (what : Request) (r : ReqNo) (now new : Client) (answer : Reply) → WasGiven asks r now → asked_in asks ≡ Some what → Plays now (event.Collect r) answer new
    → is_in_kind what answer ≡ true
request_in_kind asks what r now new answer was is =
    collected_in_kind what now new r answer
    (runs_kept (IsOf what) r.0 (of_stays what) was.after now was.exchanges (starts_of was.before was.after asks what r is was.starts) was.runs)

-- the handshake of a client that begins
begins : (version : Version) (hello : Hello) → IsKept (IsOf (asked_by hello)) 1 (fresh_client version hello)
begins version hello = record {
  given = omega arith;
  each = λ x e. subst (IsOf (asked_by hello)) (some_is _ _ (sym (get_put empty 1 (fresh_request (asked_by hello) [])) ∙ e)) (of_fresh (asked_by hello) []);
}

-- it is answered in kind
pub handshake_in_kind : (version : Version) (hello : Hello) (exchanges : List Exchange) (now new : Client) (answer : Reply) → Runs (fresh_client version hello) exchanges now
    → Plays now (event.Collect (record { 0 = 1 })) answer new → is_in_kind (asked_by hello) answer ≡ true
handshake_in_kind version hello exchanges now new answer runs =
    let what = asked_by hello in
    collected_in_kind what now new (record { 0 = 1 }) answer (runs_kept (IsOf what) 1 (of_stays what) (fresh_client version hello) now exchanges (begins version hello) runs)
