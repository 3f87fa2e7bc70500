-- What holds of a request while it is open, from its start on.
use Rattle.std.proofs.Common.{◌≡◌, inl, inr, ℕ, ◌+◌, ◌≤◌, true, List, [], ◌∷◌, Option, None, Some, refl, sym, ap, ◌∙◌, subst, arith}
use Rattle.std.specs.FinMap.{FinMap, get, insert, remove}
use Rattle.std.specs.Ordering.{nat_cmp}
use Rattle.std.proofs.lemmas.Bool.{and_parts}
use Rattle.sp_base.specs.declared.names.ReqNo.{ReqNo}
use Rattle.sp_copy.specs.Delivering.{put_piece}
use Rattle.sp_copy.specs.declared.part.Part.{Part}
use Rattle.sp_frames.specs.declared.frame.Body.{Body}
use Rattle.sp_frames.specs.declared.frame.Body.TheVariants as body
use Rattle.tables.proofs.Maps.{after_change, get_put, get_put_other, gone_changes, put_changes}
use Rattle.client_model.specs.Asks.{goes_on}
use Rattle.client_model.specs.Fitness.{fits_request, may_come}
use Rattle.client_model.specs.Machine.{played, Plays}
use Rattle.client_model.specs.Requests.{call_body, over, start_by, start_now, want_body, wanted}
use Rattle.client_model.specs.Run.{Exchange, Runs}
use Rattle.client_model.specs.State.{Client, Open, Played, fresh_request}
use Rattle.client_model.specs.declared.event.Event.{Event}
use Rattle.client_model.specs.declared.event.Event.TheVariants as event
use Rattle.client_model.specs.declared.event.Reply.{Reply}
use Rattle.client_model.specs.declared.event.Reply.TheVariants as reply
use Rattle.client_model.specs.declared.request.Ending.{Ending}
use Rattle.client_model.specs.declared.request.Ending.TheVariants as ending
use Rattle.client_model.specs.declared.request.Request.{Request}
use Rattle.client_model.specs.declared.request.Request.TheVariants as request
use Rattle.client_model.specs.declared.request.Response.{Response}
use Rattle.client_model.specs.declared.request.Response.TheVariants as response
use Rattle.client_model.proofs.Steps.{start_cases, frame_cases, collect_cases, take_cases, gone_cases, plays_cases}

-- the response that a frame brings
abbrev pub response_in : Body → Option Response
response_in (body.Answered answer) = Some (response.Answered answer)
response_in (body.Refused kind why) = Some (response.Refused why)
response_in (body.Hello pid) = Some (response.Joined pid)
response_in (body.Joined pid) = Some (response.Joined pid)
response_in (body.Imaged pid place) = Some (response.Imaged pid place)
response_in (body.Forked cookie place pid) = Some (response.Forked cookie place pid)
response_in body.Cancelled = Some response.Cancelled
response_in (body.ExecReady cookie) = Some (response.ExecReady cookie)
response_in _ = None

-- what holds of an open request holds of it once an ask is noted, bytes are written that may come, or a response came that may
pub record Stays (Q : Open → Type 0) : Type 0 where
  pub asks : (x : Open) (asked : List ℕ) → Q x → Q (record x { asked = asked })
  pub puts : (x : Open) (index addr : ℕ) (bytes : List ℕ) → fits_request x.request x.asked (body.Put index addr bytes) ≡ true → Q x
      → Q (record x { delivery = put_piece x.delivery (record { addr = addr; bytes = bytes }) })
  pub responds : (x : Open) (b : Body) (what : Response) → response_in b ≡ Some what → fits_request x.request x.asked b ≡ true → Q x
      → Q (record x { response = Some what })

-- a number was given, and this holds of its request if it is open
pub record IsKept (Q : Open → Type 0) (n : ℕ) (k : Client) : Type 0 where
  pub given : n ≤ k.last
  pub each : (x : Open) → get k.requests n ≡ Some x → Q x

pub some_is : {X : Type 0} (x y : X) → Some x ≡ Some y → x ≡ y
some_is x y e = cc

module _ (Q : Open → Type 0) (n : ℕ) where
  -- a request goes on
  put_each : (m : ℕ) (requests : FinMap nat_cmp Open) (x y : Open) → ((z : Open) → get requests n ≡ Some z → Q z) → get requests m ≡ Some x → (Q x → Q y)
      → (z : Open) → get (insert requests m y) n ≡ Some z → Q z
  put_each m requests x y each at goes z e =
      elim (after_change requests (insert requests m y) m n z (Some y) (put_changes requests m y) e) [
        | inl here ↦ subst Q (some_is y z here.1) (goes (each x (ap (λ (q : ℕ). get requests q) here.0 ∙ at)))
        | inr there ↦ each z there.1
      ]

  goes_kept : Stays Q → (k : Client) (r : ReqNo) (x : Open) (b : Body) → IsKept Q n k → get k.requests r.0 ≡ Some x → may_come (Some x) b ≡ true → IsKept Q n (goes_on k r x b)
  goes_kept stays k r x (body.AskBytes index addr len) h at may = record { given = h.given; each = put_each r.0 k.requests x _ h.each at (stays.asks x _) }
  goes_kept stays k r x (body.AskText index addr most) h at may = record { given = h.given; each = put_each r.0 k.requests x _ h.each at (stays.asks x _) }
  goes_kept stays k r x (body.Put index addr bytes) h at may = record { given = h.given; each = put_each r.0 k.requests x _ h.each at (stays.puts x index addr bytes (and_parts _ _ may).1) }
  goes_kept stays k r x (body.Answered answer) h at may = record { given = h.given; each = put_each r.0 k.requests x _ h.each at (stays.responds x (body.Answered answer) _ refl (and_parts _ _ may).1) }
  goes_kept stays k r x (body.Refused kind why) h at may = record { given = h.given; each = put_each r.0 k.requests x _ h.each at (stays.responds x (body.Refused kind why) _ refl (and_parts _ _ may).1) }
  goes_kept stays k r x (body.Hello pid) h at may = record { given = h.given; each = put_each r.0 k.requests x _ h.each at (stays.responds x (body.Hello pid) _ refl (and_parts _ _ may).1) }
  goes_kept stays k r x (body.Joined pid) h at may = record { given = h.given; each = put_each r.0 k.requests x _ h.each at (stays.responds x (body.Joined pid) _ refl (and_parts _ _ may).1) }
  goes_kept stays k r x (body.Imaged pid place) h at may = record { given = h.given; each = put_each r.0 k.requests x _ h.each at (stays.responds x (body.Imaged pid place) _ refl (and_parts _ _ may).1) }
  goes_kept stays k r x (body.Forked cookie place pid) h at may = record { given = h.given; each = put_each r.0 k.requests x _ h.each at (stays.responds x (body.Forked cookie place pid) _ refl (and_parts _ _ may).1) }
  goes_kept stays k r x body.Cancelled h at may = record { given = h.given; each = put_each r.0 k.requests x _ h.each at (stays.responds x body.Cancelled _ refl (and_parts _ _ may).1) }
  goes_kept stays k r x (body.ExecReady cookie) h at may = record { given = h.given; each = put_each r.0 k.requests x _ h.each at (stays.responds x (body.ExecReady cookie) _ refl (and_parts _ _ may).1) }
  goes_kept stays k r x _ h at may = h

  -- a request under a higher number starts
  start_kept : (k : Client) (asks : Request) (says : Body) (parts : List Part) → IsKept Q n k → IsKept Q n (start_now k asks says parts).1
  start_kept k asks says parts h = record {
    given = (let le = h.given in omega arith);
    each = λ x e. h.each x (sym (get_put_other k.requests (k.last + 1) (fresh_request asks parts) n (let le = h.given in λ same. omega arith)) ∙ e);
  }

  asking_kept : (k : Client) (asks : Request) (says : Body) (parts : List Part) → IsKept Q n k → IsKept Q n (start_by k asks says parts k.ending).1
  asking_kept k asks says parts h = start_cases (λ p. IsKept Q n p.1) k asks says parts (record {
    over = λ e is. h;
    not_yet = h;
    busy = h;
    starts = start_kept k asks says parts h;
  })

  -- a request is closed
  close_each : (m : ℕ) (requests : FinMap nat_cmp Open) → ((z : Open) → get requests n ≡ Some z → Q z) → (z : Open) → get (remove requests m) n ≡ Some z → Q z
  close_each m requests each z e =
      elim (after_change requests (remove requests m) m n z None (gone_changes requests m) e) [
        | inl here ↦ absurd (let no = here.1 in cc)
        | inr there ↦ each z there.1
      ]

  played_kept : Stays Q → (k : Client) (e : Event) → IsKept Q n k → IsKept Q n (played k e).1
  played_kept stays k (event.Start caller call parts) h = asking_kept k (request.Call call) (call_body call) parts h
  played_kept stays k (event.Prefork caller want) h = asking_kept k (wanted want) (want_body want) [] h
  played_kept stays k (event.Preexec caller) h = asking_kept k request.Preexec body.Preexec [] h
  played_kept stays k (event.Frame f) h = frame_cases (λ p. IsKept Q n p.1) k f (record {
    nothing = h;
    bad = λ whole. record { given = h.given; each = h.each };
    fits = λ x at may whole. goes_kept stays k f.number x f.body h at may;
  })
  played_kept stays k (event.Collect r) h = collect_cases (λ p. IsKept Q n p.1) k r (record {
    unknown = h;
    not_yet = h;
    over = λ x e at. record { given = h.given; each = close_each r.0 k.requests h.each };
    done = λ x what at has. record { given = h.given; each = close_each r.0 k.requests h.each };
  })
  played_kept stays k event.Take h = take_cases (λ p. IsKept Q n p.1) k (record { nothing = h; out = λ f queue is. record { given = h.given; each = h.each } })
  played_kept stays k event.Gone h = gone_cases (λ p. IsKept Q n p.1) k (record { nothing = h; gone = λ whole. record { given = h.given; each = h.each } })

  plays_kept : Stays Q → (old : Client) (e : Event) (answer : Reply) (new : Client) → IsKept Q n old → Plays old e answer new → IsKept Q n new
  plays_kept stays old e answer new h plays = plays_cases (λ a k. IsKept Q n k) old e answer new (played_kept stays old e h) h plays

  pub runs_kept : Stays Q → (old new : Client) (exchanges : List Exchange) → IsKept Q n old → Runs old exchanges new → IsKept Q n new
  runs_kept stays old new [] h runs = subst (IsKept Q n) (sym runs) h
  runs_kept stays old new (x ∷ xs) h runs = runs_kept stays runs.0 new xs (plays_kept stays old x.event x.reply runs.0 h runs.1) runs.2

-- ---- the start

ended_not_started : (e : Ending) (mem : List Part) (r : ReqNo) → over e mem ≡ reply.Started r → ⊥
ended_not_started ending.Gone mem r is = cc
ended_not_started ending.Broken mem r is = cc

-- what holds of a request that was just sent holds of the one that starts
pub starts_kept : (Q : Open → Type 0) (k : Client) (asks : Request) (says : Body) (mem : List Part) (r : ReqNo) → Q (fresh_request asks mem)
    → (start_by k asks says mem k.ending).0 ≡ reply.Started r → IsKept Q r.0 (start_by k asks says mem k.ending).1
starts_kept Q k asks says mem r fresh = start_cases (λ p. p.0 ≡ reply.Started r → IsKept Q r.0 p.1) k asks says mem (record {
  over = λ e is started. absurd (ended_not_started e mem r started);
  not_yet = λ no. absurd (cc);
  busy = λ no. absurd (cc);
  starts = λ is. subst (λ (n : ℕ). IsKept Q n (start_now k asks says mem).1) (number is) here;
})
  where
    number : (start_now k asks says mem).0 ≡ reply.Started r → k.last + 1 ≡ r.0
    number is = cc

    here : IsKept Q (k.last + 1) (start_now k asks says mem).1
    here = record {
      given = omega arith;
      each = λ x e. subst Q (some_is _ _ (sym (get_put k.requests (k.last + 1) (fresh_request asks mem)) ∙ e)) fresh;
    }

-- the same of an event that asks it
pub given_kept : (Q : Open → Type 0) (old new : Client) (e : Event) (asks : Request) (says : Body) (mem : List Part) (r : ReqNo)
    → played old e ≡ start_by old asks says mem old.ending → Q (fresh_request asks mem) → Plays old e (reply.Started r) new → IsKept Q r.0 new
given_kept Q old new e asks says mem r same fresh plays =
    plays_cases (λ a k. a ≡ reply.Started r → IsKept Q r.0 k) old e (reply.Started r) new
    (subst (λ (p : Played). p.0 ≡ reply.Started r → IsKept Q r.0 p.1) (sym same) (starts_kept Q old asks says mem r fresh))
    (λ no. absurd (cc)) plays refl
