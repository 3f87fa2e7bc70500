-- What each event leaves of the numbers that were given, and of what ended the talk with the server.
use Rattle.std.proofs.Common.{◌≡◌, ◌⊎◌, inl, inr, ℕ, ◌+◌, ◌<◌, ◌≤◌, true, List, [], ◌∷◌, ◌++◌, Option, None, Some, refl, sym, ap, ◌∙◌, subst, arith, Less}
use Rattle.std.specs.List.{AllByRecursion}
use Rattle.std.specs.List.Sorted.{IsStrictlySortedBy}
use Rattle.std.specs.Ordering.{nat_cmp}
use Rattle.std.proofs.lemmas.Grind.{common_steps}
use Rattle.std.proofs.lemmas.Bool.Decides.{nat_tests}
use Rattle.sp_base.specs.declared.names.ReqNo.{ReqNo}
use Rattle.sp_copy.specs.declared.delivery.Delivery.{Delivery}
use Rattle.sp_copy.specs.declared.part.Part.{Part}
use Rattle.sp_frames.specs.declared.frame.Body.{Body}
use Rattle.sp_frames.specs.declared.frame.Body.TheVariants as body
use Rattle.client_model.specs.Asks.{goes_on}
use Rattle.client_model.specs.Machine.{played, Plays}
use Rattle.client_model.specs.Requests.{over, start_by, call_body, wanted, want_body, collected}
use Rattle.client_model.specs.Run.{Exchange, Runs}
use Rattle.client_model.specs.State.{Open, Client}
use Rattle.client_model.specs.Told.{is_refusal, number_given, numbers_given}
use Rattle.client_model.specs.declared.event.Event.{Event}
use Rattle.client_model.specs.declared.event.Event.TheVariants as event
use Rattle.client_model.specs.declared.event.Reply.{Reply}
use Rattle.client_model.specs.declared.event.Reply.TheVariants as reply
use Rattle.client_model.specs.declared.request.Ending.{Ending}
use Rattle.client_model.specs.declared.request.Ending.TheVariants as ending
use Rattle.client_model.specs.declared.request.Request.{Request}
use Rattle.client_model.specs.declared.request.Request.TheVariants as request
use Rattle.client_model.specs.declared.request.Response.{Response}
use Rattle.client_model.specs.declared.request.Response.TheVariants as response
use Rattle.client_model.proofs.Steps.{start_cases, frame_cases, collect_cases, take_cases, gone_cases, plays_cases}

-- what an event leaves: numbers go on by one where one is given, an ending stays, and a refusal changes nothing
pub record Goes (old : Client) (answer : Reply) (new : Client) : Type 0 where
  pub numbers : ((number_given answer ≡ new.last ∷ []) × (new.last ≡ old.last + 1)) ⊎ ((number_given answer ≡ []) × (new.last ≡ old.last))
  pub ending : (e : Ending) → old.ending ≡ Some e → new.ending ≡ Some e
  pub refusal : is_refusal answer ≡ true → new ≡ old

-- nothing changes, and no number is given
stays : (k : Client) (answer : Reply) → number_given answer ≡ [] → Goes k answer k
stays k answer none = record { numbers = inr (none, refl); ending = λ e is. is; refusal = λ is. refl }

-- a client that has the same numbers and the same ending
pub record SameTalk (old new : Client) : Type 0 where
  pub last : new.last ≡ old.last
  pub ending : new.ending ≡ old.ending

same_talk : (k : Client) (r : ReqNo) (x : Open) (b : Body) → SameTalk k (goes_on k r x b)
same_talk k r x (body.AskBytes index addr len) = record { last = refl; ending = refl }
same_talk k r x (body.AskText index addr most) = record { last = refl; ending = refl }
same_talk k r x (body.Put index addr bytes) = record { last = refl; ending = refl }
same_talk k r x (body.Answered answer) = record { last = refl; ending = refl }
same_talk k r x (body.Refused kind why) = record { last = refl; ending = refl }
same_talk k r x (body.Hello pid) = record { last = refl; ending = refl }
same_talk k r x _ = record { last = refl; ending = refl }

no_ending : (k : Client) → k.ending ≡ None → (e : Ending) → (now : Option Ending) → k.ending ≡ Some e → now ≡ Some e
no_ending k none e now is = absurd (cc)

over_goes : (k new : Client) (e : Ending) (mem : List Part) → new.last ≡ k.last → new.ending ≡ k.ending → Goes k (over e mem) new
over_goes k new ending.Gone mem last same = record { numbers = inr (refl, last); ending = λ e is. same ∙ is; refusal = λ is. absurd (cc) }
over_goes k new ending.Broken mem last same = record { numbers = inr (refl, last); ending = λ e is. same ∙ is; refusal = λ is. absurd (cc) }

collected_goes : (k new : Client) (what : Response) (d : Delivery) → new.last ≡ k.last → new.ending ≡ k.ending → Goes k (collected what d) new
collected_goes k new (response.Joined pid) d last same = record { numbers = inr (refl, last); ending = λ e is. same ∙ is; refusal = λ is. absurd (cc) }
collected_goes k new (response.Imaged pid place) d last same = record { numbers = inr (refl, last); ending = λ e is. same ∙ is; refusal = λ is. absurd (cc) }
collected_goes k new (response.Forked cookie place pid) d last same = record { numbers = inr (refl, last); ending = λ e is. same ∙ is; refusal = λ is. absurd (cc) }
collected_goes k new response.Cancelled d last same = record { numbers = inr (refl, last); ending = λ e is. same ∙ is; refusal = λ is. absurd (cc) }
collected_goes k new (response.ExecReady cookie) d last same = record { numbers = inr (refl, last); ending = λ e is. same ∙ is; refusal = λ is. absurd (cc) }
collected_goes k new (response.Answered answer) d last same = record { numbers = inr (refl, last); ending = λ e is. same ∙ is; refusal = λ is. absurd (cc) }
collected_goes k new (response.Refused why) d last same = record { numbers = inr (refl, last); ending = λ e is. same ∙ is; refusal = λ is. absurd (cc) }

start_goes : (k : Client) (asks : Request) (says : Body) (mem : List Part) → let p = start_by k asks says mem k.ending in Goes k p.0 p.1
start_goes k asks says mem = start_cases (λ p. Goes k p.0 p.1) k asks says mem (record {
  over = λ e is. over_goes k k e mem refl refl;
  not_yet = stays k (reply.NotYet mem) refl;
  busy = stays k (reply.Busy mem) refl;
  starts = record { numbers = inl (refl, refl); ending = λ e is. is; refusal = λ is. absurd (cc) };
})

played_goes : (k : Client) (e : Event) → Goes k (played k e).0 (played k e).1
played_goes k (event.Start caller call mem) = start_goes k (request.Call call) (call_body call) mem
played_goes k (event.Prefork caller want) = start_goes k (wanted want) (want_body want) []
played_goes k (event.Preexec caller) = start_goes k request.Preexec body.Preexec []
played_goes k (event.Frame f) = frame_cases (λ p. Goes k p.0 p.1) k f (record {
  nothing = stays k reply.Nothing refl;
  bad = λ whole. record { numbers = inr (refl, refl); ending = λ e is. no_ending k whole e _ is; refusal = λ is. absurd (cc) };
  fits = λ x at may whole. let same = same_talk k f.number x f.body in record {
    numbers = inr (refl, same.last);
    ending = λ e is. same.ending ∙ is;
    refusal = λ is. absurd (cc);
  };
})
played_goes k (event.Collect r) = collect_cases (λ p. Goes k p.0 p.1) k r (record {
  unknown = stays k reply.Unknown refl;
  not_yet = stays k (reply.NotYet []) refl;
  over = λ x e at. over_goes k _ e x.delivery.mem refl refl;
  done = λ x what at has. collected_goes k _ what x.delivery refl refl;
})
played_goes k event.Take = take_cases (λ p. Goes k p.0 p.1) k (record {
  nothing = stays k reply.Nothing refl;
  out = λ f queue is. record { numbers = inr (refl, refl); ending = λ e same. same; refusal = λ is. absurd (cc) };
})
played_goes k event.Gone = gone_cases (λ p. Goes k p.0 p.1) k (record {
  nothing = stays k reply.Nothing refl;
  gone = λ whole. record { numbers = inr (refl, refl); ending = λ e is. no_ending k whole e _ is; refusal = λ is. absurd (cc) };
})

-- what an event leaves, whether there is memory or not
pub plays_goes : (old : Client) (e : Event) (answer : Reply) (new : Client) → Plays old e answer new → Goes old answer new
plays_goes old e answer new plays = plays_cases (Goes old) old e answer new (played_goes old e) (stays old _ refl) plays

-- an ending stays
pub ending_stays : (old new : Client) (exchanges : List Exchange) (e : Ending) → Runs old exchanges new → old.ending ≡ Some e → new.ending ≡ Some e
ending_stays old new [] e runs is = ap (λ (k : Client). k.ending) runs ∙ is
ending_stays old new (x ∷ xs) e runs is = ending_stays runs.0 new xs e runs.2 ((plays_goes old x.event x.reply runs.0 runs.1).ending e is)

-- the highest number that was given never falls
pub last_never_falls : (old new : Client) (e : Event) (answer : Reply) → Plays old e answer new → old.last ≤ new.last
last_never_falls old new e answer plays =
    elim (plays_goes old e answer new plays).numbers [
      | inl p ↦ (let one = p.1 in omega arith)
      | inr p ↦ (let same = p.1 in omega arith)
    ]

-- a number that is given is the next one
pub started_next : (old : Client) (e : Event) (r : ReqNo) (new : Client) → Plays old e (reply.Started r) new → (r.0 ≡ old.last + 1) × (new.last ≡ r.0)
started_next old e r new plays = by_numbers (plays_goes old e (reply.Started r) new plays).numbers
  where
    by_numbers : ((r.0 ∷ [] ≡ new.last ∷ []) × (new.last ≡ old.last + 1)) ⊎ ((r.0 ∷ [] ≡ []) × (new.last ≡ old.last)) → (r.0 ≡ old.last + 1) × (new.last ≡ r.0)
    by_numbers (inl p) = let same : r.0 ≡ new.last = cc in (same ∙ p.1, sym same)
    by_numbers (inr p) = absurd (cc)

less_by_cmp : (a b : ℕ) → a < b → nat_cmp a b ≡ Less
less_by_cmp a b l = grind (arith, nat_tests, common_steps)

by_cmp_less : (a b : ℕ) → nat_cmp a b ≡ Less → a < b
by_cmp_less a b e = grind (arith, nat_tests, common_steps)

lower : (a b : ℕ) (ns : List ℕ) → a ≤ b → AllByRecursion (λ n. nat_cmp b n ≡ Less) ns → AllByRecursion (λ n. nat_cmp a n ≡ Less) ns
lower a b [] le all = tt
lower a b (n ∷ ns) le all = (less_by_cmp a n (let l = by_cmp_less b n all.0 in omega arith), lower a b ns le all.1)

-- the numbers that are given rise, from the highest that was given before
pub numbers_sorted : (old new : Client) (exchanges : List Exchange) → Runs old exchanges new → IsStrictlySortedBy nat_cmp (old.last ∷ numbers_given exchanges)
unfolding IsStrictlySortedBy
numbers_sorted old new [] runs = (tt, tt)
numbers_sorted old new (x ∷ xs) runs = by_numbers (plays_goes old x.event x.reply runs.0 runs.1).numbers (numbers_sorted runs.0 new xs runs.2)
  where
    by_numbers : ((number_given x.reply ≡ runs.0.last ∷ []) × (runs.0.last ≡ old.last + 1)) ⊎ ((number_given x.reply ≡ []) × (runs.0.last ≡ old.last)) → IsStrictlySortedBy nat_cmp (runs.0.last ∷ numbers_given xs)
        → IsStrictlySortedBy nat_cmp (old.last ∷ (number_given x.reply ++ numbers_given xs))
    by_numbers (inl p) rest = subst (λ (ns : List ℕ). IsStrictlySortedBy nat_cmp (old.last ∷ (ns ++ numbers_given xs))) (sym p.0)
        ((less_by_cmp old.last runs.0.last (let e = p.1 in omega arith), lower old.last runs.0.last (numbers_given xs) (let e = p.1 in omega arith) rest.0), rest)
    by_numbers (inr p) rest = subst (λ (ns : List ℕ). IsStrictlySortedBy nat_cmp (old.last ∷ (ns ++ numbers_given xs))) (sym p.0)
        (subst (λ (n : ℕ). IsStrictlySortedBy nat_cmp (n ∷ numbers_given xs)) p.1 rest)
