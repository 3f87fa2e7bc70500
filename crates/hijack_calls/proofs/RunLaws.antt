-- What is left of the steps of a call behind some answers, and what was done by then.
use Rattle.std.proofs.Common.{◌≡◌, ℕ, zero, suc, ◌+◌, ◌-◌, ◌<◌, ◌≤◌, ◌⊎◌, inl, inr, List, [], ◌∷◌, ◌++◌, Option, Result, Ok, Err, refl, sym, subst, arith}
use Rattle.sp_base.specs.declared.call.Call.{Call}
use Rattle.sp_base.specs.declared.names.Answer.{Answer}
use Rattle.sp_copy.specs.declared.part.Part.{Part}
use Rattle.hijack_rules.specs.declared.names.SideName.{SideName}
use Rattle.hijack_split.specs.Steps.{Asks, Gives, Polls, Steps, next}
use Rattle.hijack_split.specs.declared.change.Change.{Change}
use Rattle.hijack_split.specs.declared.turn.Stage.{Stage}
use Rattle.hijack_split.specs.declared.turn.Turn.TheVariants as turn
use Rattle.hijack_calls.specs.Runs.{Asked, Given, Runs}
use Rattle.hijack_calls.specs.Sides.{HasRisen}
use Rattle.hijack_calls.specs.Turns.{Ends, left}
use Rattle.hijack_calls.specs.declared.side.Cause.{Cause}
use Rattle.hijack_calls.specs.declared.side.Cause.TheVariants as cause
use Rattle.hijack_calls.specs.declared.side.SideFault.{SideFault}
use Rattle.hijack_calls.specs.declared.side.SideFault.TheVariants as fault
use Rattle.hijack_calls.specs.declared.splitter.Done.{Done}

-- behind these answers a call is asked for
pub record AsksNow (steps : Steps) (answers : List Answer) (side : SideName) (call : Call) (stage : Stage) : Type 0 where
  pub follow : Answer → Steps
  pub is : left steps answers ≡ Asks side call stage follow
  pub onward : (answer : Answer) → left steps (answers ++ answer ∷ []) ≡ follow answer

pub asks_now : (steps : Steps) (answers : List Answer) (side : SideName) (call : Call) (stage : Stage) → next steps answers ≡ turn.Ask side call stage → AsksNow steps answers side call stage
asks_now (Asks s c t follow) [] side call stage e = record { follow = follow; is = cc; onward = λ answer. refl }
asks_now (Asks s c t follow) (answer ∷ answers) side call stage e =
    let r = asks_now (follow answer) answers side call stage e in
    record { follow = r.follow; is = r.is; onward = r.onward }
asks_now (Gives by answer change) [] side call stage e = absurd (cc)
asks_now (Gives by answer change) (a ∷ answers) side call stage e = absurd (cc)
asks_now Polls [] side call stage e = absurd (cc)
asks_now Polls (a ∷ answers) side call stage e = absurd (cc)

pub gives_now : (steps : Steps) (answers : List Answer) (by : Option SideName) (answer : Answer) (change : Change) → next steps answers ≡ turn.Reply by answer change → left steps answers ≡ Gives by answer change
gives_now (Asks s c t follow) [] by answer change e = absurd (cc)
gives_now (Asks s c t follow) (a ∷ answers) by answer change e = gives_now (follow a) answers by answer change e
gives_now (Gives b x d) [] by answer change e = cc
gives_now (Gives b x d) (a ∷ answers) by answer change e = cc
gives_now Polls [] by answer change e = absurd (cc)
gives_now Polls (a ∷ answers) by answer change e = absurd (cc)

pub polls_now : (steps : Steps) (answers : List Answer) → next steps answers ≡ turn.Poll → left steps answers ≡ Polls
polls_now (Asks s c t follow) [] e = absurd (cc)
polls_now (Asks s c t follow) (a ∷ answers) e = polls_now (follow a) answers e
polls_now (Gives b x d) [] e = absurd (cc)
polls_now (Gives b x d) (a ∷ answers) e = absurd (cc)
polls_now Polls [] e = refl
polls_now Polls (a ∷ answers) e = refl

-- each run of what is left is a run of the whole
pub record RunsOn {R H : Type 0} (rump : R → Call → List Part → Given → R → Type 0) (host : H → Call → List Part → Given → H → Type 0)
    (rest : Steps) (r : R) (h : H) (mem : List Part) (steps : Steps) (r₀ : R) (h₀ : H) (mem₀ : List Part) : Type 0 where
  pub on : (out : Result Done SideFault) (r' : R) (h' : H) → Runs rump host rest r h mem out r' h' → Runs rump host steps r₀ h₀ mem₀ out r' h'

pub begun : {R H : Type 0} {rump : R → Call → List Part → Given → R → Type 0} {host : H → Call → List Part → Given → H → Type 0}
    (steps : Steps) (r : R) (h : H) (mem : List Part) → RunsOn rump host steps r h mem steps r h mem
begun steps r h mem = record { on = λ out r' h' run. run }

-- one more step
pub one_more : {R H : Type 0} {rump : R → Call → List Part → Given → R → Type 0} {host : H → Call → List Part → Given → H → Type 0}
    (steps : Steps) (answers : List Answer) (side : SideName) (call : Call) (stage : Stage) (answer : Answer) (new : List Part) (r : R) (h : H) (mem : List Part) (r₁ : R) (h₁ : H) (r₀ : R) (h₀ : H) (mem₀ : List Part)
    → next steps answers ≡ turn.Ask side call stage
    → Asked rump host side call mem (Ok (answer, new)) r h r₁ h₁
    → RunsOn rump host (left steps answers) r h mem steps r₀ h₀ mem₀
    → RunsOn rump host (left steps (answers ++ answer ∷ [])) r₁ h₁ new steps r₀ h₀ mem₀
one_more {rump = rump} {host = host} steps answers side call stage answer new r h mem r₁ h₁ r₀ h₀ mem₀ e asked on =
    let now = asks_now steps answers side call stage e in
    record { on = λ out r' h' run. on.on out r' h' (subst (λ s. Runs rump host s r h mem out r' h') (sym now.is) (Ok (answer, new), (r₁, (h₁, (asked, subst (λ s. Runs rump host s r₁ h₁ new out r' h') (now.onward answer) run))))) }

-- the reply ends the run
pub replied : {R H : Type 0} {rump : R → Call → List Part → Given → R → Type 0} {host : H → Call → List Part → Given → H → Type 0}
    (steps : Steps) (answers : List Answer) (by : Option SideName) (answer : Answer) (change : Change) (r : R) (h : H) (mem : List Part) (r₀ : R) (h₀ : H) (mem₀ : List Part)
    → next steps answers ≡ turn.Reply by answer change
    → RunsOn rump host (left steps answers) r h mem steps r₀ h₀ mem₀
    → Runs rump host steps r₀ h₀ mem₀ (Ok (record { replied = record { answer = answer; by = by; mem = mem }; change = change })) r h
replied {rump = rump} {host = host} steps answers by answer change r h mem r₀ h₀ mem₀ e on =
    on.on _ r h (subst (λ s. Runs rump host s r h mem (Ok (record { replied = record { answer = answer; by = by; mem = mem }; change = change })) r h) (sym (gives_now steps answers by answer change e)) (refl, refl, refl))

-- a fault ends the run
pub failed : {R H : Type 0} {rump : R → Call → List Part → Given → R → Type 0} {host : H → Call → List Part → Given → H → Type 0}
    (steps : Steps) (answers : List Answer) (side : SideName) (call : Call) (stage : Stage) (why : SideFault) (r : R) (h : H) (mem : List Part) (r₁ : R) (h₁ : H) (r₀ : R) (h₀ : H) (mem₀ : List Part)
    → next steps answers ≡ turn.Ask side call stage
    → Asked rump host side call mem (Err why) r h r₁ h₁
    → RunsOn rump host (left steps answers) r h mem steps r₀ h₀ mem₀
    → Runs rump host steps r₀ h₀ mem₀ (Err why) r₁ h₁
failed {rump = rump} {host = host} steps answers side call stage why r h mem r₁ h₁ r₀ h₀ mem₀ e asked on =
    let now = asks_now steps answers side call stage e in
    on.on _ r₁ h₁ (subst (λ s. Runs rump host s r h mem (Err why) r₁ h₁) (sym now.is) (Err why, (r₁, (h₁, (asked, (refl, refl, refl))))))

-- a call that is asked for leaves fewer turns
pub fewer : (steps : Steps) (answers : List Answer) (side : SideName) (call : Call) (stage : Stage) (answer : Answer) (i : ℕ)
    → next steps answers ≡ turn.Ask side call stage → i < 9 → Ends (9 - i) (left steps answers) → Ends (9 - (i + 1)) (left steps (answers ++ answer ∷ []))
fewer steps answers side call stage answer i e small ends =
    let now = asks_now steps answers side call stage e in
    let count : 9 - i ≡ suc (9 - (i + 1)) = omega (arith, small) in
    let there : Ends (9 - i) (Asks side call stage now.follow) = subst (λ s. Ends (9 - i) s) now.is ends in
    let those : Ends (suc (9 - (i + 1))) (Asks side call stage now.follow) = subst (λ n. Ends n (Asks side call stage now.follow)) count there in
    subst (λ s. Ends (9 - (i + 1)) s) (sym (now.onward answer)) (those answer)

-- what ends has a turn left
pub some_left : (n : ℕ) (steps : Steps) → Ends n steps → 0 < n
some_left zero steps ends = absurd ends
some_left (suc n) steps ends = omega arith

-- a poll of both sides is never met
pub no_poll : (steps : Steps) (answers : List Answer) (n : ℕ) → next steps answers ≡ turn.Poll → Ends n (left steps answers) → ⊥
no_poll steps answers n e ends = never n (subst (λ s. Ends n s) (polls_now steps answers e) ends)
  where
    never : (n : ℕ) → Ends n Polls → ⊥
    never zero h = h
    never (suc n) h = h

-- a count that rose later rose from the start
risen_before : (before mid now : Cause → ℕ) (why : SideFault) → ((c : Cause) → before c ≤ mid c) → HasRisen mid now why → HasRisen before now why
risen_before before mid now (fault.Blocked mem) later h = let l = later cause.Blocked in omega (arith, l, h)
risen_before before mid now (fault.Refused error mem) later h = let l = later cause.Refused in omega (arith, l, h)
risen_before before mid now (fault.Lost mem) later h = let l = later cause.Lost in omega (arith, l, h)
risen_before before mid now (fault.Broken mem) later h = let l = later cause.Broken in omega (arith, l, h)
risen_before before mid now (fault.NoMemory mem) later h = tt

pub either_risen : (r₀ r₁ r₂ h₀ h₁ h₂ : Cause → ℕ) (why : SideFault) → ((c : Cause) → r₀ c ≤ r₁ c) → ((c : Cause) → h₀ c ≤ h₁ c)
    → HasRisen r₁ r₂ why ⊎ HasRisen h₁ h₂ why → HasRisen r₀ r₂ why ⊎ HasRisen h₀ h₂ why
either_risen r₀ r₁ r₂ h₀ h₁ h₂ why r h (inl risen) = inl (risen_before r₀ r₁ r₂ why r risen)
either_risen r₀ r₁ r₂ h₀ h₁ h₂ why r h (inr risen) = inr (risen_before h₀ h₁ h₂ why h risen)
