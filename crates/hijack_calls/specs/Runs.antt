-- How the steps of a guest's call are done on two sides.
use Rattle.std.specs.Prelude.{◌≡◌, Err, List, Ok, Result}
use Rattle.sp_base.specs.declared.call.Call.{Call}
use Rattle.sp_base.specs.declared.names.Answer.{Answer}
use Rattle.sp_copy.specs.declared.part.Part.{Part}
use Rattle.hijack_rules.specs.declared.names.SideName.{SideName}
use Rattle.hijack_rules.specs.declared.names.SideName.TheVariants.{Host, Rump}
use Rattle.hijack_split.specs.Steps.{Asks, Gives, Polls, Steps}
use Rattle.hijack_split.specs.View.{Naming, changed}
use Rattle.hijack_split.specs.declared.change.Change.{Change}
use Rattle.hijack_calls.specs.declared.side.SideFault.{SideFault}
use Rattle.hijack_calls.specs.declared.splitter.Done.{Done}
use Rattle.hijack_calls.specs.declared.splitter.Replied.{Replied}

-- what a side answers to a call: an answer with the caller's memory, or a fault
abbrev pub Given : Type 0
Given = Result (Answer × List Part) SideFault

-- a call on one of two sides: that side does it, and the other one stays
abbrev pub Asked : {R H : Type 0} → (R → Call → List Part → Given → R → Type 0) → (H → Call → List Part → Given → H → Type 0) → SideName → Call → List Part → Given → R → H → R → H → Type 0
Asked rump host Rump call mem given r h r' h' = rump r call mem given r' × (h' ≡ h)
Asked rump host Host call mem given r h r' h' = host h call mem given h' × (r' ≡ r)

-- behind an answer the rest follows, with the memory that it left; a fault is what the call comes to, and nothing follows
abbrev pub Onward : {R H : Type 0} → Given → R → H → Result Done SideFault → R → H → (Answer → R → H → List Part → Type 0) → Type 0
Onward (Ok given) r h out r' h' Follows = Follows given.0 r h given.1
Onward (Err why) r h out r' h' Follows = (out ≡ Err why) × (r' ≡ r) × (h' ≡ h)

-- steps are done one after another, each on its side as the ones before it left it, and with the memory that they left; the reply is what the call comes to
abbrev pub Runs : {R H : Type 0} → (R → Call → List Part → Given → R → Type 0) → (H → Call → List Part → Given → H → Type 0) → Steps → R → H → List Part → Result Done SideFault → R → H → Type 0
Runs {R} {H} rump host (Asks side call stage follow) r h mem out r' h' =
    (given : Given) × ((r₁ : R) × ((h₁ : H) × (Asked rump host side call mem given r h r₁ h₁
    × Onward given r₁ h₁ out r' h' (λ answer r₂ h₂ new. Runs rump host (follow answer) r₂ h₂ new out r' h'))))
Runs rump host (Gives by answer change) r h mem out r' h' = (out ≡ Ok (record { replied = record { answer = answer; by = by; mem = mem }; change = change })) × (r' ≡ r) × (h' ≡ h)
Runs rump host Polls r h mem out r' h' = ⊥

-- what the guest is told, with the change of its view
abbrev pub with_change : Change → Result Replied SideFault → Result Done SideFault
with_change change (Ok replied) = Ok (record { replied = replied; change = change })
with_change change (Err why) = Err why

-- the view behind what the guest is told: with a fault it is as it was
abbrev pub view_behind : Naming → Change → Result Replied SideFault → Naming
view_behind v change (Ok replied) = changed v change
view_behind v change (Err why) = v

-- a guest's call is split: its steps are done, and with its reply the view changes
abbrev pub Splits : {R H : Type 0} → (R → Call → List Part → Given → R → Type 0) → (H → Call → List Part → Given → H → Type 0) → Steps → R → H → List Part → Naming → Result Replied SideFault → R → H → Naming → Type 0
Splits rump host steps r h mem v told r' h' v' =
    (change : Change) × (Runs rump host steps r h mem (with_change change told) r' h' × (v' ≡ view_behind v change told))
