-- What holds of a step, by the ways in which steps are put together.
use Rattle.std.specs.Prelude.{if◌then◌else◌}
use Rattle.std.proofs.Common.{◌≡◌, ℕ, Bool, true, false, List, Option, Some, None, refl, subst}
use Rattle.sp_base.specs.declared.errno.Errno.{Errno}
use Rattle.sp_base.specs.declared.errno.Errno.TheVariants.{Enoent}
use Rattle.kern_model.specs.declared.outcome.Outcome.{Outcome}
use Rattle.kern_model.specs.declared.walk.Walked.{Walked}
use Rattle.kern_model.specs.declared.walk.Walked.TheVariants.{Found, Missing, Faulty}
use Rattle.kern_model.specs.Name.{Path}
use Rattle.kern_model.specs.Outcome.{success, failure}
use Rattle.kern_model.specs.State.{State}
use Rattle.kern_model.specs.Step.{Step, failed, answered, piece_at, wrote, or_fail, fail_if, with_found, with_missing}

-- a fact of the outcome and the state after it, or another one where there is no step
abbrev pub HoldsOf : Type 0 → (Outcome → State → Type 0) → Step → Type 0
HoldsOf waits P None = waits
HoldsOf waits P (Some step) = P step.0 step.1

-- a step has a fact of its outcome and the state after it, and where it waits another one holds
pub record Holds (waits : Type 0) (P : Outcome → State → Type 0) (step : Step) : Type 0 where
  pub is : HoldsOf waits P step

-- a fact holds of every error, which leaves the state
abbrev pub HoldsOfErrors : (Outcome → State → Type 0) → State → Type 0
HoldsOfErrors P s = (error : Errno) → P (failure error) s

-- what holds of a step holds of its outcome and the state after it
pub holds_is : {waits : Type 0} {P : Outcome → State → Type 0} {step : Step} (outcome : Outcome) (t : State) → Holds waits P step → step ≡ Some (outcome, t) → P outcome t
holds_is {P = P} {step = None} outcome t h e = absurd cc
holds_is {P = P} {step = Some step} outcome t h e = let same : ◌≡◌ {A = Outcome × State} step (outcome, t) = cc in subst (λ (x : Outcome × State). P x.0 x.1) same h.is

-- the same, of a step that is written out
pub each_is : (P : Outcome → State → Type 0) (step : Step) (outcome : Outcome) (t : State) → HoldsOf Unit P step → step ≡ Some (outcome, t) → P outcome t
each_is P step outcome t h e = holds_is {waits = Unit} {P = P} outcome t (record { is = h }) e

module _ {waits : Type 0} {P : Outcome → State → Type 0} where
  pub holds_failed : (s : State) (error : Errno) → HoldsOfErrors P s → Holds waits P (failed error s)
  holds_failed s error fails = record { is = fails error }

  pub holds_answered : (value : ℕ) (t : State) → P (success value) t → Holds waits P (answered value t)
  holds_answered value t h = record { is = h }

  pub holds_wrote : (value addr : ℕ) (bytes : List ℕ) (t : State) → P (record (success value) { outs = piece_at addr bytes }) t → Holds waits P (wrote value addr bytes t)
  holds_wrote value addr bytes t h = record { is = h }

  pub holds_if : (b : Bool) (x y : Step) → (b ≡ true → Holds waits P x) → (b ≡ false → Holds waits P y) → Holds waits P (if b then x else y)
  holds_if true x y h k = h refl
  holds_if false x y h k = k refl

  pub holds_fail_if : (s : State) (b : Bool) (error : Errno) (step : Step) → HoldsOfErrors P s → (b ≡ false → Holds waits P step) → Holds waits P (fail_if b error s step)
  holds_fail_if s b error step fails h = holds_if b (failed error s) step (λ _. holds_failed s error fails) h

  pub holds_or_fail : {X : Type 0} (s : State) (o : Option X) (error : Errno) (act_with : X → Step) → HoldsOfErrors P s → ((x : X) → o ≡ Some x → Holds waits P (act_with x)) → Holds waits P (or_fail o error s act_with)
  holds_or_fail s None error act_with fails h = holds_failed s error fails
  holds_or_fail s (Some x) error act_with fails h = h x refl

  pub holds_found : (s : State) (w : Walked) (act_with : Path → ℕ → Bool → Step) → HoldsOfErrors P s
      → ((path : Path) (node : ℕ) (named : Bool) → w ≡ Found path node named → Holds waits P (act_with path node named)) → Holds waits P (with_found w s act_with)
  holds_found s (Found path node named) act_with fails h = h path node named refl
  holds_found s (Missing path slash) act_with fails h = holds_failed s Enoent fails
  holds_found s (Faulty error) act_with fails h = holds_failed s error fails

  pub holds_missing : (s : State) (w : Walked) (error : Errno) (act_with : Path → Bool → Step) → HoldsOfErrors P s
      → ((path : Path) (slash : Bool) → w ≡ Missing path slash → Holds waits P (act_with path slash)) → Holds waits P (with_missing w error s act_with)
  holds_missing s (Found path node named) error act_with fails h = holds_failed s error fails
  holds_missing s (Missing path slash) error act_with fails h = h path slash refl
  holds_missing s (Faulty fault) error act_with fails h = holds_failed s fault fails
