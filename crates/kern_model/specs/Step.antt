-- What an operation gives, and how its cases are put together.
use Rattle.std.specs.Prelude.{ℕ, Bool, List, [], ◌∷◌, length, ◌==◌, Option, None, Some, if◌then◌else◌}
use Rattle.sp_base.specs.declared.errno.Errno.{Errno}
use Rattle.sp_base.specs.declared.errno.Errno.TheVariants.{Enoent}
use Rattle.kern_model.specs.declared.outcome.OutPiece.{OutPiece}
use Rattle.kern_model.specs.declared.outcome.Outcome.{Outcome}
use Rattle.kern_model.specs.Name.{Path}
use Rattle.kern_model.specs.Outcome.{success, failure}
use Rattle.kern_model.specs.State.{State}
use Rattle.kern_model.specs.declared.walk.Walked.{Walked}
use Rattle.kern_model.specs.declared.walk.Walked.TheVariants.{Found, Missing, Faulty}

-- an outcome and the state after it, or nothing where the operation waits
abbrev pub Step : Type 0
Step = Option (Outcome × State)

-- the error, and the same state
abbrev pub failed : Errno → State → Step
failed error s = Some (failure error, s)

-- the value, and the state after it
abbrev pub answered : ℕ → State → Step
answered value s = Some (success value, s)

-- the bytes that are written to an address, if there are any
abbrev pub piece_at : ℕ → List ℕ → List OutPiece
piece_at addr bytes = if length bytes == 0 then [] else record { addr = addr; bytes = bytes } ∷ []

-- the value and what is written to an address, and the state after it
abbrev pub wrote : ℕ → ℕ → List ℕ → State → Step
wrote value addr bytes s = Some (record (success value) { outs = piece_at addr bytes }, s)

-- what is done with what was found, and the error where nothing was
abbrev pub or_fail : {X : Type 0} → Option X → Errno → State → (X → Step) → Step
or_fail None error s act_with = failed error s
or_fail (Some x) error s act_with = act_with x

-- the error where a test holds, and else what is done
abbrev pub fail_if : Bool → Errno → State → Step → Step
fail_if test error s otherwise = if test then failed error s else otherwise

-- what is done with the object that a path leads to; a missing one is ENOENT
abbrev pub with_found : Walked → State → (Path → ℕ → Bool → Step) → Step
with_found (Found path node named) s act_with = act_with path node named
with_found (Missing path slash) s act_with = failed Enoent s
with_found (Faulty error) s act_with = failed error s

-- what is done with the missing object that a path leads to, and the error where one is found
abbrev pub with_missing : Walked → Errno → State → (Path → Bool → Step) → Step
with_missing (Found path node named) error s act_with = failed error s
with_missing (Missing path slash) error s act_with = act_with path slash
with_missing (Faulty fault) error s act_with = failed fault s
