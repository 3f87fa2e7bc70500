-- Which calls are open at a server.
use Rattle.std.specs.Prelude.{◌≡◌, ℕ, IsTrue, Some}
use Rattle.std.specs.Ordering.{nat_cmp}
use Rattle.std.specs.FinMap.{FinMap, get}
use Rattle.kern_model.specs.Act.{has_step}
use Rattle.hub_model.specs.State.{Connection, Machine}
use Rattle.hub_model.specs.declared.state.OpenCall.{OpenCall}
use Rattle.hub_model.specs.declared.state.OpenCall.TheVariants.{Gathers}

-- every value of a map is so
abbrev pub AllValues : {X : Type 0} → (X → Type 0) → FinMap nat_cmp X → Type 0
AllValues {X} P m = (k : ℕ) (x : X) → get m k ≡ Some x → P x

-- a call that gathers what it reads is one that the kernel performs by now
abbrev pub HasStep : OpenCall → Type 0
HasStep (Gathers call got asked) = IsTrue (has_step call)
HasStep _ = Unit {0}

-- each open call of a connection is one that the kernel performs by now
abbrev pub HasSteps : Connection → Type 0
HasSteps x = AllValues HasStep x.calls

-- each call that is open at the server is one that its kernel performs by now
abbrev pub HaveSteps : Machine → Type 0
HaveSteps m = AllValues HasSteps m.connections
