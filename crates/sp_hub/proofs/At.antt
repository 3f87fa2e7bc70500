-- The connection of a number, by how far it is.
use Rattle.std.specs.Prelude.{map}
use Rattle.std.specs.List.{list_any}
use Rattle.std.specs.FinMap.{get}
use Rattle.std.proofs.Common.{◌≡◌, ℕ, List, [], ◌∷◌, ◌||◌, Option, None, Some, IsSome, refl, ap, ◌∙◌}
use Rattle.sp_base.specs.Table.{at}
use Rattle.sp_base.specs.declared.names.Pid.{Pid}
use Rattle.kern_model.specs.Journal.{state_after}
use Rattle.hub_model.specs.Sound.{IsSound}
use Rattle.hub_model.specs.State.{Connection, Machine, process_in, speaks}
use Rattle.hub_model.specs.declared.state.Condition.{Condition}
use Rattle.sp_hub.specs.At.{condition_in}

pub there : (o : Option Connection) (condition : Condition) → condition_in o ≡ Some condition → IsSome o
there None condition e = absurd cc
there (Some x) condition e = refl

live_by : (m : Machine) (c : ℕ) (condition : Condition) (pid : Pid) (o : Option Connection) → IsSound m → get m.connections c ≡ o → condition_in o ≡ Some condition → process_in condition ≡ Some pid → IsSome (at (state_after m.journal).processes pid.0)
live_by m c condition pid None sound here e p = absurd cc
live_by m c condition pid (Some x) sound here e p = let same : x.condition ≡ condition = cc in (sound.each c x here).process pid (ap process_in same ∙ p)

-- the process of a connection is live
pub live_at : (m : Machine) (c : ℕ) (condition : Condition) → IsSound m → condition_in (get m.connections c) ≡ Some condition → (pid : Pid) → process_in condition ≡ Some pid → IsSome (at (state_after m.journal).processes pid.0)
live_at m c condition sound e pid p = live_by m c condition pid (get m.connections c) sound refl e p

-- a test of the values is one of the entries
pub any_values : (es : List (ℕ × Connection)) → list_any (λ e. speaks e.1.condition) es ≡ list_any (λ x. speaks x.condition) (map (λ e. e.1) es)
any_values [] = refl
any_values (e ∷ es) = ap (λ b. speaks e.1.condition || b) (any_values es)
