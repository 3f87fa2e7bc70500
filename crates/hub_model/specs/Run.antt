-- Runs of the server's machine.
use Rattle.std.specs.Prelude.{◌≡◌, List, [], ◌∷◌}
use Rattle.hub_model.specs.declared.event.Event.{Event}
use Rattle.hub_model.specs.declared.event.Reply.{Reply}
use Rattle.hub_model.specs.Machine.{Plays}
use Rattle.hub_model.specs.State.{Machine}

-- an event, and what was answered to it
pub record Exchange : Type 0 where
  pub event : Event
  pub reply : Reply

-- the machine goes from one state to another by these exchanges, in order
abbrev pub Runs : Machine → List Exchange → Machine → Type 0
Runs old [] new = new ≡ old
Runs old (exchange ∷ exchanges) new =
    (next : Machine) × Plays old exchange.event exchange.reply next × Runs next exchanges new
