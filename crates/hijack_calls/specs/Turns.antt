-- How many steps a call has.
use Rattle.std.specs.Prelude.{ℕ, suc, zero, List, [], ◌∷◌}
use Rattle.sp_base.specs.declared.names.Answer.{Answer}
use Rattle.hijack_split.specs.Steps.{Asks, Gives, Polls, Steps}
use Rattle.hijack_split.specs.declared.turn.Route.{Route}
use Rattle.hijack_split.specs.declared.turn.Route.TheVariants as route

-- a call goes elsewhere than to both kernels as a poll
abbrev pub IsWhole : Route → Type 0
IsWhole route.Divided = ⊥
IsWhole _ = Unit {0}

-- the steps that are left behind these answers
abbrev pub left : Steps → List Answer → Steps
left steps [] = steps
left (Asks side call stage follow) (answer ∷ answers) = left (follow answer) answers
left (Gives by given change) (answer ∷ answers) = Gives by given change
left Polls (answer ∷ answers) = Polls

-- however the calls are answered, there are at most so many turns, and the last one is a reply
abbrev pub Ends : ℕ → Steps → Type 0
Ends zero steps = ⊥
Ends (suc n) (Asks side call stage follow) = (answer : Answer) → Ends n (follow answer)
Ends (suc n) (Gives by answer change) = Unit {0}
Ends (suc n) Polls = ⊥
