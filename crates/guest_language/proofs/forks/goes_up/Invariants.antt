use Rattle.std.proofs.Common.{◌≡◌, drop}
use Rattle.guest_language.specs.Forks.{goes_up}
use Rattle.guest_language.proofs.forks.goes_up.Given as goal

abbrev pub invariant-loop-step : goal.invariant-loop-step
invariant-loop-step l = goes_up l.parents (drop l.step-index l.steps) l.at ≡ goes_up l.parents l.steps l.start
