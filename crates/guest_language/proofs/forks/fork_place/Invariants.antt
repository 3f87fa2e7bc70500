use Rattle.std.proofs.Common.{◌≡◌, ◌+◌, drop}
use Rattle.std.specs.Option.{option_map}
use Rattle.guest_language.specs.Forks.{fork_place}
use Rattle.guest_language.proofs.forks.fork_place.Given as goal

abbrev pub invariant-loop-i : goal.invariant-loop-i
invariant-loop-i l = option_map (λ k. l.i + k) (fork_place l.child (drop l.i l.lines)) ≡ fork_place l.child l.lines
