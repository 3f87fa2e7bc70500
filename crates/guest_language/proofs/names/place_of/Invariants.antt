use Rattle.std.proofs.Common.{◌≡◌, ◌+◌, drop, map}
use Rattle.std.specs.Option.{option_map}
use Rattle.guest_language.specs.Names.{place_of}
use Rattle.guest_language.proofs.names.place_of.Given as goal

abbrev pub invariant-loop-i : goal.invariant-loop-i
invariant-loop-i l = option_map (λ k. l.i + k) (place_of (map (λ w. w.now) (drop l.i l.names)) l.name) ≡ place_of (map (λ w. w.now) l.names) l.name
