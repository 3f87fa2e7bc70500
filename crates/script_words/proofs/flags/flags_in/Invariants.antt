use Rattle.std.proofs.Common.{◌≡◌, drop, map}
use Rattle.script_words.specs.Flags.{flags_in}
use Rattle.script_words.proofs.flags.flags_in.Given as goal

abbrev pub invariant-loop-name : goal.invariant-loop-name
invariant-loop-name l = flags_in l.flags (map (λ w. w.now) (drop l.name-index l.names)) ≡ flags_in 0 (map (λ w. w.now) l.names)
