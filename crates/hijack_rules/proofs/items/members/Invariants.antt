use Rattle.std.proofs.Common.{◌≡◌, ◌++◌, drop, map}
use Rattle.hijack_rules.proofs.items.members.Given as goal

abbrev pub invariant-loop-piece : goal.invariant-loop-piece
invariant-loop-piece l = l.members ++ map (λ p. p.now) (drop l.piece-index l.piece-items) ≡ map (λ p. p.now) l.piece-items
